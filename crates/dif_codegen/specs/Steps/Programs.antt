-- What clauses are compiled to.
use Rattle.std.specs.Prelude.{List, [], ◌∷◌, map, Option, Some, None}
use Rattle.d_types.specs.Typed as typed
use Rattle.d_types.specs.Typed.{Typeds, end, more, type_of, Evaluate, Trace, Print, Exit, Aggregate}
use Rattle.dif_codegen.specs.Vocabulary.{Typed, ClauseMeant, TypedObject}
use Rattle.dif_codegen.specs.Steps.Code.{object_code}
use Rattle.dif_codegen.specs.Programs.{ActionCode, ClauseCode}

-- ---- what clauses are compiled to

abbrev pub compiled_object : Typed → TypedObject
compiled_object e = record {
  object = record {
    code = (object_code e).code;
    texts = (object_code e).texts;
    numbers = (object_code e).numbers;
  };
  returns = type_of e;
}

abbrev pub compiled_objects : Typeds → List TypedObject
compiled_objects end = []
compiled_objects (more e rest) = compiled_object e ∷ compiled_objects rest

abbrev pub optional_object : Option Typed → Option TypedObject
optional_object None = None
optional_object (Some e) = Some (compiled_object e)

abbrev pub compiled_action : typed.Action → ActionCode
compiled_action (Evaluate e) = Evaluate (compiled_object e)
compiled_action (Trace t e) = Trace t (compiled_object e)
compiled_action (Print format types all) = Print format types (compiled_objects all)
compiled_action (Exit e) = Exit (compiled_object e)
compiled_action (Aggregate index keys argument) =
    Aggregate index (compiled_objects keys) (optional_object argument)

abbrev pub compiled_clause : ClauseMeant → ClauseCode
compiled_clause c = record {
  descriptions = c.descriptions;
  predicate = optional_object c.predicate;
  actions = map compiled_action c.statements;
}
