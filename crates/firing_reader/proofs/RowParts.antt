-- A plain row, as it is stored.
use Rattle.std.proofs.Common.{◌≡◌, ◌≤◌, ◌+◌, ◌∙◌, ◌^◌, length, ap, subst, ℕ, ℤ, List, [], ◌∷◌, ◌++◌, get_or, map, All, Option, None, Some, refl, sym}
use Rattle.std.specs.Prelude.{MatchOption, slice_get}
use Rattle.std.proofs.lemmas.List.Elements.{All-append, All-cons, All-nil}
use Rattle.firings.specs.declared.firing.Firing.{Firing}
use Rattle.firings.specs.declared.stored_row.Row.{Row}
use Rattle.firings.specs.declared.unit.Owner.{Owner}
use Rattle.firings.specs.declared.unit.Probe.{Probe}
use Rattle.firing_reader.specs.Plain.{Passes, ReadsOwner, ReadsProbe, IsEnd, ReadsRow}
use Rattle.firing_reader.specs.Steps.Plain.{BeginsRow, BeginsWith, JoinsField, ReadsArguments}
use Rattle.firing_reader.specs.Column.{number_from}
use Rattle.firings.specs.Stored.{Extends, IsRowIn, firing_in, no_owner, no_probe}
use Rattle.firings.specs.Units.{part}
use Rattle.firings.specs.Arguments.{ten}
use Rattle.firings.specs.Probing.{probe_of}
use Rattle.firing_reader.specs.Steps.Stored.{owner_of}
use Rattle.firing_reader.proofs.PlainFirings.{ReadsNumbers, fields, firing_ok}
use Rattle.firing_reader.proofs.PlainRows.{closes_more, passes_one, row_read}
use Rattle.firings.proofs.Stored.{named_at, named_in, rows_more, stored}

-- the owner at an index, and the probe at one
owner_there : (os : List Owner) (p : ℕ) (o : Owner) (b r : List ℕ) → slice_get os p ≡ Some o → ReadsOwner b r o
    → ReadsOwner b r (record { cpu = (get_or os p no_owner).cpu; thread = (get_or os p no_owner).thread; pid = (get_or os p no_owner).pid; execname = (get_or os p no_owner).execname })
owner_there os p o b r there h = rw (named_at os p o no_owner there) h

probe_there : (ps : List Probe) (p : ℕ) (q : Probe) (b r : List ℕ) → slice_get ps p ≡ Some q → ReadsProbe b r q
    → ReadsProbe b r (record { provider = (get_or ps p no_probe).provider; probemod = (get_or ps p no_probe).probemod; probefunc = (get_or ps p no_probe).probefunc; name = (get_or ps p no_probe).name })
probe_there ps p q b r there h = rw (named_at ps p q no_probe there) h

-- ends of rows, and then a number
pub begins_row : (bytes line rest : List ℕ) (number : ℕ) → (ends : List ℕ) × (bytes ≡ ends ++ line) × All IsEnd ends → (first : ℕ) × (more : List ℕ) × (line ≡ first ∷ more) × JoinsField first
    → (field : List ℕ) × BeginsWith line field (44 ∷ rest) × (number_from 1 (2 ^ 62) field ≡ Some number) → BeginsRow bytes number rest
begins_row bytes line rest number (ends, is, are_ends) (first, more, starts, joins) (field, fronts, is_number) = record {
  ends = ends;
  first = first;
  more = more;
  is_bytes = is ∙ ap (λ it. ends ++ it) starts;
  are_ends = are_ends;
  joins = joins;
  field = field;
  passes = subst (λ it. Passes it (field ∷ []) rest) starts (passes_one line field rest fronts);
  is_number = is_number;
}

-- the parts of a row, one after the other
pub row_parts : (bytes b1 b2 b3 b4 rest : List ℕ) (os : List Owner) (ps : List Probe) (args : List ℤ) (r : Row) (o : Owner) (p : Probe)
    → BeginsRow bytes r.number b1
    → slice_get os r.owner ≡ Some o → ReadsOwner b1 b2 o
    → (field : List ℕ) × BeginsWith b2 field (44 ∷ b3) × (number_from 0 0xFFFF_FFFF_FFFF_FFFF field ≡ Some r.time)
    → slice_get ps r.probe ≡ Some p → ReadsProbe b3 b4 p
    → ReadsArguments b4 rest (ten (part args r.first r.count)) → ReadsRow bytes rest (firing_in os ps args r)
row_parts bytes b1 b2 b3 b4 rest os ps args r o p begins at_o reads_o (x6, f6, n6) at_p reads_p a =
    let f : Firing = firing_in os ps args r in
    let own = owner_there os r.owner o b1 b2 at_o reads_o in
    let fired = probe_there ps r.probe p b3 b4 at_p reads_p in
    let numbers : ReadsNumbers f = record { x1 = begins.field; x6 = x6; is_number = begins.is_number; is_time = n6 } in
    let tens = a.x0 ∷ a.x1 ∷ a.x2 ∷ a.x3 ∷ a.x4 ∷ a.x5 ∷ a.x6 ∷ a.x7 ∷ a.x8 ∷ a.x9 ∷ [] in
    let names = own.x2 ∷ own.x3 ∷ own.x4 ∷ own.x5 ∷ [] in
    let texts = fired.x7 ∷ fired.x8 ∷ fired.x9 ∷ fired.x10 ∷ [] in
    let q3 = closes_more b3 b4 rest texts tens fired.passes a.closes in
    let q2 = closes_more b2 b3 rest (x6 ∷ []) (texts ++ tens) (passes_one b2 x6 b3 f6) q3 in
    let q1 = closes_more b1 b2 rest names (x6 ∷ (texts ++ tens)) own.passes q2 in
    let line = begins.first ∷ begins.more in
    let q0 = closes_more line b1 rest (begins.field ∷ []) (names ++ (x6 ∷ (texts ++ tens))) begins.passes q1 in
    record {
      fields = fields f numbers own fired a;
      end = q0.end;
      after = q0.after;
      is_rest = q0.is_rest;
      ends = q0.ends;
      read = row_read bytes begins.ends line rest (begins.field ∷ (names ++ (x6 ∷ (texts ++ tens)))) begins.first begins.more begins.is_bytes begins.are_ends refl begins.joins q0;
      firing = firing_ok f numbers own fired a;
    }

-- a row whose owner and whose probe are there
pub row_in : (os : List Owner) (ps : List Probe) (args : List ℤ) (r : Row) (o : Owner) (p : Probe) → slice_get os r.owner ≡ Some o → slice_get ps r.probe ≡ Some p → r.first + r.count ≤ length args
    → IsRowIn os ps args r
row_in os ps args r o p at_o at_p inside = record { owner = named_in os r.owner o at_o; probe = named_in ps r.probe p at_p; inside = inside }

-- one more row, after what is kept for it
pub pushed_in : (o q : List Owner) (p u : List Probe) (a b : List ℤ) (rs : List Row) (r : Row) → Extends o q → Extends p u → Extends a b → All (IsRowIn o p a) rs → IsRowIn q u b r
    → All (IsRowIn q u b) (rs ++ r ∷ [])
pushed_in o q p u a b rs r eo ep ea all is =
    All-append (IsRowIn q u b) rs (r ∷ []) (rows_more o q p u a b rs eo ep ea all) (All-cons (IsRowIn q u b) r [] is (All-nil (IsRowIn q u b)))

-- a firing that is stored as a row with its owner, its probe and its arguments
pub row_stored : (os : List Owner) (ps : List Probe) (args : List ℤ) (rs : List Row) (old : List Firing) (r : Row) (f : Firing) → map (firing_in os ps args) rs ≡ old
    → slice_get os r.owner ≡ Some (owner_of f) → slice_get ps r.probe ≡ Some (probe_of f) → ten (part args r.first r.count) ≡ f.args → r.number ≡ f.number → r.time ≡ f.time
    → map (firing_in os ps args) (rs ++ r ∷ []) ≡ old ++ f ∷ []
row_stored os ps args rs old r f is at_o at_p own number time =
    let one : firing_in os ps args r ≡ f = rw (named_at os r.owner (owner_of f) no_owner at_o, named_at ps r.probe (probe_of f) no_probe at_p, own, number, time) refl in
    stored os ps args rs r f old is one

-- a row that was added if there was memory for it: what holds either way
pub either_row : (found : Option (Unit {0})) (P : List Row → Type 0) (rs new : List Row) (r : Row) → MatchOption found (new ≡ rs) (λ _. new ≡ rs ++ r ∷ []) → P rs → P (rs ++ r ∷ []) → P new
either_row None P rs new r is same more = subst P (sym is) same
either_row (Some t) P rs new r is same more = subst P (sym is) more

-- and the firings that are seen
pub seen_pushed : (found : Option (Unit {0})) (made : Row → Firing) (rs new : List Row) (r : Row) (old : List Firing) (f : Firing) → MatchOption found (new ≡ rs) (λ _. new ≡ rs ++ r ∷ []) → map made rs ≡ old
    → map made (rs ++ r ∷ []) ≡ old ++ f ∷ [] → MatchOption found (map made new ≡ old) (λ _. map made new ≡ old ++ f ∷ [])
seen_pushed None made rs new r old f is same more = ap (map made) is ∙ same
seen_pushed (Some t) made rs new r old f is same more = ap (map made) is ∙ more
