-- What each instruction makes of a state, from what its call read.
use Rattle.std.specs.Prelude.{◌≡◌, ◌≢◌, ◌<◌, ℕ, zero, suc, ◌+◌, ◌++◌, Bool, true, false, List, []}
use Rattle.std.specs.Prelude.{◌∷◌, length, nat_lt, Option, Some, None}
use Rattle.std.proofs.Common.{refl, sym, ap, ◌∙◌, cond}
use Rattle.std.proofs.lemmas.Bool.{lt-ltb, ltb-true}
use Rattle.std.proofs.lemmas.Option.{none-some, same_Some}
use Rattle.d_values.specs.Keys.{part_of}
use Rattle.numbered.specs.declared.word.Word.{Word}
use Rattle.dif_machine.specs.Vocabulary.{Firing, KeyPart, Kind, Ldga, NumberKind, TextKind, Object}
use Rattle.dif_machine.specs.Vocabulary.{Reg, at, Value, Int, Text, Variables, kind_of}
use Rattle.dif_machine.specs.Frames.{Frame, at_index, with_tuple, with_value}
use Rattle.dif_machine.specs.Machine.{IsWordOf, value_of}
use Rattle.dif_machine.specs.Semantics.{Next, Goes, Stuck, on, on_kind, on_key, puts, pushes, act}
use Rattle.dif_machine.specs.Steps.Instructions.{held_in, kind_in, load_of, set_in, store_of}
use Rattle.dif_machine.specs.declared.memory.Variable.{Variable}
use Rattle.dif_machine.specs.declared.memory.Variable.TheVariants.{Element}

-- a value of the kind was there, and goes on
kind_was : (k : Kind) (v : Option Value) (go : Value → Next) → on_kind k v go ≢ Stuck
    → (value : Value) × (v ≡ Some value) × (kind_of value ≡ k) × ((other : Value → Next) → on_kind k v other ≡ other value)
kind_was NumberKind (Some (Int n)) go h = (Int n, refl, refl, λ other. refl)
kind_was TextKind (Some (Text bytes)) go h = (Text bytes, refl, refl, λ other. refl)
kind_was _ _ go h = absurd (h refl)

key_is : (key : List KeyPart) (other next : Next) → on_key key other ≢ Stuck → on_key key next ≡ next
key_is [] other next h = absurd (h refl)
key_is (p ∷ ps) other next h = refl

keyed : (key : List KeyPart) (next : Next) → on_key key next ≢ Stuck → next ≢ Stuck
keyed [] next h = absurd (h refl)
keyed (p ∷ ps) next h = h

room : (b : Bool) (n : ℕ) (go : Next) → nat_lt n 8 ≡ b → cond b go Stuck ≢ Stuck → n < 8
room true n go e h = ltb-true n 8 e
room false n go e h = absurd (h refl)

-- the word of a value that is there goes on as the value
pub on_word : (texts : List (List ℕ)) (w : Word) (go : Value → Next) (x : Option Value) → x ≢ None → ((value : Value) → x ≡ Some value → IsWordOf texts w value) → on x go ≡ go (value_of texts w)
on_word texts w go None there is = absurd (there refl)
on_word texts w go (Some value) there is = ap go (sym (is value refl).is)

module _ (s : Frame) (here index : ℕ) (some vars : Variables) (p o : Object) (g f : Firing) where
  -- ---- variables, where an instruction isn't stuck here with some

  pub loads : (variable : Variable) (d : Reg) → act (load_of variable d) p g (at_index s here) some ≢ Stuck
      → act (load_of variable d) o f (at_index s index) vars ≡ Goes (with_value (at_index s index) d (held_in vars variable s.tuple)) vars
  loads (Element x) d runs = key_is s.tuple (puts (at_index s here) d (held_in some (Element x) s.tuple) some) _ runs
  loads _ d runs = refl

  abbrev goes_on : ℕ → Variables → Variable → Value → Next
  goes_on index vars variable value = Goes (at_index s (index + 1)) (set_in vars variable s.tuple value)

  asks : (variable : Variable) (a : Reg) → act (store_of variable a) p g (at_index s here) some ≢ Stuck → on_kind (kind_in variable) (at s.registers a) (goes_on here some variable) ≢ Stuck
  asks (Element x) a runs = keyed s.tuple (on_kind x.kind (at s.registers a) (goes_on here some (Element x))) runs
  asks _ a runs = runs

  same : (variable : Variable) (a : Reg) → act (store_of variable a) p g (at_index s here) some ≢ Stuck
      → act (store_of variable a) o f (at_index s index) vars ≡ on_kind (kind_in variable) (at s.registers a) (goes_on index vars variable)
  same (Element x) a runs = key_is s.tuple (on_kind x.kind (at s.registers a) (goes_on here some (Element x))) _ runs
  same _ a runs = refl

  module _ (variable : Variable) (a : Reg) (runs : act (store_of variable a) p g (at_index s here) some ≢ Stuck) where
    was : (value : Value) × (at s.registers a ≡ Some value) × (kind_of value ≡ kind_in variable) × ((other : Value → Next) → on_kind (kind_in variable) (at s.registers a) other ≡ other value)
    was = kind_was (kind_in variable) (at s.registers a) (goes_on here some variable) (asks variable a runs)

    pub stored_there : at s.registers a ≢ None
    stored_there none = none-some was.0 (sym none ∙ was.1)

    module _ (value : Value) (there : at s.registers a ≡ Some value) where
      same_value : was.0 ≡ value
      same_value = same_Some was.0 value (sym was.1 ∙ there)

      pub stored_kind : kind_of value ≡ kind_in variable
      stored_kind = ap kind_of (sym same_value) ∙ was.2

      pub stores : act (store_of variable a) o f (at_index s index) vars ≡ Goes (at_index s (index + 1)) (set_in vars variable s.tuple value)
      stores = same variable a runs ∙ was.3 (goes_on index vars variable) ∙ ap (goes_on index vars variable) same_value

  -- ---- pushes, of the kind that the instruction says

  abbrev pushing : Kind → Reg → ℕ → Variables → Next
  pushing k a index vars = on_kind k (at s.registers a) (λ value. pushes (at_index s index) (part_of value) vars)

  module _ (k : Kind) (a : Reg) (value : Value) (runs : pushing k a here some ≢ Stuck) (there : at s.registers a ≡ Some value) where
    pushed : (index : ℕ) (vars : Variables) → pushing k a index vars ≡ pushes (at_index s index) (part_of value) vars
    pushed index vars =
        let was = kind_was k (at s.registers a) (λ value. pushes (at_index s here) (part_of value) some) runs in
        was.3 (λ value. pushes (at_index s index) (part_of value) vars) ∙ ap (λ value. pushes (at_index s index) (part_of value) vars) (same_Some was.0 value (sym was.1 ∙ there))

    free : pushes (at_index s here) (part_of value) some ≢ Stuck
    free h = runs (pushed here some ∙ h)

    -- a push that isn't stuck has room
    pub fits : length s.tuple < 8
    fits = room (nat_lt (length s.tuple) 8) (length s.tuple) (Goes (with_tuple (at_index s here) (s.tuple ++ part_of value ∷ [])) some) refl free

    pub pushes_part : pushing k a index vars ≡ Goes (with_tuple (at_index s index) (s.tuple ++ part_of value ∷ [])) vars
    pushes_part = pushed index vars ∙ ap (λ b. cond b (Goes (with_tuple (at_index s index) (s.tuple ++ part_of value ∷ [])) vars) Stuck) (lt-ltb (length s.tuple) 8 fits)

-- the one array of arguments
pub only_array : (o : Object) (f : Firing) (s : Frame) (vars : Variables) (v : ℕ) (a d : Reg) → act (Ldga v a d) o f s vars ≢ Stuck → v ≡ 0
only_array o f s vars zero a d runs = refl
only_array o f s vars (suc v) a d runs = absurd (runs refl)
