-- Tables of variables grow: a type that is known stays.
use Rattle.std.proofs.Common.{◌≡◌, ℕ, zero, suc, ◌+◌, ◌<◌, ◌≤◌, List, [], ◌∷◌, ◌++◌, length, Bool}
use Rattle.std.proofs.Common.{true, false, if◌then◌else◌, Option, Some, None, refl, sym, ap, ◌∙◌}
use Rattle.std.proofs.Common.{subst, arith}
use Rattle.d_values.specs.declared.int_type.DType.{DType}
use Rattle.d_types.specs.declared.typed.Space.{Space}
use Rattle.d_types.specs.declared.typed.Variable.{Variable}
use Rattle.d_types.specs.Typed.{Typed, Constant, Text, Fixed, Read, Unary, Operate, Compare}
use Rattle.d_types.specs.Typed.{CompareText, Logic, Choice, Convert, Assign, Update, Count, Strlen}
use Rattle.d_types.specs.Typed.{Strjoin, Typeds, end, more}
use Rattle.std.specs.List.{position_from}
use Rattle.d_types.specs.Variables.{Row, Rows, find, type_at, set_type}
use Rattle.d_types.specs.Steps.Variables.{names_row}
use Rattle.d_types.specs.Targets.{settle_slot}
use Rattle.d_types.specs.Held.{Slots, IsKnown, IsConsistent, AreConsistent}

-- a type that the first table has stands in the second
abbrev pub Extends : Slots → Slots → Type 0
Extends a b = (n : ℕ) (t : DType) → a n ≡ Some t → b n ≡ Some t

abbrev pub Grows : Rows → Rows → Type 0
Grows rows after = Extends (type_at rows) (type_at after) × (length rows ≤ length after)

pub stays : (rows : Rows) → Grows rows rows
stays rows = (λ n t h. h, omega arith)

pub grows_on : (rows mid after : Rows) → Grows rows mid → Grows mid after → Grows rows after
grows_on rows mid after g h = (λ n t e. h.0 n t (g.0 n t e), omega (arith, g.1, h.1))

pub same_rows : (rows after : Rows) → after ≡ rows → Grows rows after
same_rows rows after e = subst (λ (r : Rows). Grows rows r) (sym e) (stays rows)

-- ---- new rows, and types that become known

appended : (rows : Rows) (r : Row) → Extends (type_at rows) (type_at (rows ++ r ∷ []))
appended [] r n t h = let no : None ≡ Some t = h in cc
appended (x ∷ rows) r zero t h = h
appended (x ∷ rows) r (suc n) t h = appended rows r n t h

longer : (rows : Rows) (r : Row) → length (rows ++ r ∷ []) ≡ suc (length rows)
longer [] r = refl
longer (x ∷ rows) r = ap suc (longer rows r)

pub push_grows : (rows : Rows) (r : Row) → Grows rows (rows ++ r ∷ [])
push_grows rows r = (appended rows r, omega (arith, longer rows r))

pub push_below : (rows : Rows) (r : Row) → length rows < length (rows ++ r ∷ [])
push_below rows r = omega (arith, longer rows r)

typed_on : (slot : ℕ) (u : DType) (rows : Rows) → type_at rows slot ≡ None → Extends (type_at rows) (type_at (set_type slot u rows))
typed_on slot u [] none n t h = let no : None ≡ Some t = h in cc
typed_on zero u (x ∷ rows) none zero t h = let no : None ≡ Some t = sym none ∙ h in cc
typed_on zero u (x ∷ rows) none (suc n) t h = h
typed_on (suc slot) u (x ∷ rows) none zero t h = h
typed_on (suc slot) u (x ∷ rows) none (suc n) t h = typed_on slot u rows none n t h

pub as_long : (slot : ℕ) (u : DType) (rows : Rows) → length (set_type slot u rows) ≡ length rows
as_long slot u [] = refl
as_long zero u (x ∷ rows) = refl
as_long (suc slot) u (x ∷ rows) = ap suc (as_long slot u rows)

pub set_grows : (slot : ℕ) (u : DType) (rows : Rows) → type_at rows slot ≡ None → Grows rows (set_type slot u rows)
set_grows slot u rows none = (typed_on slot u rows none, omega (arith, as_long slot u rows))

pub type_is_set : (slot : ℕ) (u : DType) (rows : Rows) → slot < length rows → type_at (set_type slot u rows) slot ≡ Some u
type_is_set slot u [] below = absurd (omega arith)
type_is_set zero u (x ∷ rows) below = refl
type_is_set (suc slot) u (x ∷ rows) below = type_is_set slot u rows (omega arith)

pub settled_grows : (known : Option DType) (slot : ℕ) (t : Option DType) (rows : Rows) → type_at rows slot ≡ known → Grows rows (settle_slot known slot t rows)
settled_grows None slot None rows e = stays rows
settled_grows None slot (Some t) rows e = set_grows slot t rows e
settled_grows (Some u) slot t rows e = stays rows

found_from : (n : ℕ) (space : Space) (name : List ℕ) (rows : Rows) (slot : ℕ) → position_from (names_row space name) n rows ≡ Some slot → slot < n + length rows
found_from n space name [] slot h = let no : None ≡ Some slot = h in cc
found_from n space name (r ∷ rows) slot h = here (names_row space name r) (found_from (n + 1) space name rows slot) h
  where
    here : (b : Bool) → (position_from (names_row space name) (n + 1) rows ≡ Some slot → slot < n + 1 + length rows) →
        (if b then Some n else position_from (names_row space name) (n + 1) rows) ≡ Some slot → slot < n + suc (length rows)
    here true later e = let same : n ≡ slot = cc in omega arith
    here false later e = omega (arith, later e)

pub found_below : (space : Space) (name : List ℕ) (rows : Rows) (slot : ℕ) → find space name rows ≡ Some slot → slot < length rows
found_below space name rows slot h = omega (arith, found_from 0 space name rows slot h)

-- ---- what is consistent stays so

module _ (a b : Slots) (more_known : Extends a b) where
  known_on : (x : Variable) → IsKnown a x → IsKnown b x
  known_on x h = more_known x.slot x.holds h

  mutual
    pub consistent_on : (z : Typed) → IsConsistent a z → IsConsistent b z
    consistent_on (Constant t w) h = h
    consistent_on (Text bs) h = h
    consistent_on (Fixed x) h = tt
    consistent_on (Read x keys) h = (known_on x h.0, all_on keys h.1)
    consistent_on (Unary o t x) h = (h.0, consistent_on x h.1)
    consistent_on (Operate o x y) h = (h.0, consistent_on x h.1, consistent_on y h.2)
    consistent_on (Compare o t x y) h = (h.0, h.1, consistent_on x h.2, consistent_on y h.3)
    consistent_on (CompareText o x y) h = (h.0, h.1, consistent_on x h.2, consistent_on y h.3)
    consistent_on (Logic o x y) h = (h.0, h.1, consistent_on x h.2, consistent_on y h.3)
    consistent_on (Choice t c x y) h = (h.0, h.1, h.2, consistent_on c h.3, consistent_on x h.4, consistent_on y h.5)
    consistent_on (Convert t u x) h = (h.0, consistent_on x h.1)
    consistent_on (Assign x keys y) h = (known_on x h.0, all_on keys h.1, h.2, consistent_on y h.3)
    consistent_on (Update o x keys y) h = (known_on x h.0, all_on keys h.1, h.2, h.3, consistent_on y h.4)
    consistent_on (Count step answer x keys) h = (known_on x h.0, all_on keys h.1, h.2)
    consistent_on (Strlen x) h = (h.0, consistent_on x h.1)
    consistent_on (Strjoin x y) h = (h.0, h.1, consistent_on x h.2, consistent_on y h.3)

    pub all_on : (keys : Typeds) → AreConsistent a keys → AreConsistent b keys
    all_on end h = tt
    all_on (more x rest) h = (consistent_on x h.0, all_on rest h.1)
