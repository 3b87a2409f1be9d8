-- Depth, token by token and of the whole list.
use Rattle.std.proofs.Common.{◌≡◌, ℕ, zero, suc, ◌+◌, ◌-◌, ◌<◌, ◌≤◌, Bool, true, false, List, [], ◌∷◌}
use Rattle.std.proofs.Common.{◌++◌, length, cond, refl, sym, ap, ◌∙◌, arith, inl, inr}
use Rattle.std.specs.Prelude.{◌||◌, ◌⊎◌, nat_lt}
use Rattle.std.proofs.lemmas.Bool.{cases_lt, ltb-true, lt-ltb}
use Rattle.std.proofs.lemmas.List.Sums.{sum_by-append}
use Rattle.d_lexer.specs.declared.token.Token.{Token}
use Rattle.d_lexer.specs.declared.token.Mark.TheVariants as m
use Rattle.d_lexer.specs.declared.token.TokenKind.{TokenKind}
use Rattle.d_lexer.specs.declared.token.TokenKind.TheVariants as kind
use Rattle.d_parser.specs.Limits.{opens, closes, ends_row, how_many, IsDeep}
use Rattle.d_parser.specs.Steps.Depth.{open_after, row_with, is_deep}

-- a stretch that is too deep after b open brackets and r tokens in a row
abbrev Full : ℕ → ℕ → List Token → Type 0
Full b r p = (64 + how_many closes p < b + how_many opens p) ⊎ ((1024 < r + length p) × (how_many ends_row p ≡ 0))

-- such a stretch at the front
record Front (b r : ℕ) (ts : List Token) : Type 0 where
  p : List Token
  q : List Token
  is : ts ≡ p ++ q
  full : Full b r p

-- ---- a step

-- no token both opens and closes
apart : (t : TokenKind) → opens t ≡ true → closes t ≡ false
apart (kind.Mark m.CloseParenthesis) h = absurd cc
apart (kind.Mark m.CloseBracket) h = absurd cc
apart t h = refl

deeper : (o c : Bool) (b x y : ℕ) → (o ≡ true → c ≡ false) → 64 + y < cond o (suc b) (cond c (b - 1) b) + x → (64 + (cond c 1 0 + y) < b + (cond o 1 0 + x)) ⊎ (64 + y < x)
deeper true true b x y e h = absurd (let both = e refl in cc)
deeper true false b x y e h = inl (omega arith)
deeper false true zero x y e h = inr (omega arith)
deeper false true (suc b) x y e h = inl (omega arith)
deeper false false b x y e h = inl (omega arith)

shallower : (o c : Bool) (b x y : ℕ) → 64 + (cond c 1 0 + y) < b + (cond o 1 0 + x) → 64 + y < cond o (suc b) (cond c (b - 1) b) + x
shallower true c b x y h = omega arith
shallower false true b x y h = omega arith
shallower false false b x y h = omega arith

longer : (ends : Bool) (r n e : ℕ) → 1024 < cond ends 0 (suc r) + n → e ≡ 0 → ((1024 < r + suc n) × (cond ends 1 0 + e ≡ 0)) ⊎ (1024 < n)
longer true r n e h k = inr (omega arith)
longer false r n e h k = inl (omega arith, omega arith)

shorter : (ends : Bool) (r n e : ℕ) → 1024 < r + suc n → cond ends 1 0 + e ≡ 0 → (1024 < cond ends 0 (suc r) + n) × (e ≡ 0)
shorter true r n e h k = absurd (omega arith)
shorter false r n e h k = (omega arith, omega arith)

counted : (is : TokenKind → Bool) (t : Token) (p : List Token) → how_many is (t ∷ p) ≡ cond (is t.kind) 1 0 + how_many is p
counted is t p = let parts = sum_by-append (λ (x : Token). cond (is x.kind) 1 0) (t ∷ []) p in omega arith

open_with : (t : Token) (p : List Token) (b : ℕ) → 64 + (cond (closes t.kind) 1 0 + how_many closes p) < b + (cond (opens t.kind) 1 0 + how_many opens p) → 64 + how_many closes (t ∷ p) < b + how_many opens (t ∷ p)
open_with t p b h = rw (counted closes t p, counted opens t p) h

open_without : (t : Token) (p : List Token) (b : ℕ) → 64 + how_many closes (t ∷ p) < b + how_many opens (t ∷ p) → 64 + (cond (closes t.kind) 1 0 + how_many closes p) < b + (cond (opens t.kind) 1 0 + how_many opens p)
open_without t p b h = rw (← counted closes t p, ← counted opens t p) h

-- ---- from the tokens one by one to the list

one_of : (x y z : Bool) → (x || y || z) ≡ true → (x ≡ true) ⊎ ((y ≡ true) ⊎ (z ≡ true))
one_of true y z h = inl refl
one_of false true z h = inr (inl refl)
one_of false false z h = inr (inr h)

within : (t : Token) (ts : List Token) → IsDeep ts → IsDeep (t ∷ ts)
within t ts d = record { before = t ∷ d.before; stretch = d.stretch; later = d.later; is = ap (λ (l : List Token). t ∷ l) d.is; deep = d.deep }

here : (t : Token) (p q ts : List Token) → ts ≡ p ++ q → (64 + how_many closes p < how_many opens p) ⊎ ((1024 < length p) × (how_many ends_row p ≡ 0)) → IsDeep (t ∷ ts)
here t p q ts e d = record { before = t ∷ []; stretch = p; later = q; is = ap (λ (l : List Token). t ∷ l) e; deep = d }

front : (t : Token) (p q ts : List Token) (b r : ℕ) → ts ≡ p ++ q → Full b r (t ∷ p) → Front b r (t ∷ ts)
front t p q ts b r e f = record { p = t ∷ p; q = q; is = ap (λ (l : List Token). t ∷ l) e; full = f }

step : (t : Token) (ts : List Token) (b r : ℕ) → Front (open_after t.kind b) (row_with t.kind r) ts → Front b r (t ∷ ts) ⊎ IsDeep (t ∷ ts)
step t ts b r f =
    elim f.full [
      | inl d ↦ elim (deeper (opens t.kind) (closes t.kind) b (how_many opens f.p) (how_many closes f.p) (apart t.kind) d) [
        | inl w ↦ inl (front t f.p f.q ts b r f.is (inl (open_with t f.p b w)))
        | inr w ↦ inr (here t f.p f.q ts f.is (inl w))
      ]
      | inr l ↦ elim (longer (ends_row t.kind) r (length f.p) (how_many ends_row f.p) l.0 l.1) [
        | inl w ↦ inl (front t f.p f.q ts b r f.is (inr (w.0, counted ends_row t f.p ∙ w.1)))
        | inr w ↦ inr (here t f.p f.q ts f.is (inr (w, l.1)))
      ]
    ]

empty_front : (b r : ℕ) (ts : List Token) → Full b r [] → Front b r ts
empty_front b r ts f = record { p = []; q = ts; is = refl; full = f }

deep_sound : (ts : List Token) (b r : ℕ) → is_deep b r ts ≡ true → Front b r ts ⊎ IsDeep ts
unfolding is_deep
deep_sound [] b r h = absurd (let c : false ≡ true = h in cc)
deep_sound (t ∷ ts) b r h =
    elim (one_of (nat_lt 64 (open_after t.kind b)) (nat_lt 1024 (row_with t.kind r)) (is_deep (open_after t.kind b) (row_with t.kind r) ts) h) [
      | inl x ↦ step t ts b r (empty_front _ _ ts (inl (let l = ltb-true 64 (open_after t.kind b) x in omega arith)))
      | inr (inl x) ↦ step t ts b r (empty_front _ _ ts (inr ((let l = ltb-true 1024 (row_with t.kind r) x in omega arith), refl)))
      | inr (inr z) ↦ elim (deep_sound ts (open_after t.kind b) (row_with t.kind r) z) [
        | inl f ↦ step t ts b r f
        | inr d ↦ inr (within t ts d)
      ]
    ]

-- ---- from the list to the tokens one by one

any_of : (x y z : Bool) → (x ≡ false → y ≡ false → z ≡ true) → (x || y || z) ≡ true
any_of true y z h = refl
any_of false true z h = refl
any_of false false z h = h refl refl

not_over : (n k : ℕ) → nat_lt n k ≡ false → k ≤ n
not_over n k h = elim (cases_lt n k) [
  | inl over ↦ absurd (let e = lt-ltb n k over in cc)
  | inr le ↦ le
]

go_on : (t : Token) (ts : List Token) (b r : ℕ) → (open_after t.kind b ≤ 64 → row_with t.kind r ≤ 1024 → is_deep (open_after t.kind b) (row_with t.kind r) ts ≡ true) → is_deep b r (t ∷ ts) ≡ true
unfolding is_deep
go_on t ts b r h =
    any_of (nat_lt 64 (open_after t.kind b)) (nat_lt 1024 (row_with t.kind r)) (is_deep (open_after t.kind b) (row_with t.kind r) ts)
    (λ x y. h (not_over 64 (open_after t.kind b) x) (not_over 1024 (row_with t.kind r) y))

front_deep : (p q : List Token) (b r : ℕ) → b ≤ 64 → r ≤ 1024 → Full b r p → is_deep b r (p ++ q) ≡ true
front_deep [] q b r le short f = elim f [
  | inl d ↦ absurd (omega arith)
  | inr l ↦ (let one = l.0 in absurd (omega arith))
]
front_deep (t ∷ p) q b r le short f =
    go_on t (p ++ q) b r (λ le2 short2. front_deep p q (open_after t.kind b) (row_with t.kind r) le2 short2 (elim f [
      | inl d ↦ inl (shallower (opens t.kind) (closes t.kind) b (how_many opens p) (how_many closes p) (open_without t p b d))
      | inr l ↦ inr (shorter (ends_row t.kind) r (length p) (how_many ends_row p) l.0 (sym (counted ends_row t p) ∙ l.1))
    ]))

part_deep : (before stretch later : List Token) (b r : ℕ) → b ≤ 64 → r ≤ 1024 → (64 + how_many closes stretch < how_many opens stretch) ⊎ ((1024 < length stretch) × (how_many ends_row stretch ≡ 0)) → is_deep b r (before ++ stretch ++ later) ≡ true
part_deep [] stretch later b r le short d = front_deep stretch later b r le short (elim d [
  | inl x ↦ inl (omega arith)
  | inr x ↦ inr ((let l = x.0 in omega arith), x.1)
])
part_deep (t ∷ before) stretch later b r le short d =
    go_on t (before ++ stretch ++ later) b r (λ le2 short2. part_deep before stretch later (open_after t.kind b) (row_with t.kind r) le2 short2 d)

-- ---- both

from_front : (ts : List Token) → Front 0 0 ts → IsDeep ts
from_front ts f = record {
  before = [];
  stretch = f.p;
  later = f.q;
  is = f.is;
  deep = elim f.full [
    | inl d ↦ inl (omega arith)
    | inr l ↦ inr ((let long = l.0 in omega arith), l.1)
  ];
}

pub deep_is : (ts : List Token) → (is_deep 0 0 ts ≡ true) → IsDeep ts
deep_is ts h = elim (deep_sound ts 0 0 h) [
  | inl f ↦ from_front ts f
  | inr d ↦ d
]

pub is_deep_of : (ts : List Token) → IsDeep ts → is_deep 0 0 ts ≡ true
is_deep_of ts d = rw d.is (part_deep d.before d.stretch d.later 0 0 (omega arith) (omega arith) d.deep)

pub not_deep : (ts : List Token) → is_deep 0 0 ts ≡ false → ¬ IsDeep ts
not_deep ts shallow d = let deep = is_deep_of ts d in cc
