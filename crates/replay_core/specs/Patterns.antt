-- Which probes a description matches.
-- Source: Dynamic Tracing Guide, "Probe Descriptions".
use Rattle.std.specs.Prelude.{◌≡◌, ◌⊎◌, ◌==◌, ◌&&◌, ◌||◌, ℕ, Bool, true, false, if◌then◌else◌, List}
use Rattle.std.specs.Prelude.{[], ◌∷◌, ◌++◌}
use Rattle.std.specs.Str.{byte}
pub use Rattle.firings.specs.Probing.{probe_of}
use Rattle.firings.specs.declared.unit.Probe.{Probe}
use Rattle.d_parser.specs.declared.tree.Description.{Description}

-- the bytes that one byte of a pattern takes: a star any, none included, a question mark one, and
-- any other byte itself
pub data Takes (p : ℕ) (own : List ℕ) : Type 0 where
  any : p ≡ byte "*" → Takes p own
  one : (b : ℕ) → p ≡ byte "?" → own ≡ b ∷ [] → Takes p own
  itself : own ≡ p ∷ [] → Takes p own

-- the bytes of the pattern take those of the text, one after the other
abbrev pub Matches : (pattern text : List ℕ) → Type 0
Matches [] text = text ≡ []
Matches (p ∷ pattern) text =
    (own : List ℕ) × (rest : List ℕ) × (text ≡ own ++ rest) × Takes p own × Matches pattern rest

-- an empty field matches everything
abbrev pub MatchesField : (pattern text : List ℕ) → Type 0
MatchesField pattern text = (pattern ≡ []) ⊎ Matches pattern text

-- each field of the description matches that of the probe
pub record Selects (d : Description) (p : Probe) : Type 0 where
  pub provider : MatchesField d.provider p.provider
  pub probemod : MatchesField d.«module» p.probemod
  pub probefunc : MatchesField d.function p.probefunc
  pub name : MatchesField d.name p.name

-- the test passes after some of the bytes
abbrev pub passes_after : (List ℕ → Bool) → List ℕ → Bool
passes_after test [] = test []
passes_after test (b ∷ text) = test (b ∷ text) || passes_after test text

abbrev pub is_same_or_question : ℕ × ℕ → Bool
is_same_or_question pair = (pair.0 == pair.1) || (pair.0 == byte "?")

-- p takes the first byte, and the test passes after it
abbrev pub passes_after_one : ℕ → (List ℕ → Bool) → List ℕ → Bool
passes_after_one p test [] = false
passes_after_one p test (b ∷ text) = is_same_or_question (p, b) && test text

abbrev pub matches : (pattern text : List ℕ) → Bool
matches [] [] = true
matches [] (b ∷ text) = false
matches (p ∷ pattern) text =
    if p == byte "*" then passes_after (matches pattern) text
    else passes_after_one p (matches pattern) text

abbrev pub field_matches : (pattern text : List ℕ) → Bool
field_matches [] text = true
field_matches (p ∷ pattern) text = matches (p ∷ pattern) text

abbrev pub selects : Description → Probe → Bool
selects d p =
    field_matches d.provider p.provider && field_matches d.«module» p.probemod
    && field_matches d.function p.probefunc && field_matches d.name p.name
