-- Units that are found by their bytes.
use Rattle.std.specs.Prelude.{◌≡◌, ℕ, List, true}
use Rattle.firings.specs.declared.units.Known.{Known}
use Rattle.firings.specs.Units.{IsUnitIn, part}

-- a unit that is there; if its bytes are plain fields, they write its entry
pub record IsReadIn {E : Type 0} (In Reads : E → List ℕ → Type 0) (bytes : List ℕ) (k : Known E)
    : Type 0 where
  pub unit : IsUnitIn In bytes k
  pub reads : k.plain ≡ true → Reads k.entry (part bytes k.begin k.count)
