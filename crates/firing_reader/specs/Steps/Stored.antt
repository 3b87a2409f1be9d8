-- Units that are stored, owners of firings, and rows of one piece, moved after those of another.
use Rattle.std.specs.Prelude.{◌≡◌, ◌<◌, ◌+◌, ◌^◌, ℕ, Bool, List, Option, Some, IfSome, length}
use Rattle.std.specs.Prelude.{get_or, slice_get, true}
use Rattle.firings.specs.declared.firing.Firing.{Firing}
use Rattle.firings.specs.declared.stored_row.Row.{Row}
use Rattle.firings.specs.declared.unit.Owner.{Owner}
use Rattle.firings.specs.Stored.{Extends}

-- the list goes on, and this holds of what a call returned, if it returned anything
abbrev pub Gains : {X Y : Type 0} → (old new : List X) → Option Y → (Y → Type 0) → Type 0
Gains old new result Holds = Extends old new × IfSome result Holds

-- at this index is the unit of these bytes; if they are plain fields, they write its entry
abbrev pub IsUnitOf : {E : Type 0} → (Reads : E → List ℕ → Type 0) → List (List ℕ × E)
    → (key : List ℕ) → (plain : Bool) → (index : ℕ) → Type 0
IsUnitOf {E} Reads units key plain index = (e : E) × (slice_get units index ≡ Some (key, e))
    × (plain ≡ true → Reads e key)

-- who fired
abbrev pub owner_of : Firing → Owner
owner_of f = record { cpu = f.cpu; thread = f.thread; pid = f.pid; execname = f.execname }

-- a row whose owner and probe have these indices among others, and whose arguments begin this
-- much later
abbrev pub moved_row : List ℕ → List ℕ → ℕ → Row → Row
moved_row owners probes shift r = record r {
  owner = get_or owners r.owner 0;
  probe = get_or probes r.probe 0;
  first = r.first + shift;
}

-- there is an index for the row's owner, for its probe, and for its first argument
pub record IsMovable (owners probes : List ℕ) (shift : ℕ) (r : Row) : Type 0 where
  pub owner : r.owner < length owners
  pub probe : r.probe < length probes
  pub first : r.first + shift < 2 ^ 32
