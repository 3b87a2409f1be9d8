-- A piece of no firing.
use Rattle.std.specs.Prelude.{◌≡◌, [], None}
use Rattle.aggregations.specs.Table.{StandsFor, count_held}
use Rattle.replay_core.specs.declared.lanes.piece.Piece.{Piece}

-- a piece of no firing
pub record IsEmptyPiece (p : Piece) : Type 0 where
  pub texts : p.events.items ≡ []
  pub table : StandsFor p.table []
  pub held : count_held p.table ≡ 0
  pub taken : p.taken.items ≡ []
  pub exit : p.exit ≡ None
