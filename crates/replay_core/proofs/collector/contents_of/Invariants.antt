use Rattle.std.proofs.Common.{◌≡◌, ◌++◌, map, flat_map}
use Rattle.std.specs.Vec.Iter.{into_iter_items}
use Rattle.replay_core.specs.Uniting.{sooner, first_exit}
use Rattle.replay_core.proofs.collector.contents_of.Given as goal

abbrev pub invariant-loop-piece : goal.invariant-loop-piece
invariant-loop-piece l = record {
  texts : l.contents.events.items ++ flat_map (λ p. p.events.items) (into_iter_items l.piece-iterator) ≡ flat_map (λ p. p.events.items) l.fn.pieces.items;
  tables : l.contents.tables.items ++ map (λ p. p.table) (into_iter_items l.piece-iterator) ≡ map (λ p. p.table) l.fn.pieces.items;
  ran : map (λ v. v.items) l.contents.ran.items ++ map (λ p. p.taken.items) (into_iter_items l.piece-iterator) ≡ map (λ p. p.taken.items) l.fn.pieces.items;
  exit : sooner l.contents.exit (first_exit (map (λ p. p.exit) (into_iter_items l.piece-iterator))) ≡ first_exit (map (λ p. p.exit) l.fn.pieces.items);
}
