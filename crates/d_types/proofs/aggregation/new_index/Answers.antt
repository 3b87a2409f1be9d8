use Rattle.std.proofs.Common.{refl}
use Rattle.d_types.specs.Typed.{aggs_of}
use Rattle.d_types.proofs.Binds.{passed_on}
use Rattle.d_types.proofs.NewAggregations.{agg_refused, agg_within}
use Rattle.d_types.proofs.aggregation.new_index.Goals as goal

pub returns-then-keys-gt-MAX_KEYS : goal.returns-then-keys-gt-MAX_KEYS
returns-then-keys-gt-MAX_KEYS c = agg_refused c.args.usage.line c.args.usage.name.now c.args.usage.keys.now c.args.usage.function (aggs_of c.args.aggs.now.items) c.if-keys-gt-MAX_KEYS.true

pub returns-in-None : goal.returns-in-None
returns-in-None c = rw (agg_within c.args.usage.line c.args.usage.name.now c.args.usage.keys.now c.args.usage.function (aggs_of c.args.aggs.now.items) c.if-keys-gt-MAX_KEYS.false, c.in-None.is) refl

pub returns-in_ok-index-in-Some : goal.returns-in_ok-index-in-Some
returns-in_ok-index-in-Some c =
    passed_on c.in_ok-index-in-Some.index _ _ _ _ (rw (agg_within c.args.usage.line c.args.usage.name.now c.args.usage.keys.now c.args.usage.function (aggs_of c.args.aggs.now.items) c.if-keys-gt-MAX_KEYS.false, c.in-Some.is) refl)
    c.in_ok-index-in-Some.ensures.index c.in_ok-index-in-Some.ensures.added
