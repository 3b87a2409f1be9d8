use Rattle.std.proofs.Common.{◌++◌, ◌∙◌, ap, arith, map}
use Rattle.std.specs.Map.Iter.{deref_pair}
use Rattle.report.specs.Listing.{listing_bytes}
use Rattle.report.proofs.Outputs.{tables_none, tables_more, tables_all}
use Rattle.report.proofs.rendering.put_tables.Goals as goal

pub loop-agg-init : goal.loop-agg-init
loop-agg-init g c contributions stands = tables_none contributions _

pub loop-agg-preserved : goal.loop-agg-preserved
loop-agg-preserved g c contributions stands =
    tables_more contributions _ _ _ _ _ (omega arith) (λ function at. record {
      entries = map deref_pair c.in_ok-entries.entries.items;
      listing = c.in_ok-entries.ensures contributions function stands at;
      bytes = c.in_ok-put_entries.ensures ∙ ap (λ l. c.loop-agg.out.items ++ listing_bytes (map deref_pair l)) c.deref.ensures.value;
    }) (c.loop-agg.invariant contributions stands)

pub returns : goal.returns
returns g c contributions stands = tables_all contributions _ _ _ _ (omega arith) (c.loop-agg.invariant contributions stands)
