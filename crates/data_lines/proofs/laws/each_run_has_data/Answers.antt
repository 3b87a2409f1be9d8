use Rattle.data_lines.proofs.Unique.{data_exists, one_data}
use Rattle.data_lines.specs.Layout.{whole_run}
use Rattle.data_lines.proofs.laws.each_run_has_data.Goals as goal

pub returns : goal.returns
returns c = record {
  one = λ m run xs ys. one_data m.aggregations (whole_run run) xs ys;
  some = λ m run. data_exists m.aggregations (whole_run run);
}
