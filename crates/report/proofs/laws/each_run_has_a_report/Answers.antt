use Rattle.d_types.specs.{Typed.functions_in}
use Rattle.replay_core.specs.Meaning.{contributions_of, texts_of}
use Rattle.report.proofs.Outputs.{output_exists}
use Rattle.report.proofs.Unique.{one_output}
use Rattle.report.proofs.laws.each_run_has_a_report.Goals as goal

pub returns : goal.returns
returns c = record {
  one = λ m run xs ys. one_output (functions_in m) (texts_of run) (contributions_of run) xs ys;
  some = λ m run. output_exists (contributions_of run) (functions_in m) (texts_of run);
}
