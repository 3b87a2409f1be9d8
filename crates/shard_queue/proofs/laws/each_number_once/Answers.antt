use Rattle.std.proofs.Common.{◌∙◌, sym}
use Rattle.shard_queue.proofs.Totals.{sum_by-ones, below-ones, weight_of, below-once, below-times}
use Rattle.shard_queue.proofs.laws.each_number_once.Goals as goal

pub returns-clause-length : goal.returns-clause-length
returns-clause-length c = λ n xs all. sym (sum_by-ones xs) ∙ all (λ _. 1) ∙ below-ones n

pub returns-clause-once : goal.returns-clause-once
returns-clause-once c = λ n xs all x lt. all (weight_of x) ∙ below-once x n lt

pub returns-clause-others : goal.returns-clause-others
returns-clause-others c = λ n xs all x le. all (weight_of x) ∙ below-times x n le
