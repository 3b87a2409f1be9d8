use Rattle.std.proofs.Common.{◌≡◌, ℕ, rules, take, replicate}
use Rattle.std.proofs.lemmas.List.{take-replicate}
use Rattle.report.proofs.columns.put_spaces.Goals as goal

pub returns : goal.returns
returns c = let blank : take c.args.count (replicate {A = ℕ} 50 32) ≡ replicate c.args.count 32 = take-replicate c.args.count 50 32 c.requires in search (rules, blank)
