use Rattle.std.proofs.Common.{map, rules}
use Rattle.consumer.proofs.CommandLine.{request, request_or_memory, no_fault, only_memory, rows_matched}
use Rattle.consumer.proofs.arguments.read_words.Goals as goal

pub returns-in-Ok : goal.returns-in-Ok
returns-in-Ok c =
    let same = c.in_ok-command.ensures in
    let rows = rows_matched _ _ _ same c.in-Ok.ensures.matches in
    record {
      exact = request _ _ _ (no_fault _ _ same c.in-Ok.ensures.kinds) rows c.request_in-request.ensures;
      taken = λ taken has. request_or_memory _ (map (λ w. w.now) c.args.arguments.now) _ rows c.request_in-request.ensures has;
    }

pub returns-in-Err : goal.returns-in-Err
returns-in-Err c = record {
  exact = search rules;
  taken = λ taken has. only_memory _ _ _ _ c.in_ok-command.ensures c.usage_fault.ensures c.in-Err.ensures.passes taken;
}
