use Rattle.std.proofs.Common.{◌-◌, arith}
use Rattle.d_lexer.proofs.Settling.{settle_all, settle_back}
use Rattle.d_lexer.proofs.closing_slash.settle.Goals as goal

pub loop-i-init : goal.loop-i-init
loop-i-init c = settle_all c.args.tokens.now

pub loop-i-preserved : goal.loop-i-preserved
loop-i-preserved c =
    settle_back (c.loop-i.i - 1) c.loop-i.i c.loop-i.brace c.is_brace-next.result c.loop-i.tokens _ c.index-tokens-i.result c.settle_one.new.token
    (omega arith) (omega arith) c.index-tokens-i.is c.settle_one.ensures c.is_brace-next.ensures c.loop-i.invariant
