use Rattle.std.proofs.Common.{sym, ap, refl, inr}
use Rattle.d_lexer.specs.Steps.Lexing.{with_tokens}
use Rattle.d_lexer.proofs.Lexing.{gap_step, token_goes, fault_step}
use Rattle.d_lexer.proofs.scanner.step.Goals as goal

pub returns-in-Ok-Gap-clause-is : goal.returns-in-Ok-Gap-clause-is
returns-in-Ok-Gap-clause-is c = ap (with_tokens c.args.tokens.now.items) (sym (gap_step c.args.cursor.place c.args.cursor.pos c.args.b c.in-Ok-Gap.n c.args.rest.now (rw c.in-Ok-Gap.field-0-is at c.in-Ok-Gap.ensures.is)))

pub returns-in_ok-put-in-Ok-Token-clause-is : goal.returns-in_ok-put-in-Ok-Token-clause-is
returns-in_ok-put-in-Ok-Token-clause-is c =
    rw (c.after-next.ensures) (token_goes c.args.tokens.now.items c.args.cursor.place c.args.cursor.pos c.args.b c.in-Ok-Token.n c.args.rest.now _ c.put.new.tokens.items (rw c.in-Ok-Token.field-0-is at c.in-Ok-Token.ensures.is) refl refl refl c.in_ok-put-in-Ok-Token.ensures.ok)

pub returns-in-Err-Flawed-clause-is : goal.returns-in-Err-Flawed-clause-is
returns-in-Err-Flawed-clause-is c =
    let e = fault_step c.args.cursor.place c.args.cursor.pos c.args.b c.args.rest.now c.in-Err-Flawed.flaw (rw c.in-Err-Flawed.field-0-is at c.in-Err-Flawed.ensures.is) in inr (cc)
