use Rattle.std.proofs.Common.{Global, Vec, arith}
use Rattle.d_lexer.specs.declared.token.Token.{Token}
use Rattle.d_lexer.proofs.Public.{ok_of, err_of, lexed_of, refused_of, few_of, small_of, in_bounds}
use Rattle.d_lexer.proofs.scanner.lex.Goals as goal

pub returns-clause-ok : goal.returns-clause-ok
returns-clause-ok c = ok_of (λ (v : Vec Token Global). v.items) c.args.bytes.now c.if-bytes-gt-MAX_BYTES.false c.final_tokens.result c.final_tokens.ensures

pub returns-clause-err : goal.returns-clause-err
returns-clause-err c = err_of (λ (v : Vec Token Global). v.items) c.args.bytes.now c.if-bytes-gt-MAX_BYTES.false c.final_tokens.result c.final_tokens.ensures

pub returns-clause-lexed : goal.returns-clause-lexed
returns-clause-lexed c ts a = lexed_of (λ (v : Vec Token Global). v.items) c.args.bytes.now c.if-bytes-gt-MAX_BYTES.false c.final_tokens.result c.final_tokens.ensures ts a

pub returns-clause-refused : goal.returns-clause-refused
returns-clause-refused c g a = refused_of (λ (v : Vec Token Global). v.items) c.args.bytes.now c.if-bytes-gt-MAX_BYTES.false c.final_tokens.result c.final_tokens.ensures g a

pub returns-clause-few : goal.returns-clause-few
returns-clause-few c = few_of (λ (v : Vec Token Global). v.items) c.args.bytes.now c.if-bytes-gt-MAX_BYTES.false c.final_tokens.result c.final_tokens.ensures

pub returns-clause-too_long : goal.returns-clause-too_long
returns-clause-too_long c =
    (λ t. absurd (in_bounds (λ (v : Vec Token Global). v.items) c.args.bytes.now c.if-bytes-gt-MAX_BYTES.false c.final_tokens.result c.final_tokens.ensures t), λ long. absurd (omega (arith, long)))

pub returns-clause-small : goal.returns-clause-small
returns-clause-small c =
    small_of (λ (v : Vec Token Global). v.items) c.args.bytes.now c.if-bytes-gt-MAX_BYTES.false c.final_tokens.result c.final_tokens.ensures
