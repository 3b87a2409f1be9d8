-- What is read with a level left, and with none.
use Rattle.std.proofs.Common.{◌≡◌, ℕ, zero, suc, ◌+◌, ◌-◌, ◌<◌, ◌≤◌, true, false, List, [], ◌∷◌}
use Rattle.std.proofs.Common.{◌++◌, length, take, get_or, Some, None, refl, arith}
use Rattle.d_lexer.specs.declared.token.Token.{Token}
use Rattle.d_parser.specs.Tree.{Tree, Trees}
use Rattle.d_lexer.specs.declared.token.Mark.TheVariants as m
use Rattle.d_parser.specs.declared.tree.DeclaredType.{DeclaredType}
use Rattle.d_parser.specs.declared.tree.Description.{Description}
use Rattle.d_parser.specs.Tree.{StmtTree}
use Rattle.d_parser.specs.Steps.Marks.{is_at, tail}
use Rattle.d_parser.specs.Steps.Reading.{after_mark, readers, expr_on, binary_tail_on, exprs_tail_on}
use Rattle.d_parser.specs.Words.{type_of_words}
use Rattle.d_parser.specs.Steps.Words.{run, after_run}
use Rattle.d_parser.specs.Tree.{ItemTree}
use Rattle.d_parser.specs.Steps.ReadingScripts.{last_apart, spelled_word, typed_name, item_reader}
use Rattle.d_parser.specs.Steps.ReadingScripts.{items_reader, optional_stmt}
use Rattle.d_parser.specs.Steps.ReadingScripts.{stmts_tail, types_tail, types_tail_on}
use Rattle.d_parser.specs.Steps.ReadingScripts.{descriptions_tail, descriptions_tail_on}

pub expr_step : (n k : ℕ) (ts : List Token) → 0 < n → (readers n).expr k ts ≡ expr_on (readers (n - 1)) k ts
expr_step zero k ts h = absurd (omega arith)
expr_step (suc n) k ts h = let e : suc n - 1 ≡ n = omega arith in rw e refl

pub expr_none : (n k : ℕ) (ts : List Token) → n ≡ 0 → (readers n).expr k ts ≡ None
expr_none n k ts h = rw h refl

pub binary_tail_step : (n k : ℕ) (left : Tree) (ts : List Token) → 0 < n → (readers n).binary_tail k left ts ≡ binary_tail_on (readers (n - 1)) k left ts
binary_tail_step zero k left ts h = absurd (omega arith)
binary_tail_step (suc n) k left ts h = let e : suc n - 1 ≡ n = omega arith in rw e refl

pub binary_tail_none : (n k : ℕ) (left : Tree) (ts : List Token) → n ≡ 0 → (readers n).binary_tail k left ts ≡ None
binary_tail_none n k left ts h = rw h refl

pub exprs_tail_step : (n : ℕ) (all : Trees) (ts : List Token) → 0 < n → (readers n).exprs_tail all ts ≡ exprs_tail_on (readers (n - 1)) all ts
exprs_tail_step zero all ts h = absurd (omega arith)
exprs_tail_step (suc n) all ts h = let e : suc n - 1 ≡ n = omega arith in rw e refl

pub exprs_tail_none : (n : ℕ) (all : Trees) (ts : List Token) → n ≡ 0 → (readers n).exprs_tail all ts ≡ None
exprs_tail_none n all ts h = rw h refl

pub types_step : (n : ℕ) (all : List DeclaredType) (ts : List Token) → 0 < n → types_tail n all ts ≡ types_tail_on (types_tail (n - 1)) all ts
types_step zero all ts h = absurd (omega arith)
types_step (suc n) all ts h = let e : suc n - 1 ≡ n = omega arith in rw e refl

pub types_none : (n : ℕ) (all : List DeclaredType) (ts : List Token) → n ≡ 0 → types_tail n all ts ≡ None
types_none n all ts h = rw h refl

pub descriptions_step : (n : ℕ) (all : List Description) (ts : List Token) → 0 < n → descriptions_tail n all ts ≡ descriptions_tail_on (descriptions_tail (n - 1)) all ts
descriptions_step zero all ts h = absurd (omega arith)
descriptions_step (suc n) all ts h = let e : suc n - 1 ≡ n = omega arith in rw e refl

pub descriptions_none : (n : ℕ) (all : List Description) (ts : List Token) → n ≡ 0 → descriptions_tail n all ts ≡ None
descriptions_none n all ts h = rw h refl

at_suc : (n c : ℕ) → c < n → n - c ≡ suc (n - (c + 1))
at_suc n c h = omega arith

pub stmts_stop : (k n c : ℕ) (all : List StmtTree) (ts : List Token) → c < n → is_at m.CloseBrace ts ≡ true → stmts_tail k (n - c) all ts ≡ Some (all, tail ts)
unfolding stmts_tail
stmts_stop k n c all ts h e = rw (at_suc n c h) (rw e refl)

pub stmts_fail : (k n c : ℕ) (all : List StmtTree) (ts : List Token) → c < n → is_at m.CloseBrace ts ≡ false → after_mark m.Semicolon ts ≡ None → stmts_tail k (n - c) all ts ≡ None
unfolding stmts_tail
stmts_fail k n c all ts h e f = rw (at_suc n c h) (rw (e, f) refl)

pub stmts_fail_optional : (k n c : ℕ) (all : List StmtTree) (ts rest : List Token) → c < n → is_at m.CloseBrace ts ≡ false → after_mark m.Semicolon ts ≡ Some rest → optional_stmt k all rest ≡ None → stmts_tail k (n - c) all ts ≡ None
unfolding stmts_tail
stmts_fail_optional k n c all ts rest h e f g = rw (at_suc n c h) (rw e (rw f (rw g refl)))

pub stmts_goes : (k n c : ℕ) (all : List StmtTree) (ts rest : List Token) (x : List StmtTree × List Token) → c < n → is_at m.CloseBrace ts ≡ false → after_mark m.Semicolon ts ≡ Some rest → optional_stmt k all rest ≡ Some x → stmts_tail k (n - c) all ts ≡ stmts_tail k (n - (c + 1)) x.0 x.1
unfolding stmts_tail
stmts_goes k n c all ts rest x h e f g = rw (at_suc n c h) (rw e (rw f (rw g refl)))

pub stmts_end : (k n c : ℕ) (all : List StmtTree) (ts : List Token) → n ≤ c → stmts_tail k (n - c) all ts ≡ None
unfolding stmts_tail
stmts_end k n c all ts h = let e : n - c ≡ 0 = omega arith in rw e refl

last_taken : (ts : List Token) (x : Token) → 1 ≤ length ts → x ≡ get_or ts (length ts - 1) x → last_apart ts ≡ Some (take (length ts - 1) ts, x)
last_taken [] x h e = absurd (omega arith)
last_taken (t ∷ []) x h e = rw e refl
last_taken (t ∷ (u ∷ ts)) x h e =
    let n : length (t ∷ (u ∷ ts)) - 1 ≡ suc (length (u ∷ ts) - 1) = omega arith in
    let below = last_taken (u ∷ ts) x (omega arith) (rw n at e) in
    rw (n, below) refl

pub typed_some : (ts words rest : List Token) (x : Token) (t : DeclaredType) → words ≡ run ts → rest ≡ after_run ts → 1 ≤ length words → x ≡ get_or words (length words - 1) x → type_of_words (take (length words - 1) words) ≡ Some t → typed_name ts ≡ Some ((t, spelled_word x.kind), rest)
unfolding typed_name
typed_some ts words rest x t own later len last e = rw (← own, ← later) (rw (last_taken words x len last) (rw e refl))

pub typed_none : (ts words : List Token) (x : Token) → words ≡ run ts → 1 ≤ length words → x ≡ get_or words (length words - 1) x → type_of_words (take (length words - 1) words) ≡ None → typed_name ts ≡ None
unfolding typed_name
typed_none ts words x own len last e = rw (← own) (rw (last_taken words x len last) (rw e refl))

pub items_fail : (k n c : ℕ) (all : List ItemTree) (ts : List Token) → c < n → 1 ≤ length ts → item_reader k ts ≡ None → items_reader k (n - c) all ts ≡ None
unfolding items_reader
items_fail k n c all [] h l e = absurd (omega arith)
items_fail k n c all (t ∷ ts) h l e = rw (at_suc n c h) (rw e refl)

pub items_stop : (k n c : ℕ) (all : List ItemTree) (ts : List Token) → c < n → length ts ≡ 0 → items_reader k (n - c) all ts ≡ Some all
unfolding items_reader
items_stop k n c all [] h e = rw (at_suc n c h) refl
items_stop k n c all (t ∷ ts) h e = absurd (omega arith)

pub items_goes : (k n c : ℕ) (all : List ItemTree) (ts : List Token) (x : ItemTree × List Token) → c < n → 1 ≤ length ts → item_reader k ts ≡ Some x → items_reader k (n - c) all ts ≡ items_reader k (n - (c + 1)) (all ++ x.0 ∷ []) x.1
unfolding items_reader
items_goes k n c all [] x h l e = absurd (omega arith)
items_goes k n c all (t ∷ ts) x h l e = rw (at_suc n c h) (rw e refl)

pub items_end : (k n c : ℕ) (all : List ItemTree) (ts : List Token) → n ≤ c → items_reader k (n - c) all ts ≡ None
unfolding items_reader
items_end k n c all ts h = let e : n - c ≡ 0 = omega arith in rw e refl

pub ruleset binary_tail = (binary_tail_step, binary_tail_none)

pub ruleset descriptions = (descriptions_step, descriptions_none)

pub ruleset stmts = (stmts_stop, stmts_goes, stmts_fail, stmts_fail_optional, stmts_end)
