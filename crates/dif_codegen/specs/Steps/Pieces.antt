-- Pieces of code, and how they are put together.
use Rattle.std.specs.Prelude.{ℕ, ◌+◌, List, [], ◌∷◌, ◌++◌, length}
use Rattle.dif_codegen.specs.Vocabulary.{Condition, Instr, Ba, Branch, Setx, Sets, Reg}

-- instructions, and what they add to the tables
pub record Piece : Type 0 where
  pub code : List Instr
  pub texts : List (List ℕ)
  pub numbers : List ℕ

-- where a piece is: how many instructions, texts and numbers come before it
pub record Place : Type 0 where
  pub at : ℕ
  pub texts : ℕ
  pub numbers : ℕ

-- a piece for each index
abbrev pub Maker : Type 0
Maker = Place → Piece

abbrev pub nothing : Maker
nothing pl = record { code = []; texts = []; numbers = [] }

abbrev pub one_instr : Instr → Maker
one_instr i pl = record { code = i ∷ []; texts = []; numbers = [] }

-- a constant into a register
abbrev pub number : ℕ → Reg → Maker
number word d pl = record { code = Setx pl.numbers d ∷ []; texts = []; numbers = word ∷ [] }

abbrev pub text : List ℕ → Reg → Maker
text bytes d pl = record { code = Sets pl.texts d ∷ []; texts = bytes ∷ []; numbers = [] }

-- ---- one after the other

abbrev pub sequence : Piece → Piece → Piece
sequence p q = record {
  code = p.code ++ q.code;
  texts = p.texts ++ q.texts;
  numbers = p.numbers ++ q.numbers;
}

abbrev pub past : Place → Piece → Place
past pl p = record {
  at = pl.at + length p.code;
  texts = pl.texts + length p.texts;
  numbers = pl.numbers + length p.numbers;
}

abbrev pub after_piece : Piece → Maker → Maker
after_piece p h pl = sequence p (h (past pl p))

abbrev pub both : Maker → Maker → Maker
both g h pl = after_piece (g pl) h pl

-- ---- one or the other

abbrev pub next : Place → Place
next pl = record { at = pl.at + 1; texts = pl.texts; numbers = pl.numbers }

-- the second if the branch is taken, else the first and a jump past the second
abbrev pub fork_piece : Condition → Place → Piece → Piece → Piece
fork_piece condition pl p q = record {
  code =
      Branch condition (pl.at + 2 + length p.code)
      ∷ (p.code ++ Ba (pl.at + 2 + length p.code + length q.code) ∷ q.code);
  texts = p.texts ++ q.texts;
  numbers = p.numbers ++ q.numbers;
}

abbrev pub fork_after : Condition → Piece → Maker → Maker
fork_after condition p h pl = fork_piece condition pl p (h (next (past (next pl) p)))

abbrev pub fork : Condition → Maker → Maker → Maker
fork condition g h pl = fork_after condition (g (next pl)) h pl

-- after a test
abbrev pub choice_code : Instr → Condition → Maker → Maker → Maker
choice_code test condition g h = both (one_instr test) (fork condition g h)

-- 1 if the branch is taken, and else 0
abbrev pub bit_by : Instr → Condition → Reg → Maker
bit_by test condition d = choice_code test condition (number 0 d) (number 1 d)
