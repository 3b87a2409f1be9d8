-- The lines of a run.
-- Source: RFC 8259, section 4 (objects).
use Rattle.std.specs.Prelude.{◌≡◌, ℕ, ◌==◌, List, [], ◌∷◌, ◌++◌, codes, count_by, if◌then◌else◌}
use Rattle.std.specs.Prelude.{Option, None, Some, bytes_eq}
use Rattle.data_lines.specs.Vocabulary.{AggFn, Count, Sum, Min, Max, Avg, Quantize, Lquantize}
use Rattle.data_lines.specs.Vocabulary.{Entry, decimal}
use Rattle.data_lines.specs.{Texts.text_value, Values.entry_value, Values.key_value}

-- how many line feeds there are
abbrev pub line_feeds : List ℕ → ℕ
line_feeds bytes = count_by (λ b. b == 10) bytes

-- one line feed, at the end
pub record EndsOnce (bytes : List ℕ) : Type 0 where
  pub before : List ℕ
  pub ends : bytes ≡ before ++ 10 ∷ []
  pub one : line_feeds before ≡ 0

-- the first line: the format's name and its version
abbrev pub first_line : List ℕ
first_line = codes "{\"format\":\"dreplay-data\",\"version\":1}\n"

-- the text of a firing
abbrev pub text_line : ℕ × List ℕ → List ℕ
text_line text =
    codes "{\"kind\":\"text\",\"firing\":" ++ decimal text.0 ++ codes ",\"text\":"
    ++ text_value text.1 ++ codes "}\n"

-- the function's word in scripts
abbrev pub function_word : AggFn → List ℕ
function_word Count = codes "count"
function_word Sum = codes "sum"
function_word Min = codes "min"
function_word Max = codes "max"
function_word Avg = codes "avg"
function_word Quantize = codes "quantize"
function_word (Lquantize r) = codes "lquantize"

-- an aggregation's name in scripts: that of `@` is `_`
abbrev pub written_name : List ℕ → List ℕ
written_name name = if bytes_eq name (codes "_") then codes "@" else 64 ∷ name

-- what the lines of an aggregation begin with: its index in the script, its name and its function
abbrev pub entry_head : ℕ → List ℕ → AggFn → List ℕ
entry_head index name function =
    codes "{\"kind\":\"entry\",\"aggregation\":" ++ decimal index ++ codes ",\"name\":"
    ++ text_value (written_name name) ++ codes ",\"function\":\"" ++ function_word function
    ++ codes "\",\"key\":"

-- an entry: its key, and the whole of what is held of its arguments
abbrev pub entry_line : List ℕ → Entry → List ℕ
entry_line head entry =
    head ++ key_value entry.0 ++ codes ",\"value\":" ++ entry_value entry.1 ++ codes "}\n"

-- the first firing that exited, and its status
abbrev pub exit_value : Option (ℕ × ℕ) → List ℕ
exit_value None = codes "null"
exit_value (Some exit) =
    codes "{\"firing\":" ++ decimal exit.0 ++ codes ",\"status\":" ++ decimal exit.1 ++ codes "}"

-- the last line: the exit, and how many firings were run
abbrev pub last_line : Option (ℕ × ℕ) → ℕ → List ℕ
last_line exit firings =
    codes "{\"kind\":\"end\",\"exit\":" ++ exit_value exit ++ codes ",\"firings\":"
    ++ decimal firings ++ codes "}\n"
