-- All lines of a run.
use Rattle.std.specs.Prelude.{◌≡◌, ℕ, List, ◌++◌, All, Option, length, map, sum_by}
use Rattle.replay_core.specs.declared.collector.whole.Whole.{Whole}
use Rattle.data_lines.specs.Vocabulary.{Agg, Aggs, Contribution, Entry, IsListing, enumerate_from}
use Rattle.data_lines.specs.Vocabulary.{flat_map}
use Rattle.data_lines.specs.Lines.{entry_head, entry_line, first_line, last_line, text_line}

-- what a run made, as values
pub record WholeRun : Type 0 where
  -- in the order of the firings, each with its firing's number
  pub texts : List (ℕ × List ℕ)
  pub contributions : List Contribution
  -- the number of the first firing that exited, and its status
  pub exit : Option (ℕ × ℕ)
  -- how many firings were run
  pub firings : ℕ

-- a whole whose table stands for these contributions
abbrev pub run_from : Whole → List Contribution → WholeRun
run_from whole contributions = record {
  texts = whole.events.items;
  contributions = contributions;
  exit = whole.exit;
  firings = sum_by (λ group. length group.items) whole.ran.items;
}

-- an aggregation of the script with its index, and its entries in order
pub record Listed : Type 0 where
  pub index : ℕ
  pub aggregation : Agg
  pub entries : List Entry

-- without the entries
abbrev pub index_and_aggregation : Listed → ℕ × Agg
index_and_aggregation l = (l.index, l.aggregation)

-- the entries are those that the contributions give the aggregation, in ascending order
abbrev pub HasItsEntries : List Contribution → Listed → Type 0
HasItsEntries contributions l = IsListing l.aggregation.function l.index contributions l.entries

-- the entries of an aggregation, a line each
abbrev pub listed_lines : Listed → List ℕ
listed_lines l =
    flat_map (entry_line (entry_head l.index l.aggregation.name l.aggregation.function)) l.entries

-- each of these aggregations once, in order, with its entries
pub record AreListed (aggregations : List (ℕ × Agg)) (contributions : List Contribution)
    (listed : List Listed) : Type 0 where
  pub each : map index_and_aggregation listed ≡ aggregations
  pub entries : All (HasItsEntries contributions) listed

-- the first line, the texts, the entries of each aggregation of the script, and the last line
pub record IsData (aggregations : Aggs) (run : WholeRun) (bytes : List ℕ) : Type 0 where
  pub listed : List Listed
  pub are : AreListed (enumerate_from 0 aggregations) run.contributions listed
  pub joined : bytes ≡ first_line ++ flat_map text_line run.texts ++ flat_map listed_lines listed
      ++ last_line run.exit run.firings
