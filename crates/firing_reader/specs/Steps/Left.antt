-- The records that a reader of bytes in memory has left.
-- Source: RFC 4180, section 2, with the reading of the crate `csv`.
use Rattle.std.specs.Prelude.{◌≡◌, ℕ, true, false, List, Option, Some}
use Rattle.std.specs.Borrow.{Bor}
use Rattle.csv.specs.{Machine.ends_at_end, declared.reader.Reader.Reader}
use Rattle.csv.specs.Reading.{Ready, default_config, is_flexible, reader_config, reader_state}
use Rattle.csv.specs.Reading.{reader_trim, source_of}
use Rattle.csv.specs.declared.reader.Trim.TheVariants as trim
use Rattle.firing_reader.specs.{Left.left_in}

-- the bytes that the reader has not taken
abbrev pub source : Reader (Bor (List ℕ)) → Option (List ℕ)
source r = source_of (λ s. Some s.now) r

-- the records that it still gives
abbrev pub records_left : Reader (Bor (List ℕ)) → List (List (List ℕ))
records_left r = left_in (reader_state r) (source r)

-- the reader is between two records
pub record IsBetween (r : Reader (Bor (List ℕ))) : Type 0 where
  pub plain : reader_trim r ≡ trim.None
  pub ready : Ready r
  pub config : reader_config r ≡ default_config
  pub flexible : is_flexible r ≡ true
  pub bytes : List ℕ
  pub known : source r ≡ Some bytes
  pub between : ends_at_end (reader_state r) ≡ false
