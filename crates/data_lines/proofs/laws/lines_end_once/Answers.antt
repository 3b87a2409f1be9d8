use Rattle.data_lines.proofs.Feeds.{first_is_line, text_is_line, entry_is_line, last_is_line}
use Rattle.data_lines.proofs.laws.lines_end_once.Goals as goal

pub returns : goal.returns
returns c = record { first = first_is_line; text = text_is_line; entry = entry_is_line; last = last_is_line }
