-- What private functions alone say of their steps. No contract for callers rests on these
-- definitions.
pub mod Left
pub mod Blocks
pub mod Plain
pub mod Pieces
pub mod Stored
pub mod RowEnds
pub mod Arguments
