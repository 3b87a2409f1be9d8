-- What private functions alone say of their steps. No contract for callers rests on these
-- definitions.
pub mod Programs
pub mod Code
pub mod Drafts
pub mod Pieces
