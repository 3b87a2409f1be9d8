-- What private functions alone say of their steps. No contract for callers rests on these
-- definitions.
pub mod Replaying
pub mod Files
pub mod Arguments
pub mod Beginnings
pub mod Blocks
pub mod Judging
