-- What private functions alone say of their steps. No contract for callers rests on these
-- definitions.
pub mod Output
