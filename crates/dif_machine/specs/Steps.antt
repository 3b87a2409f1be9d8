-- What private functions alone say of their steps. No contract for callers rests on these
-- definitions.
pub mod Semantics
pub mod Lasting
pub mod Instructions
pub mod Found
