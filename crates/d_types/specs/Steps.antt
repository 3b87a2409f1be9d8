-- What private functions alone say of their steps. No contract for callers rests on these
-- definitions.
pub mod Faults
pub mod Operators
pub mod Targets
pub mod Typing
pub mod Formats
pub mod Statements
pub mod Aggregations
pub mod Scripts
pub mod Variables
