-- What private functions alone say of their steps. No contract for callers rests on these
-- definitions.
pub mod Marks
pub mod Reading
pub mod Script
pub mod Tree
pub mod Words
pub mod Depth
pub mod Lines
pub mod ReadingScripts
