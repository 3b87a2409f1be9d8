-- What private functions alone say of their steps. No contract for callers rests on these
-- definitions.
pub mod Adding
pub mod AllMade
pub mod AtBoard
pub mod Beginnings
pub mod Described
pub mod EffectRuns
pub mod Effects
pub mod Evaluation
pub mod OnThread
pub mod Patterns
pub mod PiecePlaces
pub mod Indices
pub mod Seen
pub mod Worked
pub mod Working
