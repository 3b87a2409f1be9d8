pub mod Vocabulary
pub mod Json
pub mod Texts
pub mod Values
pub mod Lines
pub mod Runs
pub mod Layout
pub mod Steps
