pub mod Vocabulary
pub mod Correct
pub mod Programs
pub mod Meaning
pub mod Steps
