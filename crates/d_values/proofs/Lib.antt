pub mod Narrowing
pub mod Residues
pub mod Wrapping
pub mod Calls
pub mod Storing
pub mod Lawful
pub mod Comparing
