pub mod Numbered
pub mod Indices
pub mod Shaped
