pub mod Plain
pub mod Lines
pub mod Firings
pub mod More
pub mod Pieces
pub mod Added
pub mod Sent
