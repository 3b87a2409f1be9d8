pub mod Blocks
pub mod Lines
pub mod Listings
pub mod Outputs
pub mod Rows
pub mod Unique
