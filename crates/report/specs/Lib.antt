pub mod Vocabulary
pub mod Columns
pub mod Histograms
pub mod Entry
pub mod Listing
pub mod Output
pub mod Report
pub mod Steps
