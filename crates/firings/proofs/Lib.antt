pub mod Texts
pub mod Stored
pub mod Placed
pub mod Probing
pub mod RowsRead
pub mod Threads
pub mod EndRanges
