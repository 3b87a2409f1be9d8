pub mod Texts
pub mod Arguments
pub mod Firings
pub mod Ends
pub mod Stored
pub mod Probing
pub mod Units
