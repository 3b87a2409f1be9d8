pub mod Faulty
pub mod Stream
pub mod Turns
pub mod Watched
