pub mod Words
pub mod Texts
pub mod Tables
pub mod Shapes
pub mod Indices
