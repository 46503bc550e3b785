pub mod Frame
pub mod Table
pub mod Lends
pub mod Skips
