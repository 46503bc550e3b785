mod Left
pub mod Questions
pub mod Stops
pub mod Texts
