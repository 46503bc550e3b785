pub mod Names
pub mod Verdicts
pub mod Entries
pub mod Drawing
