pub mod Names
mod Causes
mod Flatness
pub mod Opened
mod Started
mod Texts
