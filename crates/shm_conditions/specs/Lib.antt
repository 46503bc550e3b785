pub mod Codes
pub mod Conditions
pub mod Formulas
pub mod Levels
pub mod Naming
pub mod Reading
pub mod Stored
pub mod Tokens
