pub mod Names
pub mod Holders
pub mod Causes
pub mod Chains
pub mod Texts
pub mod Zipped
pub mod Rows
pub mod Words
pub mod Sizes
mod Numbered
pub mod Named
