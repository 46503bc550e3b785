pub mod Runs
pub mod Items
