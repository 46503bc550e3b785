pub mod Stop
pub mod Words
pub mod Runs
