pub mod Steps
pub mod Record
pub mod Stop
pub mod Words
pub mod Runs
