pub mod Shown
pub mod Counts
pub mod First
pub mod Dirty
