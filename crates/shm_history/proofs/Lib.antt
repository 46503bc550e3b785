pub mod Histories
pub mod Counted
pub mod Clear
pub mod Steps
pub mod Cells
pub mod Sent
