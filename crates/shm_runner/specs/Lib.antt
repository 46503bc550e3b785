pub mod Output
pub mod Flat
pub mod Marks
pub mod Threaded
pub mod Faults
