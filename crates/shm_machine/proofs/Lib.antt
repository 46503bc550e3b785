mod Fitting
mod Sizes
mod Stretching
mod Zeros
pub mod Readying
