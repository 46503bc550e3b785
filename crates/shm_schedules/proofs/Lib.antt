pub mod Own
pub mod Walking
pub mod Timeless
pub mod Going
pub mod Failing
