pub mod Pages
pub mod Sparse
pub mod Fuse
pub mod Mirror
pub mod Areas
pub mod Failing
