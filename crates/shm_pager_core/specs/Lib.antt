pub mod Pages
pub mod Failing
