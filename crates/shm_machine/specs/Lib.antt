pub mod Answered
pub mod Opened
pub mod Stretched
pub mod Ready
