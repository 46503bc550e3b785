pub mod Arranged
pub mod Gap
pub mod Edit
pub mod Met
pub mod FreeGap
