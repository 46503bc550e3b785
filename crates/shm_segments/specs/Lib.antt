pub mod Joined
pub mod Table
pub mod Sound
pub mod Orphan
pub mod View
pub mod Acted
pub mod Staying
