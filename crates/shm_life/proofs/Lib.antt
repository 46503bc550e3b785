pub mod Names
pub mod Swapping
pub mod Running
pub mod Orphans
pub mod Pieces
pub mod Leaving
pub mod Sweeping
pub mod Settled
pub mod Opens
pub mod Created
pub mod Changed
pub mod Inheriting
pub mod Protected
pub mod Going
pub mod Attaching
pub mod Joining
pub mod Peopled
pub mod Pids
pub mod Removing
pub mod Touching
pub mod Accessing
pub mod Lending
mod Indexed
pub mod Asking
pub mod Noticing
pub mod Residing
mod Paged
pub mod Counted
mod Enlarged
pub mod Ranges
pub mod Sent
pub mod Seeing
pub mod SeenSteps
