pub mod Kept
pub mod Found
pub mod Pasted
pub mod Written
pub mod Names
pub mod Entries
pub mod Ordered
pub mod Pages
pub mod Slots
pub mod Counts
pub mod Tally
pub mod Bytes
pub mod Sound
pub mod Counting
pub mod Flushes
pub mod Visits
pub mod Clock
pub mod Spans
pub mod Whole
pub mod Drops
pub mod Areas
pub mod Puts
pub mod Placed
pub mod Places
mod Untouched
pub mod Skipped
pub mod Lending
mod More
