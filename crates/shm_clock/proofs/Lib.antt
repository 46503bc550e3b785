pub mod Ring
pub mod Firsts
pub mod Bits
pub mod Rule
pub mod Turning
pub mod Eligible
pub mod Skipping
pub mod Asking
