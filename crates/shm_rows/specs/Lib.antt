pub mod Rows
pub mod GuestRows
pub mod RuleRows
