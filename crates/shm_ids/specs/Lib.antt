pub mod Table
pub mod Sound
pub mod Lends
pub mod TableLends
pub mod Rows
pub mod Flat
