pub mod Unlocked
