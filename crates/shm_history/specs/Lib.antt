pub mod Gauges
pub mod WorldState
