pub mod Verdicts
pub mod Placings
pub mod Calls
pub mod Stands
