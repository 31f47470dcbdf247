pub mod Observed
pub mod Joining
pub mod Sizes
pub mod Shifts
