pub mod Sums
pub mod Antennas
pub mod Sizes
mod Scales
