pub mod Lifting
pub mod Detected
