pub mod Refused
pub mod Modes
pub mod Format
pub mod Reading
pub mod Values
pub mod Theorem
