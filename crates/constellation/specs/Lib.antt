pub mod Meaning
pub mod Gray
pub mod Ordered
