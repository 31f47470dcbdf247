pub mod Numbers
pub mod Lengths
