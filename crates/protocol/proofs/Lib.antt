pub mod Images
pub mod Fronts
