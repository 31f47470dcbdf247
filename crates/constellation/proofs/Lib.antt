pub mod Labels
pub mod Tested
pub mod Reorder
pub mod OrderLaws
pub mod Signs
pub mod Points
pub mod Codes
