pub mod OrderMade
pub mod Once
