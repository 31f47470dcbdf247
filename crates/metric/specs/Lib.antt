pub mod Exhaustive
pub mod Reduced
pub mod Bounds
pub mod Orders
pub mod Value
pub mod ValueLaws
