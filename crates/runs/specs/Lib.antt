pub mod Runs
pub mod Turns
pub mod Near
pub mod Moved
pub mod Exhausted
pub mod Laws
