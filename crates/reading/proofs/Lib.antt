pub mod Filling
pub mod Chunks
pub mod Judging
pub mod Walking
pub mod Spreading
pub mod Offering
pub mod Ready
pub mod Sheeting
