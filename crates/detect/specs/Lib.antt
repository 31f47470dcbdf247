pub mod Parts
pub mod Tops
pub mod Buckets
pub mod Charts
pub mod Kept
