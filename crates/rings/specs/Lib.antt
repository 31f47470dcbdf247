pub mod Copies
pub mod Layered
pub mod Made
pub mod Fair
pub mod KindLaws
pub mod LayerLaws
