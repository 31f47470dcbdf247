pub mod Psks
pub mod Squares
pub mod KindLaws
