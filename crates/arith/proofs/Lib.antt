pub mod IntLaws
pub mod RingLaws
pub mod Within
pub mod Exact
