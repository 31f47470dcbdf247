pub mod Modes
pub mod CatalogueLaws
