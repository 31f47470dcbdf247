mod Loops
mod OnceLaws
