pub mod Making
pub mod SoFar
