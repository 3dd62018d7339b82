pub mod Circle
pub mod StandIns
pub mod Costs
