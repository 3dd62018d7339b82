pub mod Acting
pub mod TurnsTaken
