pub mod RowsTaken
pub mod MessagesHeard
pub mod HandedOut
