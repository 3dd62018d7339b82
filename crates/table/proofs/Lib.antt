pub mod Cleared
pub mod NewServers
pub mod OneServer
