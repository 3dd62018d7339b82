mod Exchanges
mod Ranking
mod Removal
mod Selection
