mod Circle
mod Out
