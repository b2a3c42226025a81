mod Held
mod Pieces
mod Plain
mod Rooms
mod Runs
mod Statuses
mod Unwritten
