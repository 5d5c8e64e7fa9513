mod Rooms
mod Heard
mod Alone
mod Own
