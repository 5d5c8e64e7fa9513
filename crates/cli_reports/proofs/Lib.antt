mod Steps
mod Numbered
mod Turns
mod TurnPlain
