mod Pieces
mod Told
