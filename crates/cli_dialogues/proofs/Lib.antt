mod Alone
mod Told
