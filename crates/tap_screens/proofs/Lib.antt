mod Lists
mod Watched
