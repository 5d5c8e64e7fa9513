mod Texts
mod EndLaws
mod Rows
