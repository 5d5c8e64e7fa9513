mod Texts
mod EndLaws
mod FillLaws
mod MoveLaws
mod QuietLaws
mod Rows
