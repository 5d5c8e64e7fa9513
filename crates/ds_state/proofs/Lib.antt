mod Items
mod Filled
mod Cells
mod Draws
mod Parts
mod Stays
mod One
mod Leaves
