mod Along
mod Linked
mod Ranged
mod Parts
