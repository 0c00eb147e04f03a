mod Lasts
mod Objects
mod Least
mod Checkpoints
