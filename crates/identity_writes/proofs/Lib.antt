mod Keeping
mod Others
