mod Counts
mod Lookups
mod Put
mod Same
mod Swaps
