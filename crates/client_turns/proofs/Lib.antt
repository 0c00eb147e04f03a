mod Histories
mod Brought
mod Moments
mod Turned
