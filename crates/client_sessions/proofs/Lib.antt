mod Slots
mod Bytes
mod Running
mod Answered
mod Turns
mod Nows
mod Partings
mod Commands
