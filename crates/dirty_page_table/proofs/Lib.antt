mod Reading
mod Starting
mod Writing
