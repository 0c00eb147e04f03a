mod Apart
mod Buffered
