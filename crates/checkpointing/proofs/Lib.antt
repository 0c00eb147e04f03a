mod Ended
mod Starts
mod CheckpointLogs
mod Closing
mod Base
mod Trimmed
mod Allowed
mod Kept
