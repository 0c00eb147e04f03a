pub mod Reading
mod Passing
mod Lasts
mod LoadLemmas
mod Starts
mod Appended
mod Measures
mod Laid
mod Copies
mod CopyingAll
mod LogCopies
mod Blocks
mod FromLsn
mod LsnReading
mod Rewrites
mod Replaced
