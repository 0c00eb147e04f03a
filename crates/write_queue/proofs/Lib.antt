mod OneMore
mod Unchanged
mod Windows
mod Looked
mod LentCalls
mod Fronts
