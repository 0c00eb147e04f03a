mod Stables
mod Ends
mod Upkept
mod Waiting
