mod Apart
mod Read
mod Written
