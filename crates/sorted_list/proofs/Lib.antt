mod Meaning
mod Searching
mod Placing
mod Changing
