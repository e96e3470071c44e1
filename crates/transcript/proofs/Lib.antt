mod OneLine
mod Spaces
mod Telling
mod Wholes
