pub mod Bags
mod Numbers
