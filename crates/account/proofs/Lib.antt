mod Backs
mod Chains
mod Changes
mod Points
mod Tokens
