mod Counted
mod Functions
mod Keeping
mod Placing
mod SoFar
mod Tokens
mod Within
