pub mod Acceptance
mod Lists
mod Main
mod Names
mod Program
mod Quiet
mod Numbered
mod Tested
