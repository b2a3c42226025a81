pub mod Pushing
pub mod Laying
pub mod Growing
