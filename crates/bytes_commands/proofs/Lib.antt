mod Bare
mod Executions
mod Refusals
mod Stopped
