mod Demos
mod Images
