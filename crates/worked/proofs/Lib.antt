mod Instances
mod Said
mod Shown
