mod Stashing
mod Done
mod Still
