mod Holding
mod Taken
