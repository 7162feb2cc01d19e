mod Asking
mod Starting
