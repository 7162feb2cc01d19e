mod Mapped
mod Reading
