mod Crossings
mod LiveEvents
mod LivePrinting
