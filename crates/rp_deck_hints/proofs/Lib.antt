mod Graphic
mod LinesAt
mod Walking
