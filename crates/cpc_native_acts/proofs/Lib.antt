mod Called
mod Detaching
mod Fitting
mod Performing
mod Planned
mod Written
