mod Sets
mod Naming
mod Passing
mod Standing
mod Firsts
mod Meant
