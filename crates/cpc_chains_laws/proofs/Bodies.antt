pub mod Spawners
