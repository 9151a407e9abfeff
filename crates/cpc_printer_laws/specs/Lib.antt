pub mod Fewest
