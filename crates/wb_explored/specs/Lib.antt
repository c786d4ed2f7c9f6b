pub mod Explorations
