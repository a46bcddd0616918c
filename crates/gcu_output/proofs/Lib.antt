pub mod Elapsing
mod Telling
mod TreeTexts
