pub mod Covers
mod Prompts
mod Stars
mod Steps
mod Tails
