pub mod TurnLists
pub mod Standing
pub mod Conforming
pub mod Farewells
pub mod Silences
pub mod Laws
