pub mod EnvyPairs
pub mod Lists
pub mod TellsEnvy
pub mod Texts
