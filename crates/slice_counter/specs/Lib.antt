pub mod Counter
pub mod CounterLine
pub mod Heights
pub mod Marks
pub mod ReplayLaw
pub mod Walks
