pub mod Agents
pub mod Cores
pub mod Division
pub mod Measures
pub mod Nodes
pub mod OneProof
pub mod Run
pub mod Sizes
pub mod Tree
pub mod WellFormed
pub use Rattle.slice_num.specs.Pieces.{piece_at, emptied, given, cut_pieces, join_pieces, joined, with_part, each_part, passed, is_held}
