mod RowLaws
mod DivisorLaws
mod SparseScan
mod DenseLaws
mod SparseGcd
mod MergeLaws
mod SparseLaws
pub mod OneTableau
pub mod RunRises
pub mod RunBridge
pub mod LeavingLaws
pub mod LeastLaws
pub mod FirstTableau
pub mod FirstLaws
pub mod PivotTable
pub mod ClearLaws
pub mod Cleared
pub mod BasisLaws
pub mod PivotLaws
pub mod Unique
pub mod LexLaws
pub mod ByBasis
pub mod SystemLaws
pub mod RunLaws
pub mod EndSolution
pub mod FirstTable
pub mod EndLaws
