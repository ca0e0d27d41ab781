use Rattle.slice_tableau.proofs.OneTableau.{same_basis, same_column, same_row}
use Rattle.slice_tableau.proofs.laws.a_tableau_is_one.Goals as goal

pub returns : goal.returns
returns c = record { basis = same_basis; column = same_column; row = same_row }
