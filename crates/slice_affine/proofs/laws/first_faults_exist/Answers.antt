use Rattle.slice_affine.proofs.UniqueLemmas as lemmas
use Rattle.slice_affine.proofs.laws.first_faults_exist.Goals as goal

pub returns : goal.returns
returns c = lemmas.first_faults_exist
