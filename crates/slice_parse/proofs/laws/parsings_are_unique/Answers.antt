use Rattle.slice_parse.proofs.Unique.{faults_unique, programs_unique, faulty_apart}
use Rattle.slice_parse.proofs.ReadOnce.{read_programs_unique}
use Rattle.slice_parse.proofs.laws.parsings_are_unique.Goals as goal

pub returns-clause-faults : goal.returns-clause-faults
returns-clause-faults c = faults_unique

pub returns-clause-programs : goal.returns-clause-programs
returns-clause-programs c = programs_unique

pub returns-clause-apart : goal.returns-clause-apart
returns-clause-apart c = faulty_apart

pub returns-clause-read : goal.returns-clause-read
returns-clause-read c = read_programs_unique
