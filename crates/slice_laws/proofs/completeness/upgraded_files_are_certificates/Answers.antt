use Rattle.slice_laws.proofs.Upgraded.{upgraded_files_are_certificates}
use Rattle.slice_laws.proofs.completeness.upgraded_files_are_certificates.Goals as goal

pub returns : goal.returns
returns c = upgraded_files_are_certificates
