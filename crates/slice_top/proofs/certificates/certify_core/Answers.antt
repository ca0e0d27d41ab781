use Rattle.std.proofs.Common.{◌≡◌, refl}
use Rattle.slice_io.specs.Causes.{Rose}
use Rattle.slice_core.specs.Cores.{core_of}
use Rattle.slice_json.specs.Texts.{line_of}
use Rattle.slice_report.specs.CertifyReport.{certify_json}
use Rattle.slice_top.specs.Answers.{IsCertifyAnswer, stops, goes, refused}
use Rattle.slice_top.specs.Certificates.{RefusesCertificate}
use Rattle.slice_top.proofs.Stages.{stops_by}
use Rattle.slice_top.proofs.certificates.certify_core.Goals as goal

pub returns-in-Err-clause-err : goal.returns-in-Err-clause-err
returns-in-Err-clause-err g c =
    let told = g.S.Shelf.told c.args.shelf.now in
    let name = c.args.name.now in
    let core = core_of c.args.core.now in
    let rose = Rose (g.S.Shelf.faults c.args.shelf.now) (g.S.Shelf.faults c.check_file.new.shelf) in
    stops_by (RefusesCertificate told name core) (λ r. IsCertifyAnswer told name core (refused r)) (λ file. file ≡ name) (λ file. file ≡ name) rose rose
    (λ r h. stops r h refl) (λ file e. e) (λ x. x) c.in-Err.stop c.in-Err.ensures.err

pub returns-clause-ok : goal.returns-clause-ok
returns-clause-ok g c =
    let line : c.in-Ok-certify_line.bytes.items ≡ line_of (certify_json c.in-Ok.answer) = c.in-Ok-certify_line.ensures in
    goes c.in-Ok.answer c.in-Ok.ensures.ok (rw (line, c.checked_status.ensures.same) refl)
