use Rattle.std.proofs.Common.{refl}
use Rattle.slice_top.proofs.Stages.{long_file}
use Rattle.slice_top.proofs.files.read_file.Goals as goal

pub returns-in-TooLong-clause-err : goal.returns-in-TooLong-clause-err
returns-in-TooLong-clause-err g c =
    let long = rw c.in-TooLong.is at c.in-Err.ensures.long in
    ((c.in-Ok-file_word.ensures.same, long_file (g.S.Shelf.told c.args.shelf.now) c.args.name.now (long refl)), c.in-Ok-file_word.ensures.text)
