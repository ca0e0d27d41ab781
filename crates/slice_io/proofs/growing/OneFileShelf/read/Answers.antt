use Rattle.std.proofs.Common.{rules, ◌≡◌, true, sym}
use Rattle.std.proofs.lemmas.Slice.Eq.{bytes_eq-Decides}
use Rattle.std.specs.Str.{bytes_eq}
use Rattle.slice_io.proofs.growing.OneFileShelf.read.Goals as goal

pub returns-clause-bytes : goal.returns-clause-bytes
returns-clause-bytes c =
    let same : bytes_eq c.args.self.now.name c.args._name.now ≡ true = (bytes_eq-Decides c.args.self.now.name c.args._name.now).1 (sym c.requires.asked) in
    let held : c.as_slice.result.now ≡ c.args.self.now.bytes = search rules in
    rw same (rw held at c.copy_part.ensures.file)
