use Rattle.slice_laws.proofs.Complete.{print_gives_the_text}
use Rattle.slice_laws.proofs.completeness.print_gives_the_text.Goals as goal

pub returns : goal.returns
returns c = print_gives_the_text c.parsings_are_unique.ensures.read
