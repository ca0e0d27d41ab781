use Rattle.std.proofs.Common.{rules}
use Rattle.slice_io.proofs.lines.LineReader.next.Goals as goal

pub returns-then-branch : goal.returns-then-branch
returns-then-branch g c = let d = c.in_ok-advance.ensures {u = tt} in record {
  line = λ file told s. let l = rw c.if-branch.true at (d.line file told s) in rw c.line.ensures l;
  refused = search rules;
  missing = search rules;
  read = search rules;
  same = search rules;
  rule = search rules;
  later = search rules;
}

pub returns : goal.returns
returns g c = let d = c.in_ok-advance.ensures {u = tt} in record {
  line = λ file told s. rw c.if-branch.false at (d.line file told s);
  refused = search rules;
  missing = search rules;
  read = search rules;
  same = search rules;
  rule = search rules;
  later = search rules;
}
