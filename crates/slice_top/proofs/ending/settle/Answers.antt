use Rattle.std.proofs.Common.{◌≡◌, map, subst, Option, None}
use Rattle.std.specs.String.{string_bytes}
use Rattle.slice_io.specs.Causes.{Rose}
use Rattle.slice_top.specs.Commands.{Command, command_of}
use Rattle.slice_top.specs.Settled.{Settled}
use Rattle.slice_top.specs.Stops.{command_view}
use Rattle.slice_top.specs.declared.ending.Ending.TheVariants as ending
use Rattle.slice_top.proofs.Endings.{worked_settled, refused_settled, unread_settled, usage_settled}
use Rattle.slice_top.proofs.ending.settle.Goals as goal

pub returns-in_default-clause-settled : goal.returns-in_default-clause-settled
returns-in_default-clause-settled g c =
    let told = g.S.Shelf.told c.args.shelf.now in
    let shelf = Rose (g.S.Shelf.faults c.args.shelf.now) (g.S.Shelf.faults c.args.shelf.now) in
    let sink = Rose (g.K.Sink.faults c.args.sink.now) (g.K.Sink.faults c.args.sink.now) in
    let out = g.K.Sink.told c.args.sink.now in
    let none : None ≡ command_of (map string_bytes c.args.words.now.items) = c.in_default.ensures in
    subst (λ (k : Option Command). Settled told k shelf sink out out c.refused.result) none (usage_settled told shelf sink out c.refused.result c.refused.ensures)

pub returns-in-Ok-clause-settled : goal.returns-in-Ok-clause-settled
returns-in-Ok-clause-settled g c =
    let told = g.S.Shelf.told c.args.shelf.now in
    let shelf = Rose (g.S.Shelf.faults c.args.shelf.now) (g.S.Shelf.faults c.work.new.shelf) in
    let sink = Rose (g.K.Sink.faults c.args.sink.now) (g.K.Sink.faults c.work.new.sink) in
    let before = g.K.Sink.told c.args.sink.now in
    let after = g.K.Sink.told c.work.new.sink in
    subst (λ (k : Option Command). Settled told k shelf sink before after (ending.Last c.in-Ok.last)) c.in-Some.ensures
    (worked_settled told (command_view c.in-Some.command) shelf before after c.in-Ok.last c.in-Ok.ensures.worked c.in-Ok.ensures.ok)

pub returns-in-Err-Refused-clause-settled : goal.returns-in-Err-Refused-clause-settled
returns-in-Err-Refused-clause-settled g c =
    let told = g.S.Shelf.told c.args.shelf.now in
    let shelf = Rose (g.S.Shelf.faults c.args.shelf.now) (g.S.Shelf.faults c.work.new.shelf) in
    let sink = Rose (g.K.Sink.faults c.args.sink.now) (g.K.Sink.faults c.work.new.sink) in
    let before = g.K.Sink.told c.args.sink.now in
    let after = g.K.Sink.told c.work.new.sink in
    let h = rw c.in-Err-Refused.field-0-is at c.in-Err-Refused.ensures.err in
    let e = c.refused-in-Err-Refused.result in
    subst (λ (k : Option Command). Settled told k shelf sink before after e) c.in-Some.ensures
    (refused_settled told (command_view c.in-Some.command) shelf before after sink c.in-Err-Refused.refusal h.1 h.0 e c.refused-in-Err-Refused.ensures)

pub returns-in-Err-Unread-clause-settled : goal.returns-in-Err-Unread-clause-settled
returns-in-Err-Unread-clause-settled g c =
    let told = g.S.Shelf.told c.args.shelf.now in
    let shelf = Rose (g.S.Shelf.faults c.args.shelf.now) (g.S.Shelf.faults c.work.new.shelf) in
    let sink = Rose (g.K.Sink.faults c.args.sink.now) (g.K.Sink.faults c.work.new.sink) in
    let before = g.K.Sink.told c.args.sink.now in
    let after = g.K.Sink.told c.work.new.sink in
    let h = rw c.in-Err-Unread.field-0-is at c.in-Err-Unread.ensures.err in
    let e = c.refused-in-Err-Unread.result in
    subst (λ (k : Option Command). Settled told k shelf sink before after e) c.in-Some.ensures
    (unread_settled told (command_view c.in-Some.command) shelf before after sink c.in-Err-Unread.file h.0 h.1.0 e c.refused-in-Err-Unread.ensures)

pub returns-in-Err-Memory-clause-settled : goal.returns-in-Err-Memory-clause-settled
returns-in-Err-Memory-clause-settled g c =
    let told = g.S.Shelf.told c.args.shelf.now in
    let shelf = Rose (g.S.Shelf.faults c.args.shelf.now) (g.S.Shelf.faults c.work.new.shelf) in
    let sink = Rose (g.K.Sink.faults c.args.sink.now) (g.K.Sink.faults c.work.new.sink) in
    let before = g.K.Sink.told c.args.sink.now in
    let after = g.K.Sink.told c.work.new.sink in
    let h = rw c.in-Err-Memory.field-0-is at c.in-Err-Memory.ensures.err in
    subst (λ (k : Option Command). Settled told k shelf sink before after ending.Starved) c.in-Some.ensures h
