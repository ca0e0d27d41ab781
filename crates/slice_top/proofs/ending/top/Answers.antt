use Rattle.std.proofs.Common.{map}
use Rattle.std.specs.String.{string_bytes}
use Rattle.slice_top.specs.Commands.{command_of}
use Rattle.slice_top.specs.Reports.{memory_line}
use Rattle.slice_top.specs.declared.status.Status.TheVariants as status
use Rattle.slice_top.proofs.Endings.{last_report, starved_whole, unwritten_report, written_apart}
use Rattle.slice_top.proofs.Good.{good_demos, good_reports}
use Rattle.slice_top.proofs.MetRuns.{met_demos, met_reports}
use Rattle.slice_top.proofs.Answered.{reports_tell_answers}
use Rattle.slice_top.proofs.ending.top.Goals as goal

pub returns-in-Last-clause-report : goal.returns-in-Last-clause-report
returns-in-Last-clause-report g c =
    let h = rw c.in-Last.is at c.settle.ensures.settled in
    last_report (g.S.Shelf.told c.args.shelf.now) (command_of (map string_bytes c.args.words.now.items)) (g.K.Sink.told c.args.sink.now) (g.K.Sink.told c.settle.new.sink) (g.K.Sink.told c.finish.new.sink) c.deref.result.now c.in-Last.last.status c.finish.result
    (rw c.deref.ensures.value h.whole) c.finish.ensures.kind c.finish.ensures.out c.finish.ensures.front (written_apart c.in-Last.last.status h.written)

pub returns-in-Starved-clause-report : goal.returns-in-Starved-clause-report
returns-in-Starved-clause-report g c =
    let told = g.S.Shelf.told c.args.shelf.now in
    let k = command_of (map string_bytes c.args.words.now.items) in
    let before = g.K.Sink.told c.args.sink.now in
    let mid = g.K.Sink.told c.settle.new.sink in
    let h = rw c.in-Starved.is at c.settle.ensures.settled in
    last_report told k before mid (g.K.Sink.told c.finish-in-Starved.new.sink) memory_line status.Memory c.finish-in-Starved.result
    (starved_whole told k before mid h) c.finish-in-Starved.ensures.kind c.finish-in-Starved.ensures.out c.finish-in-Starved.ensures.front (λ e. cc)

pub returns-in-Unwritten-clause-report : goal.returns-in-Unwritten-clause-report
returns-in-Unwritten-clause-report g c =
    let h = rw c.in-Unwritten.is at c.settle.ensures.settled in
    unwritten_report (g.S.Shelf.told c.args.shelf.now) (command_of (map string_bytes c.args.words.now.items)) (g.K.Sink.told c.args.sink.now) (g.K.Sink.told c.settle.new.sink) h.0

pub returns-in-Last-clause-answered : goal.returns-in-Last-clause-answered
returns-in-Last-clause-answered g c =
    reports_tell_answers (g.S.Shelf.told c.args.shelf.now) (command_of (map string_bytes c.args.words.now.items)) (g.K.Sink.told c.args.sink.now) (g.K.Sink.told c.finish.new.sink) c.finish.result (returns-in-Last-clause-report g c)

pub returns-in-Starved-clause-answered : goal.returns-in-Starved-clause-answered
returns-in-Starved-clause-answered g c =
    reports_tell_answers (g.S.Shelf.told c.args.shelf.now) (command_of (map string_bytes c.args.words.now.items)) (g.K.Sink.told c.args.sink.now) (g.K.Sink.told c.finish-in-Starved.new.sink) c.finish-in-Starved.result (returns-in-Starved-clause-report g c)

pub returns-in-Unwritten-clause-answered : goal.returns-in-Unwritten-clause-answered
returns-in-Unwritten-clause-answered g c =
    reports_tell_answers (g.S.Shelf.told c.args.shelf.now) (command_of (map string_bytes c.args.words.now.items)) (g.K.Sink.told c.args.sink.now) (g.K.Sink.told c.settle.new.sink) status.WriteFault (returns-in-Unwritten-clause-report g c)

pub returns-in-Last-clause-headline : goal.returns-in-Last-clause-headline
returns-in-Last-clause-headline g c =
    good_reports (g.S.Shelf.told c.args.shelf.now) (command_of (map string_bytes c.args.words.now.items)) (g.K.Sink.told c.args.sink.now) (g.K.Sink.told c.finish.new.sink) c.finish.result (returns-in-Last-clause-report g c)

pub returns-in-Starved-clause-headline : goal.returns-in-Starved-clause-headline
returns-in-Starved-clause-headline g c =
    good_reports (g.S.Shelf.told c.args.shelf.now) (command_of (map string_bytes c.args.words.now.items)) (g.K.Sink.told c.args.sink.now) (g.K.Sink.told c.finish-in-Starved.new.sink) c.finish-in-Starved.result (returns-in-Starved-clause-report g c)

pub returns-in-Unwritten-clause-headline : goal.returns-in-Unwritten-clause-headline
returns-in-Unwritten-clause-headline g c =
    good_reports (g.S.Shelf.told c.args.shelf.now) (command_of (map string_bytes c.args.words.now.items)) (g.K.Sink.told c.args.sink.now) (g.K.Sink.told c.settle.new.sink) status.WriteFault (returns-in-Unwritten-clause-report g c)

pub returns-in-Last-clause-found : goal.returns-in-Last-clause-found
returns-in-Last-clause-found g c =
    met_reports (g.S.Shelf.told c.args.shelf.now) (command_of (map string_bytes c.args.words.now.items)) (g.K.Sink.told c.args.sink.now) (g.K.Sink.told c.finish.new.sink) c.finish.result (returns-in-Last-clause-report g c)

pub returns-in-Starved-clause-found : goal.returns-in-Starved-clause-found
returns-in-Starved-clause-found g c =
    met_reports (g.S.Shelf.told c.args.shelf.now) (command_of (map string_bytes c.args.words.now.items)) (g.K.Sink.told c.args.sink.now) (g.K.Sink.told c.finish-in-Starved.new.sink) c.finish-in-Starved.result (returns-in-Starved-clause-report g c)

pub returns-in-Unwritten-clause-found : goal.returns-in-Unwritten-clause-found
returns-in-Unwritten-clause-found g c =
    met_reports (g.S.Shelf.told c.args.shelf.now) (command_of (map string_bytes c.args.words.now.items)) (g.K.Sink.told c.args.sink.now) (g.K.Sink.told c.settle.new.sink) status.WriteFault (returns-in-Unwritten-clause-report g c)

pub returns-in-Last-clause-headline_of_rounds : goal.returns-in-Last-clause-headline_of_rounds
returns-in-Last-clause-headline_of_rounds g c =
    good_demos (g.S.Shelf.told c.args.shelf.now) (command_of (map string_bytes c.args.words.now.items)) (g.K.Sink.told c.args.sink.now) (g.K.Sink.told c.finish.new.sink) c.finish.result (returns-in-Last-clause-report g c)

pub returns-in-Last-clause-found_of_rounds : goal.returns-in-Last-clause-found_of_rounds
returns-in-Last-clause-found_of_rounds g c =
    met_demos (g.S.Shelf.told c.args.shelf.now) (command_of (map string_bytes c.args.words.now.items)) (g.K.Sink.told c.args.sink.now) (g.K.Sink.told c.finish.new.sink) c.finish.result (returns-in-Last-clause-report g c)

pub returns-in-Starved-clause-headline_of_rounds : goal.returns-in-Starved-clause-headline_of_rounds
returns-in-Starved-clause-headline_of_rounds g c =
    good_demos (g.S.Shelf.told c.args.shelf.now) (command_of (map string_bytes c.args.words.now.items)) (g.K.Sink.told c.args.sink.now) (g.K.Sink.told c.finish-in-Starved.new.sink) c.finish-in-Starved.result (returns-in-Starved-clause-report g c)

pub returns-in-Starved-clause-found_of_rounds : goal.returns-in-Starved-clause-found_of_rounds
returns-in-Starved-clause-found_of_rounds g c =
    met_demos (g.S.Shelf.told c.args.shelf.now) (command_of (map string_bytes c.args.words.now.items)) (g.K.Sink.told c.args.sink.now) (g.K.Sink.told c.finish-in-Starved.new.sink) c.finish-in-Starved.result (returns-in-Starved-clause-report g c)

pub returns-in-Unwritten-clause-headline_of_rounds : goal.returns-in-Unwritten-clause-headline_of_rounds
returns-in-Unwritten-clause-headline_of_rounds g c =
    good_demos (g.S.Shelf.told c.args.shelf.now) (command_of (map string_bytes c.args.words.now.items)) (g.K.Sink.told c.args.sink.now) (g.K.Sink.told c.settle.new.sink) status.WriteFault (returns-in-Unwritten-clause-report g c)

pub returns-in-Unwritten-clause-found_of_rounds : goal.returns-in-Unwritten-clause-found_of_rounds
returns-in-Unwritten-clause-found_of_rounds g c =
    met_demos (g.S.Shelf.told c.args.shelf.now) (command_of (map string_bytes c.args.words.now.items)) (g.K.Sink.told c.args.sink.now) (g.K.Sink.told c.settle.new.sink) status.WriteFault (returns-in-Unwritten-clause-report g c)
