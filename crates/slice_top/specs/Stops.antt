-- How the work on a command stops, beside what it says of the answer.
use Rattle.std.specs.Prelude.{ℕ, List, IsTrue, ⊤, Option, Some, None}
use Rattle.std.specs.Str.{IsUtf8}
use Rattle.slice_num.specs.Name.{is_name}
use Rattle.slice_report.specs.declared.refusal.Refusal.{Refusal}
use Rattle.slice_report.specs.declared.refusal.Refusal.TheVariants.{Usage, ReadFault, TooLong, Unbound, Rebound, UsedTwice}
use Rattle.slice_top.specs.Commands as words
use Rattle.slice_top.specs.declared.command.Command.{Command}
use Rattle.slice_top.specs.declared.command.Command.TheVariants as command
use Rattle.slice_top.specs.declared.stop.Stop.{Stop}
use Rattle.slice_top.specs.declared.stop.Stop.TheVariants as stop

abbrev pub command_view : Command → words.Command
command_view (command.Check protocol) = words.check protocol.now
command_view (command.Print protocol) = words.print protocol.now
command_view (command.Paths protocol) = words.paths protocol.now
command_view (command.Verify protocol) = words.verify protocol.now
command_view (command.Run protocol values) = words.run protocol.now values.now
command_view (command.Replay protocol values) = words.replay protocol.now values.now
command_view (command.Certify protocol certificate) = words.certify protocol.now certificate.now
command_view (command.Upgrade protocol certificate) = words.upgrade protocol.now certificate.now
command_view (command.Demo rounds) = words.demo rounds

-- a refusal that work gives, whose words are texts
abbrev pub IsOfWork : Refusal → Type 0
IsOfWork Usage = ⊥
IsOfWork (ReadFault file) = ⊥
IsOfWork (TooLong file) = IsUtf8 file
IsOfWork (Unbound name at) = IsTrue (is_name name)
IsOfWork (Rebound name at) = IsTrue (is_name name)
IsOfWork (UsedTwice name at first) = IsTrue (is_name name)
IsOfWork r = ⊤

-- why work that writes nothing stops: it is refused for its cause; a file whose turn came couldn't be read, and the shelf's count rose; or
-- memory was wanted
abbrev pub StopsBy : (Refusal → Type 0) → (List ℕ → Type 0) → Type 0 → Stop → Type 0
StopsBy Cause Turn rose (stop.Refused r) = Cause r × IsOfWork r
StopsBy Cause Turn rose (stop.Unread file) = Turn file × (rose × IsUtf8 file)
StopsBy Cause Turn rose stop.Memory = ⊤
StopsBy Cause Turn rose stop.Unwritten = ⊥

-- the same of work that reads no file
abbrev pub StopsFor : (Refusal → Type 0) → Stop → Type 0
StopsFor Cause (stop.Refused r) = Cause r × IsOfWork r
StopsFor Cause (stop.Unread file) = ⊥
StopsFor Cause stop.Memory = ⊤
StopsFor Cause stop.Unwritten = ⊥

-- work stops with the refusal, or for want of memory where there is none
abbrev pub stop_for : Option Refusal → Stop
stop_for None = stop.Memory
stop_for (Some r) = stop.Refused r
