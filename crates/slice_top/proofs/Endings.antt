-- What is out at the end.
use Rattle.std.proofs.Common.{◌≡◌, ◌≢◌, ◌≤◌, ◌∙◌, ℕ, ◌+◌, ◌-◌, List, [], ◌++◌, length, take, drop, Option, Some, None, Result, Ok, Err, ◌⊎◌, inl, inr, ap, sym, refl, arith}
use Rattle.std.proofs.Math.Seq.{take-add, take-append-add}
use Rattle.std.proofs.lemmas.List.{append-nil, length-take, take-take}
use Rattle.std.specs.Prelude.{OnErr, Bool, true, false, if◌then◌else◌}
use Rattle.slice_io.specs.Files.{Files}
use Rattle.slice_io.specs.Told.{appended, appended-append, FrontIsOut}
use Rattle.slice_json.specs.Texts.{line_of}
use Rattle.slice_report.specs.Refusals.{HasTexts, refused_json}
use Rattle.slice_report.specs.declared.refusal.Refusal.{Refusal}
use Rattle.slice_report.specs.declared.refusal.Refusal.TheVariants.{Usage, ReadFault, TooLong, Unbound, Rebound, UsedTwice}
use Rattle.slice_top.specs.Commands.{Command, check, print, paths, verify, run, replay, certify, upgrade, demo}
use Rattle.slice_top.specs.Turns.{ReadsFor}
use Rattle.slice_top.specs.Answers.{Answer, IsAnswer, refused, answer_of}
use Rattle.slice_top.specs.Reports.{AreLines, none, IsOut, nothing, first_lines, Whole, answered, unread, starved, whole, cut, memory_line, IsOutAt, ReadsAfter, Reports}
use Rattle.slice_top.specs.Settled.{Wrote, WroteFront, Ends, StopsIn, LinesStop, IsOwn, IsLast, IsRefused, Settled}
use Rattle.slice_top.specs.Statuses.{IsWorked, IsWritten, is_limit, refused_status}
use Rattle.slice_top.specs.Stops.{IsOfWork, StopsBy}
use Rattle.slice_top.specs.declared.ending.Ending.{Ending}
use Rattle.slice_top.specs.declared.ending.Ending.TheVariants as ending
use Rattle.slice_top.specs.declared.stop.Stop.{Stop}
use Rattle.slice_top.specs.declared.stop.Stop.TheVariants as stop
use Rattle.slice_top.specs.declared.work.Output.{Output}
use Rattle.slice_top.specs.declared.status.Status.{Status}
use Rattle.slice_top.specs.declared.status.Status.TheVariants as status

-- ---- what was written

pub appended_nothing : (told : Option (List ℕ)) → told ≡ appended told []
appended_nothing None = refl
appended_nothing (Some before) = ap Some (sym (append-nil before))

wrote_nothing : (before after : Option (List ℕ)) (Kind : List ℕ → Type 0) → after ≡ before → Kind [] → Wrote before after Kind
wrote_nothing before after Kind e h = record { out = []; told = e ∙ appended_nothing before; is = h }

-- the last lines of an answer before which nothing was written
pub ends_at_once : (Kind : Answer → Type 0) (out : Option (List ℕ)) (bytes : List ℕ) (s : Status) → Kind (answer_of bytes s) → Ends Kind out out bytes s
ends_at_once Kind out bytes s h = wrote_nothing out out (λ xs. AreLines xs × Kind (answer_of (xs ++ bytes) s)) refl (none refl, h)

-- nothing may be out where a file can't be read
none_out : (told : Option Files) (k : Option Command) (file : List ℕ) → IsOutAt told k file []
none_out told None file = refl
none_out told (Some (check f)) file = refl
none_out told (Some (print f)) file = refl
none_out told (Some (paths f)) file = refl
none_out told (Some (verify f)) file = refl
none_out told (Some (run f v)) file = refl
none_out told (Some (replay f v)) file = refl
none_out told (Some (certify f c)) file = refl
none_out told (Some (upgrade f c)) file = inl refl
none_out told (Some (demo n)) file = refl

-- and what may be out is part of an answer
out_at : (told : Option Files) (k : Command) (file bytes : List ℕ) → IsOutAt told (Some k) file bytes → IsOut (IsAnswer told (Some k)) bytes
out_at told (check f) file bytes e = nothing e
out_at told (print f) file bytes e = nothing e
out_at told (paths f) file bytes e = nothing e
out_at told (verify f) file bytes e = nothing e
out_at told (run f v) file bytes e = nothing e
out_at told (replay f v) file bytes e = nothing e
out_at told (certify f c) file bytes e = nothing e
out_at told (upgrade f c) file bytes (inl e) = nothing e
out_at told (upgrade f c) file bytes (inr h) = h.1
out_at told (demo n) file bytes e = nothing e

-- work that writes nothing stops
pub stops_at_once : (told : Option Files) (k : Option Command) (shelf sink : Type 0) (out : Option (List ℕ)) (s : Stop) → StopsBy (λ r. IsAnswer told k (refused r)) (ReadsFor told k) shelf s
    → StopsIn (IsAnswer told k) (ReadsAfter told k) shelf sink out out s
stops_at_once told k shelf sink out (stop.Refused r) h = (ends_at_once (IsAnswer told k) out (line_of (refused_json r)) (refused_status r) h.0, h.1)
stops_at_once told k shelf sink out (stop.Unread file) h = (wrote_nothing out out (ReadsAfter told k file) refl (h.0, none_out told k file), h.1)
stops_at_once told k shelf sink out stop.Memory h = wrote_nothing out out (IsOut (IsAnswer told k)) refl (nothing refl)
stops_at_once told k shelf sink out stop.Unwritten h = absurd h

-- one kind of answer for another
pub ends_so : (Kind Other : Answer → Type 0) (before after : Option (List ℕ)) (bytes : List ℕ) (s : Status) → ((a : Answer) → Kind a → Other a) → Ends Kind before after bytes s → Ends Other before after bytes s
ends_so Kind Other before after bytes s f h = record { out = h.out; told = h.told; is = (h.is.0, f (answer_of (h.out ++ bytes) s) h.is.1) }

pub out_so : (Kind Other : Answer → Type 0) (bytes : List ℕ) → ((a : Answer) → Kind a → Other a) → IsOut Kind bytes → IsOut Other bytes
out_so Kind Other bytes f (nothing e) = nothing e
out_so Kind Other bytes f (first_lines a h l rest e) = first_lines a (f a h) l rest e

-- and work that reads no file in work that does
pub lines_stop_in : (Kind Other : Answer → Type 0) (Turn : List ℕ → List ℕ → Type 0) (shelf sink : Type 0) (before after : Option (List ℕ)) (s : Stop)
    → ((a : Answer) → Kind a → Other a) → LinesStop Kind sink before after s → StopsIn Other Turn shelf sink before after s
lines_stop_in Kind Other Turn shelf sink before after (stop.Refused r) f h = (ends_so Kind Other before after (line_of (refused_json r)) (refused_status r) f h.0, h.1)
lines_stop_in Kind Other Turn shelf sink before after (stop.Unread file) f h = absurd h.1.0
lines_stop_in Kind Other Turn shelf sink before after stop.Memory f h = record { out = h.out; told = h.told; is = out_so Kind Other h.out f h.is }
lines_stop_in Kind Other Turn shelf sink before after stop.Unwritten f h = (record { answer = h.0.answer; is = f h.0.answer h.0.is; front = h.0.front }, h.1)

-- work in other work: one kind of answer, one turn and one count for others
pub stops_in_so : (Kind Other : Answer → Type 0) (Turn Later : List ℕ → List ℕ → Type 0) (shelf shelves sink sinks : Type 0) (before after : Option (List ℕ)) (s : Stop) → ((a : Answer) → Kind a → Other a)
    → ((file out : List ℕ) → Turn file out → Later file out) → (shelf → shelves) → (sink → sinks) → StopsIn Kind Turn shelf sink before after s → StopsIn Other Later shelves sinks before after s
stops_in_so Kind Other Turn Later shelf shelves sink sinks before after (stop.Refused r) f t up on h =
    (ends_so Kind Other before after (line_of (refused_json r)) (refused_status r) f h.0, h.1)
stops_in_so Kind Other Turn Later shelf shelves sink sinks before after (stop.Unread file) f t up on h =
    (record { out = h.0.out; told = h.0.told; is = t file h.0.out h.0.is }, (up h.1.0, h.1.1))
stops_in_so Kind Other Turn Later shelf shelves sink sinks before after stop.Memory f t up on h = record { out = h.out; told = h.told; is = out_so Kind Other h.out f h.is }
stops_in_so Kind Other Turn Later shelf shelves sink sinks before after stop.Unwritten f t up on h = (record { answer = h.0.answer; is = f h.0.answer h.0.is; front = h.0.front }, on h.1)

-- ---- what is settled

-- the words of a refusal of work are texts
pub work_texts : (r : Refusal) → IsOfWork r → HasTexts r
work_texts Usage h = absurd h
work_texts (ReadFault file) h = absurd h
work_texts (TooLong file) h = h
work_texts (Unbound name at) h = h
work_texts (Rebound name at) h = h
work_texts (UsedTwice name at first) h = h
work_texts r h = tt

-- what is settled is no fault of a device
own : (b : Bool) → IsOwn (if b then status.Limit else status.Refused)
own true = record { written = tt; not_usage = λ e. cc; not_read = λ e. cc }
own false = record { written = tt; not_usage = λ e. cc; not_read = λ e. cc }

work_own : (r : Refusal) → IsOfWork r → IsOwn (refused_status r)
work_own Usage h = absurd h
work_own (ReadFault file) h = absurd h
work_own r h = own (is_limit r)

worked_own : (s : Status) → IsWorked s → IsOwn s
worked_own status.Good h = record { written = tt; not_usage = λ e. cc; not_read = λ e. cc }
worked_own status.Negative h = record { written = tt; not_usage = λ e. cc; not_read = λ e. cc }
worked_own s h = absurd h

some_none : {A : Type 0} (x : A) → Some x ≡ None → ⊥
some_none x e = cc

module _ (told : Option Files) (k : Command) (shelf : Type 0) (before after : Option (List ℕ)) where
  -- a status of its own, of a command
  own_last : (l : Output) → IsOwn l.status → Wrote before after (λ out. Whole told (Some k) (out ++ l.bytes.items) l.status) → IsLast told (Some k) shelf before after l
  own_last l o w = record {
    written = o.written;
    usage = (λ e. absurd (o.not_usage e), λ e. absurd (some_none k e));
    read = λ e. absurd (o.not_read e);
    whole = w;
  }

  pub worked_settled : (l : Output) → IsWorked l.status → Ends (IsAnswer told (Some k)) before after l.bytes.items l.status → IsLast told (Some k) shelf before after l
  worked_settled l w h =
      own_last l (worked_own l.status w) (record { out = h.out; told = h.told; is = answered (answer_of (h.out ++ l.bytes.items) l.status) h.is.1 refl refl })

  pub refused_settled : (sink : Type 0) (r : Refusal) → IsOfWork r → Ends (IsAnswer told (Some k)) before after (line_of (refused_json r)) (refused_status r)
      → (e : Ending) → IsRefused r e → Settled told (Some k) shelf sink before after e
  refused_settled sink r w h (ending.Last l) line =
      own_last l (rw line.1 (work_own r w)) (record {
        out = h.out;
        told = h.told;
        is = answered (answer_of (h.out ++ line_of (refused_json r)) (refused_status r)) h.is.1 line.1 (ap (λ xs. h.out ++ xs) line.0);
      })
  refused_settled sink r w h ending.Starved line =
      record { out = h.out; told = h.told; is = first_lines (answer_of (h.out ++ line_of (refused_json r)) (refused_status r)) h.is.1 h.is.0 (line_of (refused_json r)) refl }
  refused_settled sink r w h ending.Unwritten line = absurd line

  pub unread_settled : (sink : Type 0) (file : List ℕ) → Wrote before after (ReadsAfter told (Some k) file) → shelf → (e : Ending) → IsRefused (ReadFault file) e → Settled told (Some k) shelf sink before after e
  unread_settled sink file w rose (ending.Last l) line = record {
    written = rw line.1 tt;
    usage = (λ e. let bad : status.ReadFault ≡ status.Usage = sym line.1 ∙ e in absurd cc, λ e. absurd (some_none k e));
    read = λ e. rose;
    whole = record { out = w.out; told = w.told; is = unread file w.out w.is line.1 (ap (λ xs. w.out ++ xs) line.0) };
  }
  unread_settled sink file w rose ending.Starved line = record { out = w.out; told = w.told; is = out_at told k file w.out w.is.1 }
  unread_settled sink file w rose ending.Unwritten line = absurd line

pub usage_settled : (told : Option Files) (shelf sink : Type 0) (out : Option (List ℕ)) (e : Ending) → IsRefused Usage e → Settled told None shelf sink out out e
usage_settled told shelf sink out (ending.Last l) line = record {
  written = rw line.1 tt;
  usage = (λ e. refl, λ e. line.1);
  read = λ e. let bad : status.Usage ≡ status.ReadFault = sym line.1 ∙ e in absurd cc;
  whole = wrote_nothing out out (λ xs. Whole told None (xs ++ l.bytes.items) l.status) refl (answered (refused Usage) refl line.1 line.0);
}
usage_settled told shelf sink out ending.Starved line = wrote_nothing out out (IsOut (IsAnswer told None)) refl (nothing refl)
usage_settled told shelf sink out ending.Unwritten line = absurd line

-- ---- line by line

-- some bytes after those before them
put_more : (told mid new : Option (List ℕ)) (bytes : List ℕ) (from k n : ℕ) → k ≤ n → mid ≡ appended told (take from bytes) → new ≡ appended mid (take k (take n (drop from bytes))) → new ≡ appended told (take (from + k) bytes)
put_more told mid new bytes from k n le m e =
    e ∙ ap (λ xs. appended mid xs) (take-take k n (drop from bytes) le) ∙ ap (λ t. appended t (take k (drop from bytes))) m
    ∙ appended-append told (take from bytes) (take k (drop from bytes)) ∙ ap (appended told) (sym (take-add from k bytes))

-- a whole line after the lines before it
pub line_put : (told mid new : Option (List ℕ)) (bytes : List ℕ) (from to : ℕ) → from ≤ to → mid ≡ appended told (take from bytes) → new ≡ appended mid (take (to - from) (drop from bytes)) → new ≡ appended told (take to bytes)
line_put told mid new bytes from to le m e =
    let n = to - from in
    let end : from + n ≡ to = omega arith in
    let again = take-take n n (drop from bytes) (omega arith) in
    put_more told mid new bytes from n n (omega arith) m (e ∙ ap (λ xs. appended mid xs) (sym again)) ∙ ap (λ k. appended told (take k bytes)) end

-- a front of a line after the lines before it
pub front_put : (told mid new : Option (List ℕ)) (bytes : List ℕ) (from to : ℕ) → from ≤ to → to ≤ length bytes → mid ≡ appended told (take from bytes) → FrontIsOut mid new (take (to - from) (drop from bytes)) → FrontIsOut told new bytes
front_put told mid new bytes from to le within m f =
    let few : f.count ≤ to - from = omega (arith, f.within, length-take (to - from) (drop from bytes)) in
    record {
      count = from + f.count;
      within = omega arith;
      out = put_more told mid new bytes from f.count (to - from) few m f.out;
    }

-- what holds anyway holds of a failure
pub on_err : {T E : Type 0} {P : Type 0} (r : Result T E) → P → OnErr r P
on_err (Ok x) h = tt
on_err (Err e) h = h

-- ---- the bytes are written, or cut off

pub last_report : (told : Option Files) (c : Option Command) (before mid after : Option (List ℕ)) (bytes : List ℕ) (s r : Status) → Wrote before mid (λ out. Whole told c (out ++ bytes) s)
    → (r ≡ s) ⊎ (r ≡ status.WriteFault) → (r ≢ status.WriteFault → after ≡ appended mid bytes) → (r ≡ status.WriteFault → FrontIsOut mid after bytes) → s ≢ status.WriteFault → Reports told c before after r
last_report told c before mid after bytes s r w (inl e) out front apart = record {
  bytes = w.out ++ bytes;
  out = out (λ x. apart (sym e ∙ x)) ∙ ap (λ m. appended m bytes) w.told ∙ appended-append before w.out bytes;
  is = rw e (whole w.is);
}
last_report told c before mid after bytes s r w (inr e) out front apart =
    let g = front e in record {
      bytes = w.out ++ take g.count bytes;
      out = g.out ∙ ap (λ m. appended m (take g.count bytes)) w.told ∙ appended-append before w.out (take g.count bytes);
      is = cut (w.out ++ bytes) s w.is (length w.out + g.count) (sym (take-append-add w.out bytes g.count)) e;
    }

-- memory was wanted
pub starved_whole : (told : Option Files) (c : Option Command) (before mid : Option (List ℕ)) → Wrote before mid (IsOut (IsAnswer told c)) → Wrote before mid (λ out. Whole told c (out ++ memory_line) status.Memory)
starved_whole told c before mid w = record { out = w.out; told = w.told; is = starved w.out w.is refl refl }

-- a line couldn't be written
pub unwritten_report : (told : Option Files) (c : Option Command) (before after : Option (List ℕ)) → WroteFront before after (IsAnswer told c) → Reports told c before after status.WriteFault
unwritten_report told c before after w = record {
  bytes = take w.front.count w.answer.text;
  out = w.front.out;
  is = cut w.answer.text w.answer.status (answered w.answer w.is refl refl) w.front.count refl refl;
}

pub written_apart : (s : Status) → IsWritten s → s ≢ status.WriteFault
written_apart s w e = absurd (rw e at w)
