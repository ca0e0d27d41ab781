-- What a second file says, or its first fault.
use Rattle.std.proofs.Common.{◌≡◌, ◌≢◌, ℕ, suc, ◌<◌, Bool, true, false, List, [], ◌∷◌, Option, Some, None}
use Rattle.std.specs.Prelude.{ℤ, pos, not, ◌&&◌, ◌==◌, is_some, codes, if◌then◌else◌}
use Rattle.std.specs.Ordering.{int_eq}
use Rattle.serde_json.specs.Data.{Data, Items, no_items, item}
use Rattle.serde_json.specs.Find.{as_array}
use Rattle.serde_json.specs.Events.{items_len}
use Rattle.slice_json.specs.Reading.{json_of, items_at}
use Rattle.slice_num.specs.Valuation.{Valuation}
use Rattle.slice_num.specs.declared.cut_answer.CutAnswer.{CutAnswer}
use Rattle.slice_step.specs.ValuationFile.{IsValuationFile, IsReplayFile, numbers_at, has_steps, numbers, last_number, are_ends, are_heights, are_zero, first_failed, entry_fault, first_end, cut_of, or_else, each_fault, entries_fault, cuts_fault, array_fault, object_fault, in_json, valuations_fault, replay_fault}
use Rattle.slice_step.specs.declared.fault.ValuationFault.{ValuationFault}
use Rattle.slice_step.specs.declared.fault.ValuationFault.TheVariants as fault
use Rattle.slice_step.proofs.OneAnswer.{file_exact, one_replay, replay_exact}

pub values_apart : (bytes : List ℕ) (agents : ℕ) (vs : List Valuation) (f : ValuationFault) → 0 < agents → IsValuationFile bytes agents vs → valuations_fault bytes agents ≡ Some f → ⊥
values_apart bytes agents vs f some is e =
    let exact = file_exact bytes agents some in
    let none : (us : List Valuation) → IsValuationFile bytes agents us → ⊥ = rw e at exact in
    none vs is

pub replay_apart : (bytes : List ℕ) (agents : ℕ) (vs : List Valuation) (ys : List CutAnswer) (f : ValuationFault) → 0 < agents → IsReplayFile bytes agents vs ys → replay_fault bytes agents ≡ Some f → ⊥
replay_apart bytes agents vs ys f some is e =
    let exact = replay_exact bytes agents some in
    let none : (us : List Valuation) (zs : List CutAnswer) → IsReplayFile bytes agents us zs → ⊥ = rw e at exact in
    none vs ys is

pub replay_same : (bytes : List ℕ) (agents : ℕ) (x y : List Valuation × List CutAnswer) → IsReplayFile bytes agents x.0 x.1 → IsReplayFile bytes agents y.0 y.1 → x ≡ y
replay_same bytes agents x y h k = let e = one_replay bytes agents x.0 y.0 x.1 y.1 h k in λ i. (e.0 i, e.1 i)

pub replay_found : (bytes : List ℕ) (agents : ℕ) → 0 < agents → replay_fault bytes agents ≡ None → (file : List Valuation × List CutAnswer) × IsReplayFile bytes agents file.0 file.1
replay_found bytes agents some e =
    let exact = replay_exact bytes agents some in
    let found : (vs : List Valuation) × ((ys : List CutAnswer) × IsReplayFile bytes agents vs ys) = rw e at exact in
    ((found.0, found.1.0), found.1.1)

-- ---- no fault of a file is want of memory

abbrev IsFault : Option ValuationFault → Type 0
IsFault o = o ≢ Some fault.Memory

some_same : {x y : ValuationFault} → Some x ≡ Some y → x ≡ y
some_same e = cc

told : (f : ValuationFault) → f ≢ fault.Memory → IsFault (Some f)
told f h e = h (some_same e)

if_told : (b : Bool) (x y : Option ValuationFault) → IsFault x → IsFault y → IsFault (if b then x else y)
if_told true x y h k = h
if_told false x y h k = k

or_told : (x y : Option ValuationFault) → IsFault x → IsFault y → IsFault (or_else x y)
or_told None y h k = k
or_told (Some f) y h k = h

failed_told : (b : Bool) (f : ValuationFault) (ts : List (Bool × ValuationFault)) → f ≢ fault.Memory → IsFault (first_failed ts) → IsFault (first_failed ((b, f) ∷ ts))
failed_told b f ts h k = if_told b (first_failed ts) (Some f) k (told f h)

none_told : IsFault None
none_told = λ e. cc

six : (b0 b1 b2 b3 b4 b5 : Bool) (agent : ℕ) → IsFault (first_failed ((b0, fault.Shape agent) ∷ (b1, fault.NotWhole agent) ∷ (b2, fault.EndsOrder agent) ∷ (b3, fault.HeightRange agent) ∷ (b4, fault.NoTotal agent) ∷ (b5, fault.LengthsDiffer agent) ∷ []))
six b0 b1 b2 b3 b4 b5 agent =
    let t5 : List (Bool × ValuationFault) = (b5, fault.LengthsDiffer agent) ∷ [] in
    let t4 : List (Bool × ValuationFault) = (b4, fault.NoTotal agent) ∷ t5 in
    let t3 : List (Bool × ValuationFault) = (b3, fault.HeightRange agent) ∷ t4 in
    let t2 : List (Bool × ValuationFault) = (b2, fault.EndsOrder agent) ∷ t3 in
    let t1 : List (Bool × ValuationFault) = (b1, fault.NotWhole agent) ∷ t2 in
    failed_told b0 (fault.Shape agent) t1 (λ e. cc) (failed_told b1 (fault.NotWhole agent) t2 (λ e. cc) (failed_told b2 (fault.EndsOrder agent) t3 (λ e. cc)
    (failed_told b3 (fault.HeightRange agent) t4 (λ e. cc) (failed_told b4 (fault.NoTotal agent) t5 (λ e. cc) (failed_told b5 (fault.LengthsDiffer agent) [] (λ e. cc) none_told)))))

entry_told : (agent : ℕ) (cake_end : ℤ) (d : Data) → IsFault (entry_fault agent cake_end d)
unfolding entry_fault
entry_told agent cake_end d =
    six (has_steps (items_at (codes "ends") d) (items_at (codes "heights") d)) (is_some (numbers_at (codes "ends") d) && is_some (numbers_at (codes "heights") d))
    (are_ends (numbers (codes "ends") d)) (are_heights (numbers (codes "heights") d)) (not (are_zero (numbers (codes "heights") d)))
    (int_eq (last_number (pos 0) (numbers (codes "ends") d)) cake_end) agent

each_told : (agent : ℕ) (cake_end : ℤ) (entries : Items) → IsFault (each_fault agent cake_end entries)
each_told agent cake_end no_items = none_told
each_told agent cake_end (item d ds) = or_told (entry_fault agent cake_end d) (each_fault (suc agent) cake_end ds) (entry_told agent cake_end d) (each_told (suc agent) cake_end ds)

entries_told : (agents : ℕ) (entries : Items) → IsFault (entries_fault agents entries)
entries_told agents entries = if_told (items_len entries == agents) (each_fault 1 (first_end entries) entries) (Some fault.AgentCount) (each_told 1 (first_end entries) entries) (told fault.AgentCount (λ e. cc))

cuts_told : (index : ℕ) (entries : Items) → IsFault (cuts_fault index entries)
cuts_told index no_items = none_told
cuts_told index (item d ds) = if_told (is_some (cut_of d)) (cuts_fault (suc index) ds) (Some (fault.CutForm index)) (cuts_told (suc index) ds) (told (fault.CutForm index) (λ e. cc))

array_told : (agents : ℕ) (o : Option Items) → IsFault (array_fault agents o)
array_told agents None = told (fault.Shape 0) (λ e. cc)
array_told agents (Some entries) = entries_told agents entries

object_told : (agents : ℕ) (o p : Option Items) → IsFault (object_fault agents o p)
object_told agents None p = told (fault.Shape 0) (λ e. cc)
object_told agents (Some entries) None = told (fault.Shape 0) (λ e. cc)
object_told agents (Some entries) (Some cuts) = or_told (entries_fault agents entries) (cuts_fault 0 cuts) (entries_told agents entries) (cuts_told 0 cuts)

json_told : (f : Data → Option ValuationFault) (o : Option Data) → ((d : Data) → IsFault (f d)) → IsFault (in_json f o)
json_told f None h = told fault.Json (λ e. cc)
json_told f (Some d) h = h d

pub fault_not_memory : (bytes : List ℕ) (agents : ℕ) → IsFault (valuations_fault bytes agents)
fault_not_memory bytes agents = json_told (λ d. array_fault agents (as_array d)) (json_of bytes) (λ d. array_told agents (as_array d))

pub replay_fault_not_memory : (bytes : List ℕ) (agents : ℕ) → IsFault (replay_fault bytes agents)
replay_fault_not_memory bytes agents = json_told (λ d. object_fault agents (items_at (codes "valuations") d) (items_at (codes "cuts") d)) (json_of bytes) (λ d. object_told agents (items_at (codes "valuations") d) (items_at (codes "cuts") d))
