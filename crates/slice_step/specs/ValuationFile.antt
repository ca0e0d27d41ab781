-- Files of valuations and of answers: what they say, and the first fault of one.
use Rattle.std.specs.Prelude.{◌≡◌, ℕ, suc, ◌^◌, ◌&&◌, ◌==◌, nat_le, nat_lt, ℤ, pos, int_lt, int_le, Bool, true, false, not, if◌then◌else◌, List, [], ◌∷◌, map, codes, Option, Some, None, is_some, option_map, option_and_then, ⊤}
use Rattle.std.specs.Ordering.{int_eq}
use Rattle.std.specs.List.{All, list_all}
use Rattle.serde_json.specs.Data.{Data, Items, no_items, item}
use Rattle.serde_json.specs.Find.{as_array, as_str}
use Rattle.serde_json.specs.Events.{items_len}
use Rattle.slice_json.specs.Reading.{json_of, items_at, wholes_of, natural_of}
use Rattle.slice_num.specs.Valuation.{Valuation, IsSmall, IsValuationList}
use Rattle.slice_num.specs.FractionReading.{fraction_read}
use Rattle.slice_num.specs.declared.cut_answer.CutAnswer.{CutAnswer}
use Rattle.slice_step.specs.declared.fault.ValuationFault.{ValuationFault}
use Rattle.slice_step.specs.declared.fault.ValuationFault.TheVariants as fault

-- ---- what files say

-- the numbers of the array at a key of an object, where each of its items is whole
abbrev pub numbers_at : List ℕ → Data → Option (List ℤ)
numbers_at key d = option_and_then wholes_of (items_at key d)

-- an agent's entry says the valuation: the ends and the heights of its steps stand in two arrays. Other keys are passed over
pub record Says (d : Data) (v : Valuation) : Type 0 where
  pub ends : numbers_at (codes "ends") d ≡ Some (map (λ n. pos n) v.ends)
  pub heights : numbers_at (codes "heights") d ≡ Some (map (λ n. pos n) v.heights)

-- the entries say the valuations, one after another
abbrev pub AllSay : Items → List Valuation → Type 0
AllSay no_items [] = ⊤
AllSay no_items (v ∷ vs) = ⊥
AllSay (item d ds) [] = ⊥
AllSay (item d ds) (v ∷ vs) = Says d v × AllSay ds vs

-- the entries hold a small valuation for each of so many agents, over one cake
pub record Hold (entries : Items) (agents : ℕ) (vs : List Valuation) : Type 0 where
  pub said : AllSay entries vs
  pub list : IsValuationList agents vs
  pub small : All IsSmall vs

-- the bytes are a file of valuations: a JSON array of entries
pub record IsValuationFile (bytes : List ℕ) (agents : ℕ) (vs : List Valuation) : Type 0 where
  pub entries : Items
  pub is : option_and_then as_array (json_of bytes) ≡ Some entries
  pub hold : Hold entries agents vs

-- an answer to a cut: a text with a fraction, which is the point in part 0, or an array of the part and such a text
abbrev pub point_in : ℕ → Data → Option CutAnswer
point_in part d = option_map (λ q. record { part = part; point = q }) (option_and_then fraction_read (as_str d))

abbrev pub part_of : Data → Option ℕ
part_of d = option_and_then (λ n. if nat_lt n (2 ^ 32) then Some n else None) (natural_of d)

abbrev pub pair_in : Items → Option CutAnswer
pair_in no_items = None
pair_in (item d no_items) = None
pair_in (item d (item e no_items)) = option_and_then (λ part. point_in part e) (part_of d)
pair_in (item d (item e (item f ds))) = None

abbrev pub cut_by : Option Items → Data → Option CutAnswer
cut_by None d = point_in 0 d
cut_by (Some ds) d = pair_in ds

abbrev pub cut_of : Data → Option CutAnswer
cut_of d = cut_by (as_array d) d

-- the entries say the answers, one after another
abbrev pub AllAnswer : Items → List CutAnswer → Type 0
AllAnswer no_items [] = ⊤
AllAnswer no_items (y ∷ ys) = ⊥
AllAnswer (item d ds) [] = ⊥
AllAnswer (item d ds) (y ∷ ys) = (cut_of d ≡ Some y) × AllAnswer ds ys

-- the bytes are a file of valuations and answers: a JSON object with an array of each. Other keys are passed over
pub record IsReplayFile (bytes : List ℕ) (agents : ℕ) (vs : List Valuation) (ys : List CutAnswer) : Type 0 where
  pub top : Data
  pub entries : Items
  pub cuts : Items
  pub json : json_of bytes ≡ Some top
  pub valuations : items_at (codes "valuations") top ≡ Some entries
  pub answers : items_at (codes "cuts") top ≡ Some cuts
  pub hold : Hold entries agents vs
  pub said : AllAnswer cuts ys

-- ---- what is wrong with an agent's entry

-- both arrays are there, and as long as each other, from 1 to 1,000 items
abbrev pub has_steps : Option Items → Option Items → Bool
has_steps None hs = false
has_steps (Some es) None = false
has_steps (Some es) (Some hs) = (items_len es == items_len hs) && (nat_le 1 (items_len es) && nat_le (items_len es) 1000)

-- the numbers, where each is whole
abbrev pub or_nothing : Option (List ℤ) → List ℤ
or_nothing None = []
or_nothing (Some zs) = zs

abbrev pub numbers : List ℕ → Data → List ℤ
numbers key d = or_nothing (numbers_at key d)

-- they rise strictly, from above `low`
abbrev pub do_rise : ℤ → List ℤ → Bool
do_rise low [] = true
do_rise low (z ∷ zs) = int_lt low z && do_rise z zs

-- the last of them
abbrev pub last_number : ℤ → List ℤ → ℤ
last_number low [] = low
last_number low (z ∷ zs) = last_number z zs

-- the ends rise strictly from above 0, up to at most 1,000,000
abbrev pub are_ends : List ℤ → Bool
are_ends es = do_rise (pos 0) es && int_le (last_number (pos 0) es) (pos (10 ^ 6))

-- the heights lie from 0 to 10^18
abbrev pub are_heights : List ℤ → Bool
are_heights hs = list_all (λ h. int_le (pos 0) h && int_le h (pos (10 ^ 18))) hs

-- all of them are 0
abbrev pub are_zero : List ℤ → Bool
are_zero hs = list_all (λ h. int_eq h (pos 0)) hs

-- the fault of the first test that fails
abbrev pub first_failed : List (Bool × ValuationFault) → Option ValuationFault
first_failed [] = None
first_failed (t ∷ ts) = if t.0 then first_failed ts else Some t.1

-- the first fault of the agent's entry, where the first agent's last end is `cake_end`
unfoldable pub entry_fault : ℕ → ℤ → Data → Option ValuationFault
entry_fault agent cake_end d =
    first_failed (
    (has_steps (items_at (codes "ends") d) (items_at (codes "heights") d), fault.Shape agent)
    ∷ (is_some (numbers_at (codes "ends") d) && is_some (numbers_at (codes "heights") d), fault.NotWhole agent)
    ∷ (are_ends (numbers (codes "ends") d), fault.EndsOrder agent)
    ∷ (are_heights (numbers (codes "heights") d), fault.HeightRange agent)
    ∷ (not (are_zero (numbers (codes "heights") d)), fault.NoTotal agent)
    ∷ (int_eq (last_number (pos 0) (numbers (codes "ends") d)) cake_end, fault.LengthsDiffer agent)
    ∷ []
    )

-- ---- what is wrong with a file

-- the first fault, and where there is none the other
abbrev pub or_else : Option ValuationFault → Option ValuationFault → Option ValuationFault
or_else None g = g
or_else (Some f) g = Some f

-- the first fault of the entries, from that agent on
abbrev pub each_fault : ℕ → ℤ → Items → Option ValuationFault
each_fault agent cake_end no_items = None
each_fault agent cake_end (item d ds) = or_else (entry_fault agent cake_end d) (each_fault (suc agent) cake_end ds)

-- the last end of the first entry
abbrev pub first_end : Items → ℤ
first_end no_items = pos 0
first_end (item d ds) = last_number (pos 0) (numbers (codes "ends") d)

-- there must be as many entries as agents
abbrev pub entries_fault : ℕ → Items → Option ValuationFault
entries_fault agents entries = if items_len entries == agents then each_fault 1 (first_end entries) entries else Some fault.AgentCount

-- the first of the answers that can't be read; `index` counts those before
abbrev pub cuts_fault : ℕ → Items → Option ValuationFault
cuts_fault index no_items = None
cuts_fault index (item d ds) = if is_some (cut_of d) then cuts_fault (suc index) ds else Some (fault.CutForm index)

abbrev pub array_fault : ℕ → Option Items → Option ValuationFault
array_fault agents None = Some (fault.Shape 0)
array_fault agents (Some entries) = entries_fault agents entries

abbrev pub object_fault : ℕ → Option Items → Option Items → Option ValuationFault
object_fault agents None cuts = Some (fault.Shape 0)
object_fault agents (Some entries) None = Some (fault.Shape 0)
object_fault agents (Some entries) (Some cuts) = or_else (entries_fault agents entries) (cuts_fault 0 cuts)

-- the first fault of a JSON value
abbrev pub in_json : (Data → Option ValuationFault) → Option Data → Option ValuationFault
in_json f None = Some fault.Json
in_json f (Some d) = f d

-- the first fault of a file of valuations for so many agents, if it has any
abbrev pub valuations_fault : List ℕ → ℕ → Option ValuationFault
valuations_fault bytes agents = in_json (λ d. array_fault agents (as_array d)) (json_of bytes)

-- the first fault of a file of valuations and answers
abbrev pub replay_fault : List ℕ → ℕ → Option ValuationFault
replay_fault bytes agents = in_json (λ d. object_fault agents (items_at (codes "valuations") d) (items_at (codes "cuts") d)) (json_of bytes)
