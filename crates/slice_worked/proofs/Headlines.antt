-- The headline's definitions at small programs: one that gets stuck and one that leaves envy aren't fair, one that does nothing
-- is; and a file of it holds a fair program.
use Rattle.std.proofs.Common.{◌≡◌, ◌<◌, ◌≤◌, ◌+◌, ◌-◌, ◌∙◌, ◌++◌, ℕ, zero, suc, List, [], ◌∷◌, pos, true, false, inl, inr, refl, sym, subst, arith}
use Rattle.std.specs.Prelude.{Bool, codes, None, Some, if◌then◌else◌, slice_index_or}
use Rattle.std.specs.Fmt.{digits}
use Rattle.std.proofs.lemmas.Int.{ints}
use Rattle.slice_num.specs.Gcd.{gcd_of, gcd_steps}
use Rattle.slice_num.specs.Rational.{Rational, ratio, whole, plus, times, IsBelow}
use Rattle.slice_num.specs.Arithmetic.{inverse}
use Rattle.slice_num.specs.Valuation.{Valuation, IsValuation, IsValuationList, cake_length, value}
use Rattle.slice_num.specs.Pieces.{piece_at}
use Rattle.slice_num.specs.declared.interval.Interval.{Interval}
use Rattle.slice_num.specs.declared.cut_answer.CutAnswer.{CutAnswer}
use Rattle.slice_lex.specs.Text.{no_gap, layout, Follow, Spells}
use Rattle.slice_ast.specs.Code as code
use Rattle.slice_ast.specs.Code.{Code, PlainProgram}
use Rattle.slice_ast.specs.Tokens.{tokens}
use Rattle.slice_ast.specs.Spellable.{IsSpellable}
use Rattle.slice_ast.specs.Limits.{IsWithinLimits}
use Rattle.slice_ast.specs.declared.tree.Name.{Name}
use Rattle.slice_ast.specs.declared.tree.Number.{Number}
use Rattle.slice_ast.specs.declared.tree.AgentRef.{AgentRef}
use Rattle.slice_ast.specs.declared.tree.AgentRef.TheVariants as ref
use Rattle.slice_ast.specs.declared.tree.Operand.TheVariants as operand
use Rattle.slice_ast.specs.declared.tree.Sum.{Sum}
use Rattle.slice_affine.specs.Ways.{Event, IsWay, ComesAfter}
use Rattle.slice_affine.specs.Rules.{MeetsRules, flow_of}
use Rattle.slice_core.specs.Measures.{worth_of, length_of}
use Rattle.slice_expand.specs.ProgramRun.{Few}
use Rattle.slice_core.specs.Division.{lies_in}
use Rattle.slice_top.specs.Commands.{verify, certify, command_of}
use Rattle.slice_top.specs.Headline.{run_on, IsFairEnd, EveryRunIsFair, HoldsFairProgram}
use Rattle.slice_worked.specs.Examples.{FairAndUnfairProgramsExist}

-- ---- programs as plain data, places aside

abbrev named : List ℕ → Name
named text = record { word = text; at = 0 }

abbrev number : ℕ → Number
number n = record { value = n; at = 0 }

abbrev agent : ℕ → AgentRef
agent a = ref.Fixed (number a)

abbrev fraction : ℕ → ℕ → Sum
fraction n d = record { terms = record { minus = false; factor = None; operand = operand.Fraction (record { num = number n; den = Some (number d) }) } ∷ [] }

cake : Name
cake = named (codes "cake")

left : Name
left = named (codes "l")

right : Name
right = named (codes "r")

-- for two agents, where agent 1 cuts the cake so
abbrev cut_at : Sum → Code → PlainProgram
cut_at amount rest = record { procs = []; name = named (codes "p"); agents = number 2; body = code.Cut (agent 1) cake amount left right rest }

-- ---- valuations: agent 1 likes two units alike, agent 2 the first one alone

tastes : List Valuation
tastes = record { ends = 2 ∷ []; heights = 1 ∷ [] } ∷ record { ends = 1 ∷ 2 ∷ []; heights = 1 ∷ 0 ∷ [] } ∷ []

are_valuations : IsValuationList 2 tastes
unfolding tastes
are_valuations = record { one_each = refl; valuations = each; one_cake = λ k d l. of_one k l d }
  where
    each : (k : ℕ) (d : Valuation) → k < 2 → IsValuation (slice_index_or tastes k d)
    each zero d l = record { same_length = refl; rises = (omega arith, record {}); some_height = omega arith }
    each (suc zero) d l = record { same_length = refl; rises = (omega arith, (omega arith, record {})); some_height = omega arith }
    each (suc (suc k)) d l = absurd (omega (arith, l))

    both : (k : ℕ) (d : Valuation) → k < 2 → cake_length (slice_index_or tastes k d) ≡ 2
    both zero d l = refl
    both (suc zero) d l = refl
    both (suc (suc k)) d l = absurd (omega (arith, l))

    of_one : (k : ℕ) (l : k < 2) (d : Valuation) (i : ℕ) (e : Valuation) → i < 2 → cake_length (slice_index_or tastes k d) ≡ cake_length (slice_index_or tastes i e)
    of_one k l d i e m = both k d l ∙ sym (both i e m)

-- ---- a program whose run is stuck isn't fair

asks_too_much : PlainProgram
asks_too_much = cut_at (fraction 3 2) code.End

stuck_is_not_fair : EveryRunIsFair asks_too_much → ⊥
unfolding asks_too_much cake left right tastes value plus times inverse ratio gcd_of gcd_steps
stuck_is_not_fair h = h.fair tastes are_valuations []

-- ---- nor is one that leaves envy: agent 1 cuts in the middle and keeps the left half, which is all that agent 2 likes

halves : PlainProgram
halves = cut_at (fraction 1 2) (code.Give left (agent 1) (code.Give right (agent 2) code.End))

envy_is_not_fair : EveryRunIsFair halves → ⊥
unfolding halves cake left right tastes value plus times inverse ratio gcd_of gcd_steps
envy_is_not_fair h =
    (h.fair tastes are_valuations (record { part = 0; point = whole (pos 1) } ∷ [])).1 2 1 (omega arith, omega arith) (omega arith, omega arith) (omega (arith, ints))

-- ---- one that does nothing is fair: nobody has a share

nothing : PlainProgram
nothing = record { procs = []; name = named (codes "none"); agents = number 2; body = code.End }

abbrev empty : List (List Interval)
empty = [] ∷ [] ∷ []

is_empty : (k : ℕ) → piece_at empty k ≡ []
is_empty zero = refl
is_empty (suc zero) = refl
is_empty (suc (suc k)) = refl

at_most_once : (b : Bool) → (if b then 1 else 0) + 0 ≤ 1
at_most_once true = omega arith
at_most_once false = omega arith

not_below_itself : (q : Rational) → IsBelow q q → ⊥
not_below_itself q h = omega (arith, ints, h)

no_envy : (vs : List Valuation) (a j k : ℕ) → IsBelow (worth_of vs a (piece_at empty j)) (worth_of vs a (piece_at empty k)) → ⊥
no_envy vs a j k h =
    not_below_itself (worth_of vs a [])
    (subst (λ (p : List Interval). IsBelow (worth_of vs a []) (worth_of vs a p)) (is_empty k)
    (subst (λ (p : List Interval). IsBelow (worth_of vs a p) (worth_of vs a (piece_at empty k))) (is_empty j) h))

every_run : (vs : List Valuation) (ys : List CutAnswer) → IsFairEnd vs (run_on vs nothing ys)
unfolding nothing
every_run vs [] =
    (λ t. at_most_once (lies_in t (record { from = whole (pos 0); to = whole (pos (length_of vs)) })), λ a b own other h. no_envy vs a (a - 1) (b - 1) h)
every_run vs (y ∷ ys) = record {}

no_answer_is_wanted : (vs : List Valuation) (ys : List CutAnswer) (query : ℕ) → run_on vs nothing ys ≡ Few query → ⊥
unfolding nothing
no_answer_is_wanted vs [] query e = cc
no_answer_is_wanted vs (y ∷ ys) query e = cc

nothing_is_fair : EveryRunIsFair nothing
unfolding nothing
nothing_is_fair = record { fair = λ vs is ys. every_run vs ys; some = λ vs is. ([], record {}); on = λ vs is ys query e. absurd (no_answer_is_wanted vs ys query e) }

-- ---- a text of it, and its rules

spaced : (token : List ℕ) (more : List (List ℕ)) (rest : List ℕ) → Follow more rest → Follow (token ∷ more) (token ++ 32 ∷ rest)
spaced token more rest h = (32 ∷ [], (rest, (refl, layout 32 [] rest (refl) (no_gap rest), (λ e. cc), h)))

abbrev text : List ℕ
text = codes "protocol none agents 2 { }"

its_tokens : tokens nothing ≡ codes "protocol" ∷ codes "none" ∷ codes "agents" ∷ codes "2" ∷ codes "{" ∷ codes "}" ∷ []
unfolding nothing digits
its_tokens = refl

last_token : Follow (codes "}" ∷ []) (codes "}")
last_token = ([], ([], (refl, no_gap [], (λ e. refl), refl)))

spelled : Spells text (tokens nothing)
unfolding nothing digits
spelled = (
  [],
  (
    text,
    (
      refl,
      no_gap text,
      spaced (codes "protocol") (codes "none" ∷ codes "agents" ∷ codes "2" ∷ codes "{" ∷ codes "}" ∷ []) (codes "none agents 2 { }")
          (spaced (codes "none") (codes "agents" ∷ codes "2" ∷ codes "{" ∷ codes "}" ∷ []) (codes "agents 2 { }")
          (spaced (codes "agents") (codes "2" ∷ codes "{" ∷ codes "}" ∷ []) (codes "2 { }")
          (spaced (codes "2") (codes "{" ∷ codes "}" ∷ []) (codes "{ }")
          (spaced (codes "{") (codes "}" ∷ []) (codes "}") last_token)))),
    ),
  ),
)

spellable : IsSpellable nothing
unfolding nothing
spellable = (record {}, refl, omega arith, record {})

within : IsWithinLimits nothing
unfolding nothing
within = (record {}, record {})

no_way : (w : List Event) → IsWay (flow_of nothing) w → w ≡ []
unfolding nothing
no_way w (u, e, (v, h, n)) = e ∙ (h ∙ n)

no_events : (w : List Event) → w ≡ [] → (first : ℕ) (late : Event) → ComesAfter w first late → ⊥
no_events [] e first late h = h
no_events (x ∷ w) e first late h = cc

rules : MeetsRules nothing
unfolding nothing
rules f (inl (inl h)) = h
rules f (inl (inr (inl h))) = h
rules f (inl (inr (inr (inl h)))) = h
rules f (inl (inr (inr (inr (inl h))))) = h
rules f (inl (inr (inr (inr (inr h))))) = h
rules f (inr (late, first, e, (w, way, comes), least)) = no_events w (no_way w way) first late comes

-- so a file of that text holds a fair program: all that the headline says of one, shown by hand
pub a_fair_file : HoldsFairProgram ((codes "none.slice", text) ∷ []) (codes "none.slice")
a_fair_file = record {
  text = text;
  there = refl;
  fair = record {
    program = nothing;
    spelled = record { spelled = spelled; spellable = spellable; within = within };
    rules = rules;
    every = nothing_is_fair;
  };
}

-- ---- words

verify_words : command_of (codes "verify" ∷ codes "f" ∷ []) ≡ Some (verify (codes "f"))
verify_words = refl

certify_words : command_of (codes "certify" ∷ codes "f" ∷ codes "c" ∷ []) ≡ Some (certify (codes "f") (codes "c"))
certify_words = refl

-- a file's name isn't empty, no command takes more, and a command has its own number of words
no_name : command_of (codes "verify" ∷ [] ∷ []) ≡ None
no_name = refl

one_word_more : command_of (codes "certify" ∷ codes "f" ∷ codes "c" ∷ codes "d" ∷ []) ≡ None
one_word_more = refl

one_word_less : command_of (codes "run" ∷ codes "f" ∷ []) ≡ None
one_word_less = refl

-- ---- both kinds are there

pub a_fair_and_an_unfair_program : FairAndUnfairProgramsExist
a_fair_and_an_unfair_program = (((codes "none.slice", text) ∷ [], codes "none.slice", a_fair_file), (halves, envy_is_not_fair))
