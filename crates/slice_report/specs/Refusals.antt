-- The line of each refusal.
use Rattle.std.specs.Prelude.{◌≡◌, ℕ, List, IsTrue, ⊤, false, refl, codes}
use Rattle.std.specs.Str.{IsUtf8}
use Rattle.serde_json.specs.Data.{Data, object, member, no_members}
use Rattle.serde_json.specs.Written.{has_float}
use Rattle.slice_num.specs.Name.{is_name}
use Rattle.slice_json.specs.Texts.{whole, text}
use Rattle.slice_report.specs.declared.refusal.Refusal.{Refusal}
use Rattle.slice_report.specs.declared.refusal.Refusal.TheVariants.{Usage, ReadFault, TooLong, BadByte, LongWord, LongNumber, LeadingZero, Syntax, DeepBlock, LongSum, Unbound, Rebound, UsedTwice, AgentRange, Arity, YieldCount, ZeroDen, ProcLimit, Json, AgentCount, Shape, NotWhole, EndsOrder, HeightRange, NoTotal, LengthsDiffer, CutForm, BadAnswer, TooFewAnswers, TooManyAnswers, NodeLimit, DepthLimit, CutLimit, CallLimit, GoalLimit, RunOverflow, FormOverflow, ProverOverflow, CheckOverflow, PivotLimit, HeightLimit}

-- ---- lines of one shape, with keys in the order of their bytes

-- the name alone
abbrev pub named : List ℕ → Data
named name = object (member (codes "refused") (text name) no_members)

abbrev pub of_file : List ℕ → List ℕ → Data
of_file file name = object (member (codes "file") (text file) (member (codes "refused") (text name) no_members))

abbrev pub at_place : ℕ → List ℕ → Data
at_place at name = object (member (codes "at") (whole at) (member (codes "refused") (text name) no_members))

abbrev pub at_name : List ℕ → ℕ → List ℕ → Data
at_name word at name = object (member (codes "at") (whole at) (member (codes "name") (text word) (member (codes "refused") (text name) no_members)))

abbrev pub of_agent : ℕ → List ℕ → Data
of_agent agent name = object (member (codes "agent") (whole agent) (member (codes "refused") (text name) no_members))

abbrev pub of_entry : ℕ → List ℕ → Data
of_entry index name = object (member (codes "index") (whole index) (member (codes "refused") (text name) no_members))

abbrev pub at_query : ℕ → List ℕ → Data
at_query query name = object (member (codes "query") (whole query) (member (codes "refused") (text name) no_members))

abbrev pub at_goal : ℕ → List ℕ → Data
at_goal goal name = object (member (codes "goal") (whole goal) (member (codes "refused") (text name) no_members))

-- ---- all lines

abbrev pub refused_json : Refusal → Data
refused_json Usage = named (codes "Usage")
refused_json (ReadFault file) = of_file file (codes "ReadFault")
refused_json (TooLong file) = of_file file (codes "TooLong")
refused_json (BadByte at) = at_place at (codes "BadByte")
refused_json (LongWord at) = at_place at (codes "LongWord")
refused_json (LongNumber at) = at_place at (codes "LongNumber")
refused_json (LeadingZero at) = at_place at (codes "LeadingZero")
refused_json (Syntax at) = at_place at (codes "Syntax")
refused_json (DeepBlock at) = at_place at (codes "DeepBlock")
refused_json (LongSum at) = at_place at (codes "LongSum")
refused_json (Unbound name at) = at_name name at (codes "Unbound")
refused_json (Rebound name at) = at_name name at (codes "Rebound")
refused_json (UsedTwice name at first) =
    object (member (codes "at") (whole at) (member (codes "first") (whole first) (member (codes "name") (text name) (member (codes "refused") (text (codes "UsedTwice")) no_members))))
refused_json (AgentRange at) = at_place at (codes "AgentRange")
refused_json (Arity at) = at_place at (codes "Arity")
refused_json (YieldCount at) = at_place at (codes "YieldCount")
refused_json (ZeroDen at) = at_place at (codes "ZeroDen")
refused_json (ProcLimit at) = at_place at (codes "ProcLimit")
refused_json Json = named (codes "Json")
refused_json AgentCount = named (codes "AgentCount")
refused_json (Shape agent) = of_agent agent (codes "Shape")
refused_json (NotWhole agent) = of_agent agent (codes "NotWhole")
refused_json (EndsOrder agent) = of_agent agent (codes "EndsOrder")
refused_json (HeightRange agent) = of_agent agent (codes "HeightRange")
refused_json (NoTotal agent) = of_agent agent (codes "NoTotal")
refused_json (LengthsDiffer agent) = of_agent agent (codes "LengthsDiffer")
refused_json (CutForm index) = of_entry index (codes "CutForm")
refused_json (BadAnswer query) = at_query query (codes "BadAnswer")
refused_json (TooFewAnswers query) = at_query query (codes "TooFewAnswers")
refused_json TooManyAnswers = named (codes "TooManyAnswers")
refused_json NodeLimit = named (codes "NodeLimit")
refused_json DepthLimit = named (codes "DepthLimit")
refused_json CutLimit = named (codes "CutLimit")
refused_json CallLimit = named (codes "CallLimit")
refused_json GoalLimit = named (codes "GoalLimit")
refused_json (RunOverflow query) = at_query query (codes "Overflow")
refused_json (FormOverflow goal) = at_goal goal (codes "Overflow")
refused_json (ProverOverflow goal pivots row col) =
    object (member (codes "col") (whole col) (member (codes "goal") (whole goal) (member (codes "pivots") (whole pivots)
    (member (codes "refused") (text (codes "Overflow")) (member (codes "row") (whole row) no_members)))))
refused_json (CheckOverflow goal unknown) =
    object (member (codes "goal") (whole goal) (member (codes "refused") (text (codes "Overflow")) (member (codes "unknown") (whole unknown) no_members)))
refused_json (PivotLimit goal) = at_goal goal (codes "PivotLimit")
refused_json (HeightLimit goal agent atom) =
    object (member (codes "agent") (whole agent) (member (codes "atom") (whole atom) (member (codes "goal") (whole goal)
    (member (codes "refused") (text (codes "HeightLimit")) no_members))))

-- its words are texts: a name is a name of the language, and a file's is UTF-8
abbrev pub HasTexts : Refusal → Type 0
HasTexts (ReadFault file) = IsUtf8 file
HasTexts (TooLong file) = IsUtf8 file
HasTexts (Unbound name at) = IsTrue (is_name name)
HasTexts (Rebound name at) = IsTrue (is_name name)
HasTexts (UsedTwice name at first) = IsTrue (is_name name)
HasTexts r = ⊤

-- no line has a float
pub plain-refused_json : (r : Refusal) → has_float (refused_json r) ≡ false
plain-refused_json Usage = refl
plain-refused_json r = refl
