-- What a simulation refuses, on systems of three states.
use Rattle.std.specs.Prelude.{ℕ, Bool, true, false, List, [], ◌∷◌, Option, Some, None}
use Rattle.cpc_meaning_matching.specs.Systems.{System}
use Rattle.cpc_meaning_matching.specs.Simulation.{one, Matches}

-- a state
pub data Place : Type 0 where
  First Middle Last : Place

-- from the first state to the last
abbrev pub once : Place → Option Place
once First = Some Last
once _ = None

-- from the first over the middle one to the last
abbrev pub twice : Place → Option Place
twice First = Some Middle
twice Middle = Some Last
twice Last = None

-- over at the last state
abbrev pub at_last : Place → Bool
at_last Last = true
at_last _ = false

-- a mark at the last state
abbrev pub mark_at_last : Place → List ℕ
mark_at_last Last = 7 ∷ []
mark_at_last _ = []

-- a mark at the middle state, and two at the last
abbrev pub marks_by_step : Place → List ℕ
marks_by_step First = []
marks_by_step Middle = 7 ∷ []
marks_by_step Last = 7 ∷ 8 ∷ []

-- two marks at the last state
abbrev pub marks_at_last : Place → List ℕ
marks_at_last Last = 7 ∷ 8 ∷ []
marks_at_last _ = []

-- one step, which makes the mark and ends the run
abbrev pub short : System Place ℕ Bool
short = record { opening = First; next = once; trace = mark_at_last; outcome = at_last }

-- two steps, of which the second makes the mark and ends the run
abbrev pub long : System Place ℕ Bool
long = record { opening = First; next = twice; trace = mark_at_last; outcome = at_last }

-- steps for ever that show nothing
abbrev pub endless : System Place ℕ Bool
endless = record { opening = First; next = λ s. Some s; trace = λ s. []; outcome = λ s. false }

-- one step that shows nothing, and then no other, though the run is not over
abbrev pub broken : System Place ℕ Bool
broken = record { opening = First; next = once; trace = λ s. []; outcome = λ s. false }

-- one step that makes two marks and ends the run
abbrev pub both_at_once : System Place ℕ Bool
both_at_once = record { opening = First; next = once; trace = marks_at_last; outcome = at_last }

-- two steps, each of which makes one of the marks
abbrev pub one_by_one : System Place ℕ Bool
one_by_one = record { opening = First; next = twice; trace = marks_by_step; outcome = at_last }

-- two steps follow one at the cost of two, and not at the cost of one
abbrev pub BoundsCount : Type 0
BoundsCount = Matches short long (λ s. 2) one × (¬ Matches short long one one)

-- a step is never followed by no step, whatever it may cost
abbrev pub RowsAreNotEmpty : Type 0
RowsAreNotEmpty = (wa wb : Place → ℕ) → ¬ Matches long short wa wb

-- a target that is stuck where the source goes on does not match it, though it shows the same
abbrev pub RowsAreNotStuck : Type 0
RowsAreNotStuck = (wa wb : Place → ℕ) → ¬ Matches endless broken wa wb

-- inside a row nothing is shown that the source does not show
abbrev pub RowsShowNothingElse : Type 0
RowsShowNothingElse = (wa wb : Place → ℕ) → ¬ Matches both_at_once one_by_one wa wb
