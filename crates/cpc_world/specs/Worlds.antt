-- What a run asks of a poll, and what was answered.
use Rattle.std.specs.Prelude.{ℕ, ℤ, List, [], ◌∷◌, ◌++◌, Option}
use Rattle.std.specs.Option.{option_map}
use Rattle.cpc_base.specs.declared.poll.Direction.{Direction}
use Rattle.cpc_tree.specs.Trace as T
use Rattle.cpc_history_marks.specs.Views.{told_of}
use Rattle.cpc_history_marks.specs.declared.marks.Told.{Told}
use Rattle.cpc_world.specs.declared.asked.Asked.{Asked}

-- what a poll is asked: the greatest clock told, the least deadline, what descriptors are waited for, and how many sections are out
pub record Wanted : Type 0 where
  pub now : ℕ
  pub deadline : Option ℕ
  pub descriptors : List (ℤ × Direction)
  pub sections : ℕ

-- what the code's request stands for
abbrev pub asked_of : Asked → Wanted
asked_of asked = record { now = asked.now; deadline = asked.deadline; descriptors = asked.descriptors.items; sections = asked.sections }

-- a poll with what was asked for it
pub record Answered : Type 0 where
  pub asked : Wanted
  pub told : T.Told

-- what was answered to a request of the code
abbrev pub answered : Asked → Told → Answered
answered asked told = record { asked = asked_of asked; told = told_of told }

-- one more answer, where these are told
abbrev pub with_answer : Option (List Answered) → Answered → Option (List Answered)
with_answer answers answer = option_map (λ list. list ++ answer ∷ []) answers
