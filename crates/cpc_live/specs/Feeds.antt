-- What becomes of a feed that gives a poll.
use Rattle.std.specs.Prelude.{◌≡◌, List, [], ◌∷◌, ◌++◌, Option, Some, None}
use Rattle.std.specs.Option.{option_map}
use Rattle.cpc_tree.specs.Trace as T
use Rattle.cpc_history_marks.specs.Views.{told_of}
use Rattle.cpc_history_marks.specs.declared.marks.Told.{Told}

-- a poll as a list, if there is one
abbrev pub list_of : Option Told → List T.Told
list_of None = []
list_of (Some poll) = told_of poll ∷ []

-- a poll was given behind those that were given before, and is left no more, where what is left is known; or none was left, which is then known. These are what
-- was given and what was left before, and both as they are now
pub record Gives (poll : Option Told) (told : List T.Told) (left : Option (List T.Told)) (told_now : List T.Told) (left_now : Option (List T.Told)) : Type 0 where
  pub given : told_now ≡ told ++ list_of poll
  pub leaves : left ≡ option_map (λ polls. list_of poll ++ polls) left_now
  pub none : poll ≡ None → left ≡ Some []

-- the polls of a history: those that were given, and those that are left
pub record Parts : Type 0 where
  pub told : List T.Told
  pub left : List T.Told
