-- Items that wait, and the acts on lists of them.
use Rattle.std.specs.Ordering.{int_eq}
use Rattle.std.specs.Prelude.{true, false, ◌&&◌, ℕ, nat_lt, nat_le, ◌==◌, Bool, not, if◌then◌else◌, ℤ, List, [], ◌∷◌, filter}
use Rattle.cpc_base.specs.declared.poll.Direction.{Direction}
use Rattle.cpc_base.specs.declared.poll.Direction.TheVariants.{Read, Write}

-- an item that waits on a condition
pub record OnCondition (T : Type 0) : Type 0 where
  pub item : T
  pub condition : ℕ

-- an item that waits for a descriptor
pub record OnDescriptor (T : Type 0) : Type 0 where
  pub item : T
  pub descriptor : ℤ
  pub direction : Direction

-- an item that waits for a time; timers are numbered in order of making
pub record Timer (T : Type 0) : Type 0 where
  pub item : T
  pub deadline : ℕ
  pub number : ℕ

-- the first element that passes, in a list with no or one element
abbrev pub first_passing : {X : Type 0} → (X → Bool) → List X → List X
first_passing test [] = []
first_passing test (x ∷ xs) = if test x then x ∷ [] else first_passing test xs

-- a list without its first element that passes
abbrev pub without_first : {X : Type 0} → (X → Bool) → List X → List X
without_first test [] = []
without_first test (x ∷ xs) = if test x then xs else x ∷ without_first test xs

-- the elements that do not pass
abbrev pub without : {X : Type 0} → (X → Bool) → List X → List X
without test xs = filter (λ x. not (test x)) xs

-- timers stand in order of deadline, and of making among those of one deadline
abbrev pub put_timer : {T : Type 0} → Timer T → List (Timer T) → List (Timer T)
put_timer t [] = t ∷ []
put_timer t (u ∷ us) = if nat_lt t.deadline u.deadline then t ∷ u ∷ us else u ∷ put_timer t us

-- whether a deadline is over
abbrev pub is_due : {T : Type 0} → ℕ → Timer T → Bool
is_due now t = nat_le t.deadline now

-- whether an item waits on the condition
abbrev pub waits_on : {T : Type 0} → ℕ → OnCondition T → Bool
waits_on c w = w.condition == c

-- whether two directions are the same
abbrev pub same_way : Direction → Direction → Bool
same_way Read Read = true
same_way Write Write = true
same_way _ _ = false

-- whether an item waits for the descriptor in this direction
abbrev pub waits_for : {T : Type 0} → ℤ → Direction → OnDescriptor T → Bool
waits_for fd way w = int_eq w.descriptor fd && same_way w.direction way
