-- Transition systems that run by themselves: each state has at most one next, a trace of marks and an outcome.
use Rattle.std.specs.Prelude.{◌≡◌, ℕ, ◌+◌, ◌*◌, ◌<◌, ◌≤◌, ◌⊎◌, List, ◌++◌, Bool, true, false, Option, Some, None}
use Rattle.cpc_meaning_matching.specs.Steps.{after, or_stay}

-- a system: where it opens, the next state, and what is seen of a state; one that is over has no next state, and neither has one that is stuck
pub record System (S M O : Type 0) : Type 0 where
  pub opening : S
  pub next : S → Option S
  pub trace : S → List M
  pub outcome : S → O

-- the state n steps on, where one without a step stays
abbrev pub run : {S M O : Type 0} → System S M O → ℕ → S
run A n = after (λ s. or_stay s (A.next s)) A.opening n

-- neither over nor stuck
abbrev pub Goes : {S M O : Type 0} → System S M O → S → Type 0
Goes {S = S} A s = (t : S) × (A.next s ≡ Some t)

-- over, or with a next state
abbrev pub NotStuck : {S M O : Type 0} → (is_over : O → Bool) → System S M O → S → Type 0
NotStuck is_over A s = (is_over (A.outcome s) ≡ true) ⊎ Goes A s

-- no state of the run is stuck
pub record NeverStuck {S M O : Type 0} (is_over : O → Bool) (A : System S M O) : Type 0 where
  pub here : (n : ℕ) → NotStuck is_over A (run A n)

-- a state that is over has no step
pub record Ends {S M O : Type 0} (is_over : O → Bool) (A : System S M O) : Type 0 where
  pub none : (s : S) → is_over (A.outcome s) ≡ true → A.next s ≡ None

-- a step only adds marks
pub record Grows {S M O : Type 0} (A : System S M O) : Type 0 where
  pub adds : (s t : S) → A.next s ≡ Some t → (marks : List M) × (A.trace t ≡ A.trace s ++ marks)

-- n is the first number of steps at which the run is over
pub record EndsAt {S M O : Type 0} (is_over : O → Bool) (A : System S M O) (n : ℕ) : Type 0 where
  pub over : is_over (A.outcome (run A n)) ≡ true
  pub first : (i : ℕ) → i < n → is_over (A.outcome (run A i)) ≡ false

-- ---- two systems

-- the same trace and the same outcome
pub record Alike {S T M O : Type 0} (A : System S M O) (B : System T M O) (s : S) (t : T) : Type 0 where
  pub trace : A.trace s ≡ B.trace t
  pub outcome : A.outcome s ≡ B.outcome t

-- what A is at m, B is at some n from m on; what B is at n, A was at some m up to n
pub record RunsAlike {S T M O : Type 0} (is_over : O → Bool) (A : System S M O) (B : System T M O) : Type 0 where
  pub reached : (m : ℕ) → (n : ℕ) × (m ≤ n) × Alike A B (run A m) (run B n)
  pub found : (n : ℕ) → (m : ℕ) × (m ≤ n) × Alike A B (run A m) (run B n)
  pub first_never_stuck : NeverStuck is_over A
  pub second_never_stuck : NeverStuck is_over B

-- what A is at m, B is within c steps for each
abbrev pub RunsWithin : {S T M O : Type 0} → System S M O → System T M O → ℕ → Type 0
RunsWithin A B c = (m : ℕ) → (n : ℕ) × (m ≤ n) × (n ≤ c * (m + 1)) × Alike A B (run A m) (run B n)
