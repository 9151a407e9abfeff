-- Simulation: each step of a source is followed by a row of at least one step of the target, at a bounded cost.
use Rattle.std.specs.Prelude.{◌≡◌, ℕ, zero, suc, ◌+◌, ◌<◌, ◌≤◌, ◌⊎◌, Bool, true, Option, Some}
use Rattle.cpc_meaning_matching.specs.Steps.{after}
use Rattle.cpc_meaning_matching.specs.Systems.{System, run, Goes, Alike, NeverStuck}

-- ---- costs

-- what the first n steps of a run cost, each by the weight of the state that it leaves
abbrev pub spent : {S : Type 0} → (weight : S → ℕ) → (ℕ → S) → ℕ → ℕ
spent w a zero = 0
spent w a (suc n) = spent w a n + w (a n)

-- each step costs one
abbrev pub one : {S : Type 0} → S → ℕ
one s = 1

-- ---- rows

-- At least one step from t leads to a state of End, over states of Mid alone, at no more than this cost; Go holds of each state that is left.
pub record Row {T : Type 0} (step : T → T) (w : T → ℕ) (End Mid Go : T → Type 0) (cost : ℕ) (t : T) : Type 0 where
  pub steps : ℕ
  pub some : 0 < steps
  pub within : spent w (after step t) steps ≤ cost
  pub ends : End (after step t steps)
  pub between : (i : ℕ) → 0 < i → i < steps → Mid (after step t i)
  pub goes : (i : ℕ) → i < steps → Go (after step t i)

-- Each state of the run a is met by one of the run b, and from one such to the next is a row of b that costs no more than the step of a.
-- `place m` is the state of b that meets the state m of a. A state inside a row is near the state of a before its step or the one after it.
-- Where a goes on at m, b goes on at the start of the row and inside it.
pub record Rows {S T : Type 0} (Meet Near : S → T → Type 0) (Ga : S → Type 0) (Gb : T → Type 0) (wa : S → ℕ) (wb : T → ℕ) (a : ℕ → S) (b : ℕ → T) : Type 0 where
  pub place : ℕ → ℕ
  pub opens : place 0 ≡ 0
  pub rises : (m : ℕ) → place m < place (suc m)
  pub cost : (m : ℕ) → spent wb b (place (suc m)) ≤ spent wb b (place m) + wa (a m)
  pub meets : (m : ℕ) → Meet (a m) (b (place m))
  pub inside : (m n : ℕ) → place m < n → n < place (suc m) → Near (a m) (b n) ⊎ Near (a (suc m)) (b n)
  pub goes_on : (m n : ℕ) → place m ≤ n → n < place (suc m) → Ga (a m) → Gb (b n)

-- B matches A: it shows each state of A, its rows show nothing else, and a row costs no more than the step of A that it follows
abbrev pub Matches : {S T M O : Type 0} → System S M O → System T M O → (S → ℕ) → (T → ℕ) → Type 0
Matches A B wa wb = Rows (Alike A B) (Alike A B) (Goes A) (Goes B) wa wb (run A) (run B)

-- B h matches A h for each h for which A h is never stuck
pub record Follows {H S T M O : Type 0} (is_over : O → Bool) (A : H → System S M O) (B : H → System T M O) (wa : S → ℕ) (wb : T → ℕ) : Type 0 where
  pub on : (h : H) → NeverStuck is_over (A h) → Matches (A h) (B h) wa wb

-- What states that meet, and those near them, have besides: where nothing runs in t nothing runs in s, and P holds of the two;
-- and t has at most d cells more than s
pub record Kept {S T M O : Type 0} (A : System S M O) (B : System T M O) (idle_a : S → Bool) (idle_b : T → Bool) (P : S → T → Type 0) (cells_a : S → ℕ) (cells_b : T → ℕ) (d : ℕ) (s : S) (t : T) : Type 0 where
  pub alike : Alike A B s t
  pub idle : idle_b t ≡ true → (idle_a s ≡ true) × P s t
  pub cells : cells_b t ≤ cells_a s + d

-- A row step by step: from t at least one step leads to a state of End, over states of Mid alone, at no more than this cost
pub data Path {T : Type 0} (next : T → Option T) (w : T → ℕ) (End Mid : T → Type 0) : ℕ → T → Type 0 where
  Last : (c : ℕ) (t u : T) → next t ≡ Some u → w t ≤ c → End u → Path next w End Mid c t
  More : (c d : ℕ) (t u : T) → next t ≡ Some u → w t + d ≤ c → Mid u → Path next w End Mid d u → Path next w End Mid c t
