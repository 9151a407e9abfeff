-- Which variables a frame has to keep at which position.
use Rattle.std.specs.Prelude.{◌≡◌, ℕ, Bool, true, Some}
use Rattle.cpc_base.specs.Bytes.{Text}
use Rattle.cpc_tree.specs.Lists.{holds_number}
use Rattle.cpc_meaning.specs.Plain.{Code, Form}
use Rattle.cpc_lift_laws.specs.Used.{used_at, is_left}

-- where code of a function may stand: where it begins, and wherever it comes to from where it may stand
pub record Stands {P : Type 0} (code : Code P) (f : Text) (there : P → Bool) : Type 0 where
  pub first : there (code.first f) ≡ true
  pub goes : (a b : P) (h : Bool) → there a ≡ true → code.goes f a h ≡ Some b → there b ≡ true
  pub arrival : (a b : P) → there a ≡ true → code.arrival f a ≡ Some b → there b ≡ true

-- What is kept at the positions of a function is enough: at each position at which code may stand, the variables that occur
-- there; where the function is left, its boxes; and what is kept where control goes on, or where a value arrives that is waited for.
pub record ClosedIn {P : Type 0} (code : Code P) (f : Text) (box : ℕ → Bool) (there : P → Bool) (kept : P → ℕ → Bool) : Type 0 where
  pub stands : Stands code f there
  pub used : (a : P) (k : ℕ) → there a ≡ true → holds_number (used_at (code.scope f a) (code.stood f a)) k ≡ true → kept a k ≡ true
  pub left : (a : P) (k : ℕ) → there a ≡ true → is_left (code.stood f a) ≡ true → box k ≡ true → kept a k ≡ true
  pub along : (a b : P) (h : Bool) (k : ℕ) → there a ≡ true → code.goes f a h ≡ Some b → kept b k ≡ true → kept a k ≡ true
  pub over : (a b : P) (k : ℕ) → there a ≡ true → code.arrival f a ≡ Some b → kept b k ≡ true → kept a k ≡ true

-- so it is in each function
pub record Closed {P : Type 0} (p : Form P) (box : Text → ℕ → Bool) (there : Text → P → Bool) (kept : Text → P → ℕ → Bool) : Type 0 where
  pub inside : (f : Text) → ClosedIn p.code f (box f) (there f) (kept f)
