-- What a walk through a body has come to.
use Rattle.std.specs.Prelude.{◌≡◌, ℕ, suc, Bool, false, List, [], ◌∷◌, ◌++◌, map, length, slice_get, Option, Some, None}
use Rattle.cpc_base.specs.Bytes.{Text}
pub use Rattle.cpc_base.specs.Lists.{IsBefore}
use Rattle.cpc_tree.specs.Syntax as S
use Rattle.cpc_tree.specs.Typing as T
use Rattle.cpc_tree.specs.Erase.{Names}
use Rattle.cpc_check_rules.specs.Apart.{Spells}
use Rattle.cpc_eval_locals.specs.declared.variables.Variable as V
use Rattle.cpc_forms_code.specs.declared.boxed.Variable.{Variable}
use Rattle.cpc_forms_code.specs.declared.boxed.BoxedPoint as B
use Rattle.cpc_forms_code.specs.Seen.{manner_seen, stood_seen, local_seen, AreNamed}
use Rattle.cpc_forms_code.specs.Points.{Marked, BoxedPoint, variable_seen}
use Rattle.cpc_box.specs.declared.walk.Walk.{Walk}

-- ---- scopes that do not change where more variables come

-- the names in scope where a variable of these is the innermost one, each before those inside of it
pub data Chain (names : Names) (vs : List Variable) : Option ℕ → T.Scope → Type 0 where
  NoLocal : Chain names vs None []
  Inner : (k : ℕ) (v : Variable) (outer : T.Scope) → slice_get vs k ≡ Some v → IsBefore v.outer k → Chain names vs v.outer outer → Chain names vs (Some k) (local_seen names k v ∷ outer)

-- a point of the code is this one
pub record IsSeen (names : Names) (vs : List Variable) (b : B.BoxedPoint) (p : BoxedPoint) : Type 0 where
  pub stood : stood_seen names b.stood ≡ p.stood
  pub scope : Chain names vs b.scope p.scope
  pub manner : manner_seen b.manner ≡ p.manner

-- so are these, one by one
abbrev pub AreSeen : Names → List Variable → List B.BoxedPoint → List BoxedPoint → Type 0
AreSeen names vs [] [] = Unit {0}
AreSeen names vs [] (p ∷ ps) = ⊥
AreSeen names vs (b ∷ bs) [] = ⊥
AreSeen names vs (b ∷ bs) (p ∷ ps) = IsSeen names vs b p × AreSeen names vs bs ps

-- ---- marks

-- the mark of a number among these
abbrev pub mark_of : Option V.Variable → Bool
mark_of None = false
mark_of (Some v) = v.is_register

-- variables from the n-th on, with these marks
abbrev pub marked_by : List V.Variable → ℕ → List S.Variable → List Marked
marked_by ms n [] = []
marked_by ms n (x ∷ xs) = record { called = x; register = mark_of (slice_get ms n) } ∷ marked_by ms (suc n) xs

-- ---- a piece of the walk

-- how a walk goes on: it meets these variables and these points
pub record Walked (names : Names) (ms : List V.Variable) (old new : Walk) (xs : List S.Variable) (ps : List BoxedPoint) : Type 0 where
  pub variables : map (variable_seen names) new.variables.items ≡ map (variable_seen names) old.variables.items ++ marked_by ms (length old.variables.items) xs
  pub named : AreNamed names old.variables.items → AreNamed names new.variables.items
  pub grows : (o : Option ℕ) (scope : T.Scope) → Chain names old.variables.items o scope → Chain names new.variables.items o scope
  pub points : (ps' : List BoxedPoint) → AreSeen names old.variables.items old.points.items ps' → AreSeen names new.variables.items new.points.items (ps' ++ ps)

-- what is asked where it goes on: the names are told, and these are in scope
pub record Stands (names : Names) (texts : List Text) (walk : Walk) (o : Option ℕ) (sc : T.Scope) : Type 0 where
  pub spells : Spells texts names
  pub named : AreNamed names walk.variables.items
  pub scope : Chain names walk.variables.items o sc

-- how it goes on to where another scope stands
pub record Came (names : Names) (ms : List V.Variable) (old new : Walk) (xs : List S.Variable) (ps : List BoxedPoint) (o : Option ℕ) (sc : T.Scope) : Type 0 where
  pub walked : Walked names ms old new xs ps
  pub scope : Chain names new.variables.items o sc
