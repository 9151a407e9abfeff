-- What lifting computes of a split program: which variables each position keeps, from the nodes of each function and their owners.
use Rattle.std.specs.Prelude.{◌≡◌, ◌↔◌, ◌<◌, ℕ, zero, suc, Bool, true, false, if◌then◌else◌, List, [], ◌∷◌, length, Option, Some, None}
use Rattle.cpc_base.specs.Bytes.{Text}
use Rattle.cpc_tree.specs.Syntax.{Function, Program}
use Rattle.cpc_tree.specs.Lists.{holds_number}
use Rattle.cpc_tree.specs.Points.{Path}
use Rattle.cpc_tree.specs.Typing.{function_named}
use Rattle.cpc_tree.specs.Registers.{slot_of, variables, scope_in_function}
use Rattle.cpc_meaning.specs.Plain.{Form}
use Rattle.cpc_lift_laws.specs.Boxes.{is_box}
use Rattle.cpc_lift_laws.specs.Closed.{Stands, Closed}
use Rattle.cpc_lift_laws.specs.Search.{closure}
use Rattle.cpc_lift_laws.specs.Nodes.{Member, ways_of_nodes, uses_of_nodes}

-- how many variables a function has, and none where it is absent
abbrev pub variables_in : Option Function → ℕ
variables_in None = 0
variables_in (Some f) = length (variables f)

-- those of a function of a program
abbrev pub variable_count : Program → Text → ℕ
variable_count p f = variables_in (function_named p f)

-- the boxes among the n variables of a function from this one on, in order
abbrev pub boxes_from : Program → Text → (k n : ℕ) → List ℕ
boxes_from p f k zero = []
boxes_from p f k (suc n) = if is_box p f k then k ∷ boxes_from p f (suc k) n else boxes_from p f (suc k) n

-- the boxes of a function
abbrev pub boxes : Program → Text → List ℕ
boxes p f = boxes_from p f 0 (variable_count p f)

-- a split program: at which positions the code of each function may stand, their owners, all these positions in a list,
-- and whether the function is whole, as those are that have no owners
pub record Split (P : Type 0) : Type 0 where
  pub there : Text → P → Bool
  pub owner : Text → P → ℕ
  pub nodes : Text → List P
  pub whole : Text → Bool

-- the closure of an owner in a function
abbrev pub closure_in : {P : Type 0} → Form P → Split P → Text → ℕ → List ℕ
closure_in p s f l =
    closure (ways_of_nodes p.code f (s.owner f) (s.nodes f)) (uses_of_nodes p.code f (s.owner f) (boxes p.program f) (s.nodes f)) (variable_count p.program f) l

-- what a position keeps: the closure of its owner, and all in a function that is whole
abbrev pub kept_in : {P : Type 0} → Form P → Split P → Text → P → ℕ → Bool
kept_in p s f a k = if s.whole f then true else holds_number (closure_in p s f (s.owner f a)) k

-- what a split program has to be: code stands only where it may, and in a function that is not whole these positions are its nodes,
-- and each name in scope there means a variable of the function
pub record IsSplit {P : Type 0} (p : Form P) (s : Split P) : Type 0 where
  pub stands : (f : Text) → Stands p.code f (s.there f)
  pub nodes : (f : Text) → s.whole f ≡ false → (a : P) → (s.there f a ≡ true) ↔ Member a (s.nodes f)
  pub scopes : (f : Text) → s.whole f ≡ false → (a : P) → s.there f a ≡ true → (x : Text) (k : ℕ) → holds_number (slot_of (p.code.scope f a) x) k ≡ true → k < variable_count p.program f

-- then what is computed is enough
abbrev pub LiftIsClosed : (P : Type 0) → Type 0
LiftIsClosed P = (p : Form P) (s : Split P) → IsSplit p s → Closed p (is_box p.program) s.there (kept_in p s)

-- in the trees of a function each name in scope is one of its variables
abbrev pub ScopesAreBelow : Type 0
ScopesAreBelow = (f : Function) (path : Path) (x : Text) (k : ℕ) → holds_number (slot_of (scope_in_function f path) x) k ≡ true → k < length (variables f)
