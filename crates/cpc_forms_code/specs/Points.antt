-- Boxed functions: marks of variables, and for each point the names in scope and how it is left.
use Rattle.std.specs.Prelude.{◌≡◌, ℕ, suc, Bool, List, [], ◌∷◌, map, Some, option_map}
use Rattle.cpc_tree.specs.Erase.{Names, type_of, text_of, function_of}
use Rattle.cpc_tree.specs.Syntax as S
use Rattle.cpc_tree.specs.Typing as T
use Rattle.cpc_tree.specs.Points.{Point}
use Rattle.cpc_tree.specs.Registers.{variables, or_empty, is_register}
use Rattle.cpc_tree.specs.declared.program.Function.{Function}
use Rattle.cpc_tree.specs.declared.program.Program.{Program}
use Rattle.cpc_meaning.specs.Act.{Stood}
use Rattle.cpc_meaning.specs.Trees.{stood_at, scope_from}
use Rattle.cpc_meaning.specs.Ways.{Manner}
use Rattle.cpc_forms.specs.Order.{points}
use Rattle.cpc_forms.specs.Graph.{manner_from}
use Rattle.cpc_forms_code.specs.declared.boxed.Variable.{Variable}
use Rattle.cpc_forms_code.specs.declared.boxed.BoxedPoint as B
use Rattle.cpc_forms_code.specs.Programs.{program_by, IsSpelled}
use Rattle.cpc_forms_code.specs.Seen.{manner_seen, stood_seen, scope_seen, AreNamed}

-- ---- variables

-- a variable with its mark
pub record Marked : Type 0 where
  pub called : S.Variable
  pub register : Bool

-- these variables of a function, from the n-th on, with their marks
abbrev pub marked_from : S.Function → ℕ → List S.Variable → List Marked
marked_from f n [] = []
marked_from f n (x ∷ xs) = record { called = x; register = is_register f n x } ∷ marked_from f (suc n) xs

-- the variables of a function with their marks
abbrev pub marked : S.Function → List Marked
marked f = marked_from f 0 (variables f)

-- a variable of the code
abbrev pub variable_seen : Names → Variable → Marked
variable_seen names v = record { called = record { called = or_empty (option_map (text_of names) v.name); type = type_of names v.of.now }; register = v.is_register }

-- ---- points

-- what stands at a point, with which names in scope, and how it is left
pub record BoxedPoint : Type 0 where
  pub stood : Stood
  pub scope : T.Scope
  pub manner : Manner

-- a point of a function, boxed
abbrev pub boxed_point : S.Program → S.Function → Point → BoxedPoint
boxed_point p f point = record { stood = stood_at (Some f) point; scope = scope_from (Some f) point; manner = manner_from p f point }

-- the points of a function, boxed
abbrev pub boxed_points : S.Program → S.Function → List BoxedPoint
boxed_points p f = map (boxed_point p f) (points f.body)

-- a point of the code, where these are the variables
abbrev pub point_seen : Names → List Variable → B.BoxedPoint → BoxedPoint
point_seen names vs b = record { stood = stood_seen names b.stood; scope = scope_seen names vs b.scope; manner = manner_seen b.manner }

-- these are the variables and the points of a function of a program, by any texts that tell its names, and there are such texts
pub record IsBoxed (p : Program) (f : Function) (vs : List Variable) (bs : List B.BoxedPoint) : Type 0 where
  pub names : Names
  pub spelled : IsSpelled names p f
  pub named : (names : Names) → IsSpelled names p f → AreNamed names vs
  pub variables : (names : Names) → IsSpelled names p f → map (variable_seen names) vs ≡ marked (function_of names f)
  pub points : (names : Names) → IsSpelled names p f → map (point_seen names vs) bs ≡ boxed_points (program_by names p) (function_of names f)
