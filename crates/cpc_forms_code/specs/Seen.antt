-- The parts of forms, as the definitions have them.
use Rattle.std.specs.Prelude.{◌≡◌, ℕ, zero, suc, false, bytes_eq, List, [], ◌∷◌, length, slice_get, Option, Some, None, option_map}
use Rattle.std.specs.Borrow.{Bor}
use Rattle.cpc_base.specs.declared.names.Name.{Name}
use Rattle.cpc_tree.specs.Erase.{Names, type_of, expr_of, stmt_of, text_of}
use Rattle.cpc_tree.specs.Registers.{or_empty}
use Rattle.cpc_tree.specs.Typing as T
use Rattle.cpc_tree.specs.Points as P
use Rattle.cpc_tree.specs.Syntax as S
use Rattle.cpc_tree.specs.declared.program.Expr.{Expr}
use Rattle.cpc_meaning.specs.Act as A
use Rattle.cpc_meaning.specs.Ways as W
use Rattle.cpc_forms_code.specs.declared.boxed.Manner.{Manner}
use Rattle.cpc_forms_code.specs.declared.boxed.Manner.TheVariants as M
use Rattle.cpc_forms_code.specs.declared.boxed.Variable.{Variable}
use Rattle.cpc_forms_code.specs.declared.boxed.Stood.{Stood}
use Rattle.cpc_forms_code.specs.declared.boxed.Stood.TheVariants as F

-- how a statement is left
abbrev pub manner_seen : Manner → W.Manner
manner_seen M.InPlace = W.InPlace
manner_seen M.ByFrame = W.ByFrame
manner_seen M.AsCps = W.AsCps

-- what stands at a point
abbrev pub stood_seen : Names → Stood → A.Stood
stood_seen names (F.Simple s) = A.AtStatement (P.Simple (stmt_of names s.now))
stood_seen names F.Empty = A.AtStatement (P.Simple S.Empty)
stood_seen names (F.Test e) = A.AtStatement (P.Test (option_map (λ (t : Bor Expr). expr_of names t.now) e))
stood_seen names (F.Arrival s) = A.AtArrival (P.Simple (stmt_of names s.now))
stood_seen names F.End = A.AtEnd

-- ---- scopes

-- a variable in scope, the k-th of its function
abbrev pub local_seen : Names → ℕ → Variable → T.Local
local_seen names k v = record { called = or_empty (option_map (text_of names) v.name); type = type_of names v.of.now; slot = k }

-- a variable, where it is there, inside of a scope
abbrev pub scope_behind : Names → (outer : Option ℕ → T.Scope) → ℕ → Option Variable → T.Scope
scope_behind names outer k None = []
scope_behind names outer k (Some v) = local_seen names k v ∷ outer v.outer

-- the names in scope where the k-th of these variables is the innermost one, at most so many of them
abbrev pub scope_within : Names → List Variable → (depth : ℕ) → Option ℕ → T.Scope
scope_within names vs d None = []
scope_within names vs zero (Some k) = []
scope_within names vs (suc d) (Some k) = scope_behind names (scope_within names vs d) k (slice_get vs k)

-- the names in scope where a variable of these is the innermost one
abbrev pub scope_seen : Names → List Variable → Option ℕ → T.Scope
scope_seen names vs o = scope_within names vs (length vs) o

-- no name has the text of a variable without a name
pub record AreNamed (names : Names) (vs : List Variable) : Type 0 where
  pub each : (k : ℕ) (v : Variable) → slice_get vs k ≡ Some v → v.name ≡ None → (x : Name) → bytes_eq [] (names x) ≡ false
