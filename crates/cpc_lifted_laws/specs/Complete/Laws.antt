-- The laws of this crate, as statements.
use Rattle.std.specs.Prelude.{◌≡◌, ℕ, ◌+◌, true, false, List, [], ◌∷◌, ◌++◌, map, Option, Some}
use Rattle.cpc_base.specs.declared.stop.Dialect.{Dialect}
use Rattle.cpc_base.specs.declared.stop.Dialect.TheVariants as D
use Rattle.cpc_num.specs.declared.kinds.Op.{Op}
use Rattle.cpc_tree.specs.Syntax.{Ty, Expr, Exprs, Block, Assign, Call, Stmts, Parameter, Function, FunctionItem, Program}
use Rattle.cpc_tree.specs.ItemGrammar.{all_named}
use Rattle.cpc_tree.specs.Points.{Path, found}
use Rattle.cpc_tree.specs.Registers.{scope_in_function}
use Rattle.cpc_tree.specs.Typing.{Typed, size}
use Rattle.cpc_check_rules.specs.Scopes as S
use Rattle.cpc_check_rules.specs.Scopes.{typed}
use Rattle.cpc_check_rules.specs.Operators.{Where, is_cps}
use Rattle.cpc_check_rules.specs.ExprRules.{expr_breaks}
use Rattle.cpc_check_rules.specs.StmtRules.{test_breaks, stmt_breaks}
use Rattle.cpc_check_rules.specs.ItemRules.{declared_breaks, types, function_breaks}
use Rattle.cpc_check_laws.proofs.Native.OnePlace.{ident_here, expr_here, stmt_here, parameter_here, function_here}
use Rattle.cpc_convert_common.specs.Converted.{respawned}
use Rattle.cpc_convert_image_laws.specs.Images.{Readings, image, images, image_if}
use Rattle.cpc_lifted_laws.specs.Complete.Reads.{Carries, stays_called}
use Rattle.cpc_lifted_laws.specs.Complete.Kept.{KeepsItems}
use Rattle.cpc_lifted_laws.specs.Complete.Steps.{HasSteps}
use Rattle.cpc_lifted_laws.specs.Complete.Standing.{Standing}

-- ---- images

-- images have the types of what they are images of
abbrev pub ImagesHaveTypes : Type 0
ImagesHaveTypes = (w v : Where) (r : Readings) → Carries w v r → (e : Expr) (d : Typed) → typed w.scope e ≡ Some d → typed v.scope (image r e) ≡ Some d

-- images of what breaks no rule break none: of expressions, tests, assignments, and calls of what is neither a cps function nor a wait
abbrev pub ImagesBreakNone : Type 0
ImagesBreakNone = (w v : Where) (r : Readings) → Carries w v r → (e : Expr) → expr_breaks w (expr_here e) ≡ [] → expr_breaks v (expr_here (image r e)) ≡ []

abbrev pub ImageTestsBreakNone : Type 0
ImageTestsBreakNone = (w v : Where) (r : Readings) → Carries w v r → (e : Expr) → test_breaks w (expr_here e) ≡ [] → test_breaks v (expr_here (image r e)) ≡ []

abbrev pub ImageAssignmentsBreakNone : Type 0
ImageAssignmentsBreakNone =
    (w v : Where) (r : Readings) → Carries w v r → (e : Expr) (op : Option Op) (a : Expr) → stmt_breaks w (stmt_here (Assign e op a)) ≡ [] → stmt_breaks v (stmt_here (Assign (image r e) op (image r a))) ≡ []

abbrev pub ImageCallsBreakNone : Type 0
ImageCallsBreakNone =
    (w v : Where) (r : Readings) → Carries w v r → (to : Option Expr) (f : Expr) (es : Exprs) → stays_called w.scope f ≡ true → stmt_breaks w (stmt_here (Call to f es)) ≡ []
    → stmt_breaks v (stmt_here (Call (image_if r to) (image r f) (images r es))) ≡ []

-- ---- sources

-- where the body of a function stands
abbrev pub body_at : Program → Function → Dialect → List S.Block → Where
body_at items f dialect blocks = record { scope = record { items = items; blocks = blocks }; mode = f.mode; result = f.result; dialect = dialect }

-- what stands at a point of a function that breaks no rule breaks none, in blocks that tell the scope there
abbrev pub PointsBreakNone : Type 0
PointsBreakNone =
    (dialect : Dialect) (items : Program) (f : Function) → function_breaks dialect items (function_here f) ≡ [] → (ss : Stmts) → f.body ≡ Block ss → all_named (λ (p : Parameter). p.called) f.parameters ≡ true → HasSteps f.body → (q : Path)
    → Standing (body_at (items ++ FunctionItem f ∷ []) f dialect) (scope_in_function f q) (found f.body q)

-- a native or detached function that breaks no rule of the dialect Cpc breaks none of the dialect Event with each spawn as a call of the
-- spawner, behind items that keep those of the source, where its name may be declared
abbrev pub KeptFunctionsBreakNone : Type 0
KeptFunctionsBreakNone =
    (source items : Program) (f : Function) → is_cps f.mode ≡ false → KeepsItems (source ++ FunctionItem f ∷ []) (items ++ FunctionItem (record f { body = respawned f.body }) ∷ []) → HasSteps f.body
    → ((t : Ty) (n : ℕ) → size source t ≡ Some n → size items t ≡ Some n)
    → declared_breaks items (ident_here f.called) (record { mode = f.mode; result = f.result; parameters = types (map parameter_here f.parameters); is_defined = true }) ≡ []
    → function_breaks D.Cpc source (function_here f) ≡ [] → function_breaks D.Event items (function_here (record f { body = respawned f.body })) ≡ []
