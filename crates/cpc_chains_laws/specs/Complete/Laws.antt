-- The laws of this crate, as statements.
use Rattle.std.specs.Prelude.{◌≡◌, ℕ, ◌+◌, ◌≤◌, true, false, List, [], ◌∷◌, ◌++◌, map, length, bytes_eq}
use Rattle.cpc_base.specs.Bytes.{Text}
use Rattle.cpc_base.specs.declared.stop.Dialect.TheVariants as D
use Rattle.cpc_num.specs.declared.kinds.Kind.TheVariants.{Int}
use Rattle.cpc_tree.specs.Syntax.{TyInt, TyPointer, TyStruct, Stmt, Block, Stmts, NoStmt, Variable}
use Rattle.cpc_tree.specs.Located.{LParameter}
use Rattle.cpc_tree.specs.Typing.{ALocal}
use Rattle.cpc_tree.specs.Primitives.{any_pointer}
use Rattle.cpc_check_rules.specs.Scopes.{meant, takes_value}
use Rattle.cpc_check_rules.specs.Operators.{Where}
use Rattle.cpc_check_rules.specs.StmtRules.{stmts_breaks}
use Rattle.cpc_check_rules.specs.FunctionRules.{label_breaks, stray_breaks, reserved_breaks, parameter_names, locals, labels, many_breaks}
use Rattle.cpc_check_laws.proofs.Native.OnePlace.{stmt_here, stmts_here}
use Rattle.cpc_check_laws.specs.Sound.Suits.{converts}
use Rattle.cpc_convert_flat_laws.specs.Flat.{before}
use Rattle.cpc_convert_flat_laws.specs.Locals.{Load}
use Rattle.cpc_chains_store_laws.specs.Frames.{opens_frame}
use Rattle.cpc_chains_laws.specs.Complete.Flat.{all_named_at, called, loaded, Runs, Fresh, Loadable, AllHaveCells, Distinct, AllOf, NoneKept, labels_of, gotos_of, locals_of, all_flat}

-- ---- images

-- That a value can be assigned, as the meaning asks, is not enough: an int can be assigned to a pointer, and is not assignable to it.
abbrev pub TypedIsNotEnough : Type 0
TypedIsNotEnough = (converts (TyPointer (TyInt Int)) (TyInt Int) ≡ true) × (takes_value (TyPointer (TyInt Int)) false (TyInt Int) ≡ false)

-- ---- flat bodies

-- rows that break no rule, before statements that break none
abbrev pub RowsBreakNone : Type 0
RowsBreakNone = (v u : Where) (ss : List Stmt) (rest : Stmts) → Runs v ss u → stmts_breaks u (stmts_here rest) ≡ [] → stmts_breaks v (stmts_here (before ss rest)) ≡ []

-- what takes a frame, loads and declares, before statements that break none
abbrev pub OpeningsBreakNone : Type 0
OpeningsBreakNone =
    (v : Where) (k e tag : Text) (j : ℕ) (ls : List Load) (ds : List Variable) (rest : Stmts) → meant v.scope k ≡ ALocal j any_pointer → bytes_eq e k ≡ false
    → Fresh v.scope.blocks (called e (TyPointer (TyStruct tag)) ∷ (map loaded ls ++ ds)) → Loadable v.scope.items tag e ls → AllHaveCells v.scope.items ds
    → stmts_breaks (all_named_at v (called e (TyPointer (TyStruct tag)) ∷ (map loaded ls ++ ds))) (stmts_here rest) ≡ [] → stmts_breaks v (stmts_here (opens_frame k e tag ls ds rest)) ≡ []

-- what a whole flat body breaks: nothing
pub record FlatFine (ps : List LParameter) (ss : List Stmt) : Type 0 where
  pub labelled : label_breaks (stmt_here (Block (before ss NoStmt))) ≡ []
  pub stray : stray_breaks (stmt_here (Block (before ss NoStmt))) ≡ []
  pub reserved : reserved_breaks D.Event (locals (stmt_here (Block (before ss NoStmt))) ++ labels (stmt_here (Block (before ss NoStmt)))) ≡ []
  pub many : many_breaks D.Event ps (stmt_here (Block (before ss NoStmt))) ≡ []

abbrev pub FlatBodiesBreakNone : Type 0
FlatBodiesBreakNone =
    (ps : List LParameter) (ss : List Stmt) → all_flat ss ≡ true → Distinct (labels_of ss) → AllOf (labels_of ss) (gotos_of ss) → NoneKept (locals_of ss ++ labels_of ss)
    → length (parameter_names ps) + length (locals_of ss) ≤ 1023 → FlatFine ps ss
