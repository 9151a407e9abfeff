-- The rules that statements break, but for those that speak of a whole function.
use Rattle.std.specs.Prelude.{Bool, true, false, ◌||◌, not, [], ◌∷◌, ◌++◌, Option, Some, None}
use Rattle.cpc_base.specs.declared.stop.Place.{Place}
use Rattle.cpc_tree.specs.Op.{Op}
use Rattle.cpc_tree.specs.KindVariants.{Int}
use Rattle.cpc_tree.specs.Syntax.{Ty, TyVoid, TyInt, TyStruct, TyArray, EBinary, Variable}
use Rattle.cpc_tree.specs.Located.{Ident, LExpr, LExprs, LStmt, Block, Empty, Declare, Assign, Call, Detach, Spawn, If, While, DoWhile, For, Goto, Label, Break, Continue, Return, LStmts, NoLStmt, AndLStmt, MaybeLStmt, NoneLStmt, SomeLStmt, bare_expr}
use Rattle.cpc_tree.specs.Typing.{Meant, NotMeant, Typed, AValue, APlace, used, is_testable}
use Rattle.cpc_check_rules.specs.declared.rule.Rule.TheVariants.{Undeclared, Twice, Disagree, NoPlace, CpsInNative, Incomplete, BadReturn, NotClosed, CpsForm}
use Rattle.cpc_check_rules.specs.Rule.{Broken, at_if}
use Rattle.cpc_check_rules.specs.Scopes.{Scope, meant, typed, takes_value, takes_typed, with_name, with_block, is_sized, is_here}
use Rattle.cpc_check_rules.specs.Operators.{Where, typed_at, first, is_detached, is_cps, binary_breaks}
use Rattle.cpc_check_rules.specs.Calls.{Callee, NoCallee, Takes, callee, section_callee, spawn_callee, is_event, wanted, result, number_breaks}
use Rattle.cpc_check_rules.specs.ExprRules.{expr_breaks, call_breaks, args_breaks}

-- the same place in another scope
abbrev pub in_scope : Where → Scope → Where
in_scope w s = record { scope = s; mode = w.mode; result = w.result; dialect = w.dialect }

abbrev pub inner : Where → Where
inner w = in_scope w (with_block w.scope)

abbrev pub variable : Ident → Ty → Variable
variable x t = record { called = x.text; type = t }

-- behind a statement
abbrev pub behind : Where → LStmt → Where
behind w (Declare q x t start) = in_scope w (with_name w.scope (variable x t))
behind w s = w

abbrev pub all_behind : Where → LStmts → Where
all_behind w NoLStmt = w
all_behind w (AndLStmt s ss) = all_behind (behind w s) ss

-- what is written to is a place, and no array or struct
abbrev pub is_writable : Typed → Bool
is_writable (AValue t) = false
is_writable (APlace (TyArray t n)) = false
is_writable (APlace (TyStruct tag)) = false
is_writable (APlace t) = true

abbrev pub place_breaks : Option Typed → Place → Broken
place_breaks None q = []
place_breaks (Some d) q = at_if (not (is_writable d)) q NoPlace

abbrev pub target_breaks : Where → LExpr → Broken
target_breaks w v = expr_breaks w v ++ place_breaks (typed_at w v) (first v)

abbrev pub type_of : Typed → Ty
type_of (AValue t) = t
type_of (APlace t) = t

-- a value is assignable to a place, where both have types
abbrev pub fits_breaks : Option Typed → LExpr → Option Typed → Place → Broken
fits_breaks (Some p) e (Some d) q = at_if (not (takes_typed (type_of p) (bare_expr e) d)) q Disagree
fits_breaks a e b q = []

-- an assignment by an operator: the type of the operator's value, where it has one, goes to the place
abbrev pub result_breaks : Option Typed → Option Typed → Place → Broken
result_breaks (Some p) (Some (AValue t)) q = at_if (not (takes_value (type_of p) false t)) q Disagree
result_breaks a b q = []

abbrev pub assign_breaks : Where → Place → LExpr → Option Op → LExpr → Broken
assign_breaks w o v None e = fits_breaks (typed_at w v) e (typed_at w e) o
assign_breaks w o v (Some op) e = binary_breaks w.scope op (typed_at w v) (typed_at w e) (typed w.scope (EBinary op (bare_expr v) (bare_expr e))) o
    ++ result_breaks (typed_at w v) (typed w.scope (EBinary op (bare_expr v) (bare_expr e))) o

-- the result of a call goes to a place
abbrev pub given_breaks : Option Typed → Option Ty → Place → Broken
given_breaks (Some p) (Some t) o = at_if (not (takes_value (type_of p) false t)) o Disagree
given_breaks a b o = []

abbrev pub to_breaks : Where → Option LExpr → Place → Option Ty → Broken
to_breaks w None o t = []
to_breaks w (Some v) o t = target_breaks w v ++ given_breaks (typed_at w v) t o

-- a test takes integers, pointers and codes
abbrev pub is_tested : Option Ty → Bool
is_tested None = false
is_tested (Some t) = is_testable t

abbrev pub tested_breaks : Option Typed → Place → Broken
tested_breaks None q = []
tested_breaks (Some d) q = at_if (not (is_tested (used d))) q Disagree

abbrev pub test_breaks : Where → LExpr → Broken
test_breaks w e = expr_breaks w e ++ tested_breaks (typed_at w e) (first e)

abbrev pub maybe_test : Where → Option LExpr → Broken
maybe_test w None = []
maybe_test w (Some e) = test_breaks w e

-- what a local starts with, where its name is in scope already
abbrev pub start_breaks : Where → Ident → Ty → Option LExpr → Broken
start_breaks w x t None = []
start_breaks w x t (Some e) = expr_breaks w e ++ fits_breaks (Some (APlace t)) e (typed_at w e) x.place

-- a local declared
abbrev pub local_breaks : Where → Ident → Ty → Option LExpr → Broken
local_breaks w x t start = at_if (is_here w.scope.blocks x.text) x.place Twice ++ (at_if (not (is_sized w.scope t)) x.place Incomplete
    ++ start_breaks (in_scope w (with_name w.scope (variable x t))) x t start)

-- the name of what is spawned or detached stands for nothing, or for no such function
abbrev pub wrong_name : Meant → Callee → Place → Broken
wrong_name NotMeant c q = (q, Undeclared) ∷ []
wrong_name m NoCallee q = (q, Disagree) ∷ []
wrong_name m (Takes ws r) q = []

-- a function started by its name with arguments
abbrev pub started_breaks : Where → Ident → Callee → LExprs → Broken
started_breaks w f c es = wrong_name (meant w.scope f.text) c f.place ++ (number_breaks c es f.place ++ args_breaks w (wanted c) es)

abbrev pub spawn_breaks : Where → Place → Ident → LExprs → Broken
spawn_breaks w q f es = at_if (is_event w.dialect) q CpsForm ++ (at_if (is_detached w.mode) f.place NotClosed ++ started_breaks w f (spawn_callee (meant w.scope f.text)) es)

abbrev pub section_breaks : Where → Place → Ident → LExprs → Broken
section_breaks w k f es = at_if (not (is_cps w.mode)) k CpsInNative ++ (at_if (is_event w.dialect) k CpsForm
    ++ started_breaks w f (section_callee w.scope (meant w.scope f.text)) es)

-- a return: a void function gives no value, and another one a value that is assignable to its result
abbrev pub is_void : Ty → Bool
is_void TyVoid = true
is_void t = false

abbrev pub unfit_return : Where → LExpr → Option Typed → Bool
unfit_return w e None = is_void w.result
unfit_return w e (Some d) = is_void w.result || not (takes_typed w.result (bare_expr e) d)

abbrev pub return_breaks : Where → Place → Option LExpr → Broken
return_breaks w q None = at_if (not (is_void w.result)) q BadReturn
return_breaks w q (Some e) = expr_breaks w e ++ at_if (unfit_return w e (typed_at w e)) q BadReturn

abbrev mutual
  -- what a statement breaks
  pub stmt_breaks : Where → LStmt → Broken
  stmt_breaks w (Block q ss) = stmts_breaks (inner w) ss
  stmt_breaks w (Empty q) = []
  stmt_breaks w (Declare q x t start) = local_breaks w x t start
  stmt_breaks w (Assign q o v op e) = target_breaks w v ++ (expr_breaks w e ++ assign_breaks w o v op e)
  stmt_breaks w (Call q o to f es) = to_breaks w to o (result (callee w f es)) ++ call_breaks w f es
  stmt_breaks w (Detach q o k to f es) = to_breaks w to o (Some (TyInt Int)) ++ section_breaks w k f es
  stmt_breaks w (Spawn q f es) = spawn_breaks w q f es
  stmt_breaks w (If q c s r) = test_breaks w c ++ (stmt_breaks w s ++ maybe_breaks w r)
  stmt_breaks w (While q c s) = test_breaks w c ++ stmt_breaks w s
  stmt_breaks w (DoWhile q s c) = stmt_breaks w s ++ test_breaks w c
  stmt_breaks w (For q ss c r s) = stmts_breaks (inner w) ss
      ++ (maybe_test (all_behind (inner w) ss) c ++ (maybe_breaks (all_behind (inner w) ss) r ++ stmt_breaks (all_behind (inner w) ss) s))
  stmt_breaks w (Goto q x) = []
  stmt_breaks w (Label x s) = stmt_breaks w s
  stmt_breaks w (Break q) = []
  stmt_breaks w (Continue q) = []
  stmt_breaks w (Return q e) = return_breaks w q e

  -- statements in a row
  pub stmts_breaks : Where → LStmts → Broken
  stmts_breaks w NoLStmt = []
  stmts_breaks w (AndLStmt s ss) = stmt_breaks w s ++ stmts_breaks (behind w s) ss

  pub maybe_breaks : Where → MaybeLStmt → Broken
  maybe_breaks w NoneLStmt = []
  maybe_breaks w (SomeLStmt s) = stmt_breaks w s
