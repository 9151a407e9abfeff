-- What the functions of the walk each find and note.
use Rattle.std.specs.Prelude.{ℕ, ◌==◌, Bool, true, false, not, length, [], Option, Some, None}
use Rattle.cpc_base.specs.declared.stop.Place.{Place}
use Rattle.cpc_tree.specs.Located.{LExpr, LText, LUnary, LBinary, LAnd, LOr, LChoose, LCast, LIndex, LMember, LArrow, LCall}
use Rattle.cpc_tree.specs.Typing.{Meant, Typed}
use Rattle.cpc_check_rules.specs.declared.rule.Rule.TheVariants.{WrongNumber}
use Rattle.cpc_check_rules.specs.Rule.{Broken, at_if}
use Rattle.cpc_check_rules.specs.Scopes.{Scope}
use Rattle.cpc_check_rules.specs.Operators.{Where, typed_at}
use Rattle.cpc_check_rules.specs.Calls as C
use Rattle.cpc_check_rules.specs.ExprRules.{expr_breaks, arg_breaks}
use Rattle.cpc_check_values.specs.declared.started.Start.{Start}
use Rattle.cpc_check_values.specs.declared.started.Start.TheVariants.{Thread, Section}

-- an expression with one operand
abbrev pub narrow_typed : Where → LExpr → Option Typed
narrow_typed w (LUnary q op v) = typed_at w (LUnary q op v)
narrow_typed w (LCast q t v) = typed_at w (LCast q t v)
narrow_typed w (LMember q v x) = typed_at w (LMember q v x)
narrow_typed w (LArrow q v x) = typed_at w (LArrow q v x)
narrow_typed w e = None

abbrev pub narrow_breaks : Where → LExpr → Broken
narrow_breaks w (LUnary q op v) = expr_breaks w (LUnary q op v)
narrow_breaks w (LCast q t v) = expr_breaks w (LCast q t v)
narrow_breaks w (LMember q v x) = expr_breaks w (LMember q v x)
narrow_breaks w (LArrow q v x) = expr_breaks w (LArrow q v x)
narrow_breaks w e = []

-- an expression with two operands that are used as values
abbrev pub wide_typed : Where → LExpr → Option Typed
wide_typed w (LBinary q op v u) = typed_at w (LBinary q op v u)
wide_typed w (LIndex q v u) = typed_at w (LIndex q v u)
wide_typed w e = None

abbrev pub wide_breaks : Where → LExpr → Broken
wide_breaks w (LBinary q op v u) = expr_breaks w (LBinary q op v u)
wide_breaks w (LIndex q v u) = expr_breaks w (LIndex q v u)
wide_breaks w e = []

-- an expression with a test
abbrev pub logical_typed : Where → LExpr → Option Typed
logical_typed w (LAnd q v u) = typed_at w (LAnd q v u)
logical_typed w (LOr q v u) = typed_at w (LOr q v u)
logical_typed w (LChoose q c v u) = typed_at w (LChoose q c v u)
logical_typed w e = None

abbrev pub logical_breaks : Where → LExpr → Broken
logical_breaks w (LAnd q v u) = expr_breaks w (LAnd q v u)
logical_breaks w (LOr q v u) = expr_breaks w (LOr q v u)
logical_breaks w (LChoose q c v u) = expr_breaks w (LChoose q c v u)
logical_breaks w e = []

-- a call in an expression
abbrev pub inside_breaks : Where → LExpr → Broken
inside_breaks w (LCall q f vs) = expr_breaks w (LCall q f vs)
inside_breaks w e = []

-- so many arguments
abbrev pub count_breaks : C.Callee → ℕ → Place → Broken
count_breaks C.NoCallee n q = []
count_breaks (C.Takes wants result) n q = at_if (not (n == length wants)) q WrongNumber

-- an argument beside what is wanted, if something is
abbrev pub wanted_breaks : Where → Option C.Wanted → LExpr → Broken
wanted_breaks w None e = expr_breaks w e
wanted_breaks w (Some t) e = arg_breaks w t e (expr_breaks w e)

-- a string where one is wanted
abbrev pub is_wanted_text : Option C.Wanted → LExpr → Bool
is_wanted_text (Some C.String) (LText q bytes) = true
is_wanted_text o e = false

-- what is started by its name
abbrev pub start_callee : Start → Scope → Meant → C.Callee
start_callee Thread s m = C.spawn_callee m
start_callee Section s m = C.section_callee s m
