-- Where expressions stand, and what names and operators break. An expression of which a proper part has no type breaks
-- nothing itself.
use Rattle.std.specs.Prelude.{Bool, true, false, ◌&&◌, not, if◌then◌else◌, [], ◌∷◌, Option, Some, None, is_some}
use Rattle.std.specs.Option.{is_none}
use Rattle.cpc_base.specs.declared.stop.Place.{Place}
use Rattle.cpc_base.specs.declared.stop.Dialect.{Dialect}
use Rattle.cpc_tree.specs.Op.{Op}
use Rattle.cpc_tree.specs.OpVariants.{Add, Sub}
use Rattle.cpc_tree.specs.declared.program.Mode.{Mode}
use Rattle.cpc_tree.specs.declared.program.Mode.TheVariants.{Extern, Native, Cps, Detached}
use Rattle.cpc_tree.specs.Syntax.{Ty, TyVoid, TyInt, TyPointer, TyStruct}
pub use Rattle.cpc_tree.specs.Syntax.{is_cps_mode as is_cps}
use Rattle.cpc_tree.specs.Located.{Ident, LExpr, LNamed, LInteger, LCharacter, LText, LUnary, LBinary, LAnd, LOr, LChoose, LCast, LSizeOf, LIndex, LMember, LArrow, LCall, bare_expr}
use Rattle.cpc_tree.specs.Typing.{Meant, ALocal, AGlobal, AFunction, NotMeant, Typed, used, typed_place, same_type, fields}
use Rattle.cpc_check_rules.specs.declared.rule.Rule.TheVariants.{Undeclared, Disagree, NoPlace, NoField, Incomplete, NotClosed, CpsAsValue}
use Rattle.cpc_check_rules.specs.Rule.{Broken, at_if}
use Rattle.cpc_check_rules.specs.Scopes.{Scope, typed, measured}

-- Where an expression or a statement stands: what is in scope, how the function around it runs and what its result is,
-- and the dialect.
pub record Where : Type 0 where
  pub scope : Scope
  pub mode : Mode
  pub result : Ty
  pub dialect : Dialect

-- the type of an expression where it stands
abbrev pub typed_at : Where → LExpr → Option Typed
typed_at w e = typed w.scope (bare_expr e)

-- the first token of an expression, after parentheses round it
abbrev pub first : LExpr → Place
first (LNamed x) = x.place
first (LInteger q kind z) = q
first (LCharacter q z) = q
first (LText q bytes) = q
first (LUnary q op v) = q
first (LBinary q op v w) = first v
first (LAnd q v w) = first v
first (LOr q v w) = first v
first (LChoose q c v w) = first c
first (LCast q t v) = q
first (LSizeOf q t) = q
first (LIndex q v w) = first v
first (LMember q v x) = first v
first (LArrow q v x) = first v
first (LCall q v vs) = first v

abbrev pub is_detached : Mode → Bool
is_detached Detached = true
is_detached mode = false

-- A function of this mode is named in a function of that mode: a detached function names detached ones alone.
abbrev pub open_name : Mode → Place → Mode → Broken
open_name around q mode = at_if (is_detached around && not (is_detached mode)) q NotClosed

-- a name used as a value
abbrev pub name_breaks : Mode → Place → Meant → Broken
name_breaks around q (ALocal slot t) = []
name_breaks around q (AGlobal block t) = at_if (is_detached around) q NotClosed
name_breaks around q (AFunction Native r ps) = open_name around q Native
name_breaks around q (AFunction Detached r ps) = []
name_breaks around q (AFunction Cps r ps) = (q, CpsAsValue) ∷ open_name around q Cps
name_breaks around q (AFunction Extern r ps) = (q, Disagree) ∷ open_name around q Extern
name_breaks around q NotMeant = (q, Undeclared) ∷ []

-- an operator whose operands have types, and which has none itself
abbrev pub no_rule : Bool → Option Typed → Place → Broken
no_rule have whole q = at_if (have && is_none whole) q Disagree

-- pointers to void and to incomplete types are not moved, and have no distance
abbrev pub is_unmeasured : Scope → Option Ty → Bool
is_unmeasured s (Some (TyPointer t)) = is_none (measured s t)
is_unmeasured s o = false

abbrev pub used_of : Option Typed → Option Ty
used_of None = None
used_of (Some d) = used d

-- one operand is such a pointer and the other an integer
abbrev pub moves_unmeasured : Scope → Option Ty → Option Ty → Bool
moves_unmeasured s a (Some (TyInt k)) = is_unmeasured s a
moves_unmeasured s (Some (TyInt k)) b = is_unmeasured s b
moves_unmeasured s a b = false

abbrev pub between_unmeasured : Scope → Option Ty → Option Ty → Bool
between_unmeasured s (Some (TyPointer t)) (Some (TyPointer u)) = same_type t u && is_none (measured s t)
between_unmeasured s a (Some (TyInt k)) = is_unmeasured s a
between_unmeasured s a b = false

abbrev pub is_incomplete_sum : Scope → Op → Option Typed → Option Typed → Bool
is_incomplete_sum s Add a b = moves_unmeasured s (used_of a) (used_of b)
is_incomplete_sum s Sub a b = between_unmeasured s (used_of a) (used_of b)
is_incomplete_sum s op a b = false

-- an operator on two operands
abbrev pub binary_breaks : Scope → Op → Option Typed → Option Typed → Option Typed → Place → Broken
binary_breaks s op a b whole q =
    if is_incomplete_sum s op a b then (q, Incomplete) ∷ [] else no_rule (is_some a && is_some b) whole q

-- the operand of & is a place, or the name of a function
abbrev pub address_breaks : Option Typed → Option Typed → Place → Broken
address_breaks operand whole q = at_if (is_some operand && is_none whole) q NoPlace

-- a field of this type
abbrev pub field_breaks : Scope → Option Ty → Place → Ident → Option Typed → Broken
field_breaks s None q x whole = (q, Disagree) ∷ []
field_breaks s (Some TyVoid) q x whole = (q, Incomplete) ∷ []
field_breaks s (Some (TyStruct tag)) q x whole = if is_none (fields s.items tag) then (q, Incomplete) ∷ [] else at_if (is_none whole) x.place NoField
field_breaks s (Some t) q x whole = (q, Disagree) ∷ []

abbrev pub member_breaks : Scope → Option Typed → Place → Ident → Option Typed → Broken
member_breaks s None q x whole = []
member_breaks s (Some d) q x whole = field_breaks s (typed_place d) q x whole

abbrev pub pointed : Option Ty → Option Ty
pointed (Some (TyPointer t)) = Some t
pointed o = None

abbrev pub arrow_breaks : Scope → Option Typed → Place → Ident → Option Typed → Broken
arrow_breaks s None q x whole = []
arrow_breaks s (Some d) q x whole = field_breaks s (pointed (used d)) q x whole
