-- The values of expressions by their forms: that of another form is not said.
use Rattle.std.specs.Prelude.{Bool, Option}
use Rattle.cpc_tree.specs.Syntax.{Ty, Expr, EUnary, EBinary, EAnd, EOr, EChoose, ECast}
use Rattle.cpc_store.specs.Store.{Value}
use Rattle.cpc_meaning.specs.Answer.{Answer, NoAnswer, ◌>>=◌, needed}
use Rattle.cpc_meaning.specs.Eval as E

-- an operator on one operand
abbrev pub unary_value : E.Context → Expr → Answer Value
unary_value c (EUnary op e) = E.value c (EUnary op e)
unary_value c _ = NoAnswer

-- an operator on two operands, or a cast
abbrev pub operator_value : E.Context → Expr → Answer Value
operator_value c (EBinary op a b) = E.value c (EBinary op a b)
operator_value c (ECast t e) = E.value c (ECast t e)
operator_value c _ = NoAnswer

-- one of two operands, by a test
abbrev pub branch_value : E.Context → Expr → Answer Value
branch_value c (EAnd a b) = E.value c (EAnd a b)
branch_value c (EOr a b) = E.value c (EOr a b)
branch_value c (EChoose e a b) = E.value c (EChoose e a b)
branch_value c _ = NoAnswer

-- what a place holds
abbrev pub place_value : E.Context → Expr → Answer Value
place_value c e = do
  spot ← E.place c e
  E.read c.slots c.store (E.place_type c e) spot

-- whether a test holds
abbrev pub test_value : E.Context → Expr → Answer Bool
test_value c e = do
  v ← E.value c e
  E.holds v

-- a value converted to a type, if there is one
abbrev pub assigned_if : Option Ty → Value → Answer Value
assigned_if o v = do
  t ← needed o
  E.assigned t v

-- a value converted to the type of a place
abbrev pub assigned_at : E.Context → Expr → Value → Answer Value
assigned_at c e v = assigned_if (E.place_type c e) v
