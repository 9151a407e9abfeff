-- The operand of which an operator counts the elements that it points to, and how many cells one of these has.
use Rattle.std.specs.Prelude.{◌≡◌, ℕ, Option, Some}
pub use Rattle.cpc_base.specs.Counts.{capped}
use Rattle.cpc_num.specs.declared.kinds.Op.{Op}
use Rattle.cpc_num.specs.declared.kinds.Op.TheVariants.{Add, Sub}
use Rattle.cpc_store.specs.Store.{ValueOf, Whole}
use Rattle.cpc_tree.specs.Syntax.{Ty, Program}
use Rattle.cpc_meaning.specs.Answer.{Answer, Gives, NoAnswer}
use Rattle.cpc_meaning.specs.Eval.{element_size}
use Rattle.cpc_eval_values.specs.declared.operators.Side.{Side}
use Rattle.cpc_eval_values.specs.declared.operators.Side.TheVariants.{Neither, Left, Right}

-- a pointer and a number are added, a number is subtracted from a pointer, or a pointer from a pointer
abbrev pub counted : {C : Type 0} → Op → ValueOf C → ValueOf C → Side
counted Add (Whole j x) (Whole k y) = Neither
counted Add (Whole j x) w = Right
counted Add v w = Left
counted Sub (Whole j x) w = Neither
counted Sub v w = Left
counted op v w = Neither

-- the cells of an element
abbrev pub cells_counted : Program → Side → (left : Option Ty) → (right : Option Ty) → Answer ℕ
cells_counted p Neither t u = NoAnswer
cells_counted p Left t u = element_size p t
cells_counted p Right t u = element_size p u

-- the cells of an element, where the left operand is a reference
abbrev pub cells_left : Program → Op → Option Ty → Answer ℕ
cells_left p Add t = element_size p t
cells_left p Sub t = element_size p t
cells_left p op t = NoAnswer

-- and where a reference is at the right of an integer
abbrev pub cells_right : Program → Op → Option Ty → Answer ℕ
cells_right p Add u = element_size p u
cells_right p op u = NoAnswer

-- the size that is handed over is the one that there is
abbrev pub IsSize : Option ℕ → Answer ℕ → Type 0
IsSize size a = (n : ℕ) → a ≡ Gives n → size ≡ Some (capped n)
