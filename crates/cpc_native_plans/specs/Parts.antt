-- Answers that stand for answers, and the parts of statements.
use Rattle.std.specs.Prelude.{Bool, true, false, List, Option, Some, None, Result}
use Rattle.std.specs.Result.{result_map_both}
use Rattle.cpc_num.specs.declared.kinds.Fault.{Fault}
use Rattle.cpc_tree.specs.Erase.{Names}
use Rattle.cpc_tree.specs.Syntax.{Ty, Expr, Stmt, Call}
use Rattle.cpc_store.specs.Store as S
use Rattle.cpc_store.specs.declared.values.Value as V
use Rattle.cpc_meaning.specs.Answer.{Answer, Gives, ◌>>=◌, needed}
use Rattle.cpc_meaning.specs.Eval as E
use Rattle.cpc_meaning.specs.Act as M
use Rattle.cpc_eval_values.specs.Meets.{Meets}
use Rattle.cpc_eval_values.specs.Shown.{value_of}
use Rattle.cpc_eval.specs.declared.places.Spot.{Spot}
use Rattle.cpc_eval.specs.Spots.{spot_of}
use Rattle.cpc_tree.specs.Points as T

-- control goes on, with what was written
abbrev pub goes_on : Answer (List E.Slot × S.Store) → Answer M.Act
goes_on a = do
  (slots, s) ← a
  Gives (M.GoesOn true s slots)

-- what meets one answer meets another
abbrev pub Stands : {A : Type 0} → (by for : Answer A) → Type 0
Stands {A} a b = (r : Result A Fault) → Meets r a → Meets r b

-- a place, and what is assigned to it
abbrev pub aimed : E.Context → Expr → S.Value → Answer (E.Spot × S.Value)
aimed c e v = do
  spot ← E.place c e
  t ← needed (E.place_type c e)
  w ← E.assigned t v
  Gives (spot, w)

-- a place and a value, or a fault
abbrev pub aim_seen : Names → Result (Spot × V.Value) Fault → Result (E.Spot × S.Value) Fault
aim_seen names r = result_map_both (λ (q : Spot × V.Value). (spot_of q.0, value_of names q.1)) (λ fault. fault) r

-- the value of a return, or the unset one
abbrev pub returned : E.Context → (result : Ty) → Option Expr → Answer S.Value
returned c result None = Gives S.Unset
returned c result (Some x) = do
  v ← E.value c x
  E.assigned result v

-- whether a test holds; an absent one does
abbrev pub test_held : E.Context → Option Expr → Answer Bool
test_held c None = Gives true
test_held c (Some t) = do
  v ← E.value c t
  E.holds v

-- a call stands there, whose arguments are to be evaluated
abbrev pub is_call : Stmt → Bool
is_call (Call e f es) = true
is_call _ = false

abbrev pub is_call_found : T.Found → Bool
is_call_found (T.Simple s) = is_call s
is_call_found _ = false
