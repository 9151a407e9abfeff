-- Statements by their parts: what is evaluated, and what is done then.
use Rattle.std.proofs.Common.{◌≡◌, true, Option, Some, None, refl, sym, ap, ◌∙◌}
use Rattle.cpc_base.specs.Bytes.{Text}
use Rattle.cpc_num.specs.declared.kinds.Op.{Op}
use Rattle.cpc_eval.specs.Around.{operate_in}
use Rattle.cpc_eval.specs.Values.{assigned_at}
use Rattle.cpc_eval.proofs.Evaluating.{chain_one}
use Rattle.cpc_tree.specs.Syntax.{Ty, Expr, ENamed, Exprs}
use Rattle.cpc_tree.specs.Typing.{NotMeant, function_named}
use Rattle.cpc_tree.specs.Primitives.{Primitive, primitive_named}
use Rattle.cpc_store.specs.Store.{Value}
use Rattle.cpc_meaning.specs.Answer.{Answer, Gives, ◌>>=◌, needed}
use Rattle.cpc_meaning.specs.Eval as E
use Rattle.cpc_meaning.specs.Requests as R
use Rattle.cpc_meaning.specs.Act as M
use Rattle.cpc_native_plans.specs.Rows.{asked_with}
use Rattle.cpc_native_plans.specs.Calls.{calls_unmeant}
use Rattle.cpc_native_plans.specs.Parts.{goes_on, aimed, returned, test_held}
use Rattle.cpc_native_plans.proofs.Calling.{then_same}

-- ---- assignments

-- the right side of an assignment with an operator
pub right_is : (c : E.Context) (x v : Expr) (op : Op) (o : Option Op) → o ≡ Some op → E.value c (M.right_side o x v) ≡ (E.value c x >>= (λ a. E.value c v >>= (λ b. operate_in c op x v a b)))
right_is c x v op o e = ap (λ q. E.value c (M.right_side q x v)) e

-- a place, and then what is assigned to it
pub aimed_by : (c : E.Context) (e : Expr) (v : Value) → aimed c e v ≡ (E.place c e >>= (λ spot. assigned_at c e v >>= (λ w. Gives (spot, w))))
aimed_by c e v = then_same (E.place c e) _ _ (λ spot. chain_one (needed (E.place_type c e)) (λ t. E.assigned t v) (λ w. Gives (spot, w)))

-- what is written, and control goes on
abbrev pub wrote : E.Context → E.Spot × Value → Answer M.Act
wrote c q = goes_on (M.write c q.0 q.1)

module _ (c : E.Context) where
  assign_aimed : (e : Expr) (v : Value) → M.assign c e v ≡ (aimed c e v >>= (λ q. M.write c q.0 q.1))
  assign_aimed e v =
      then_same (E.place c e) _ _ (λ spot.
      then_same (needed (E.place_type c e)) _ _ (λ t. chain_one (E.assigned t v) (λ w. Gives (spot, w)) (λ q. M.write c q.0 q.1))
      ∙ chain_one (needed (E.place_type c e)) _ (λ q. M.write c q.0 q.1))
      ∙ chain_one (E.place c e) _ (λ q. M.write c q.0 q.1)

  pub aim_goes : (e : Expr) (v : Value) → goes_on (M.assign c e v) ≡ (aimed c e v >>= wrote c)
  aim_goes e v = ap goes_on (assign_aimed e v) ∙ sym (chain_one (aimed c e v) (λ q. M.write c q.0 q.1) (λ p. Gives (M.GoesOn true p.1 p.0)))

  pub assigns_parts : (x v : Expr) → M.assigns c x v ≡ (E.value c v >>= (λ w. aimed c x w >>= wrote c))
  assigns_parts x v = then_same (E.value c v) _ _ (λ w. aim_goes x w)

  -- ---- tests and returns

  pub test_parts : (o : Option Expr) → M.test_act c o ≡ (test_held c o >>= M.passes c)
  test_parts None = refl
  test_parts (Some t) = chain_one (E.value c t) E.holds (M.passes c)

  pub returns_parts : (result : Ty) (o : Option Expr) → M.returns c result o ≡ (returned c result o >>= M.leaves c)
  returns_parts result None = refl
  returns_parts result (Some x) = chain_one (E.value c x) (E.assigned result) (M.leaves c)

  -- ---- requests

  pub asks_parts : (prim : Primitive) (es : Exprs) (o : Option Text) → M.asks_with c prim es o ≡ (asked_with c prim es o >>= M.asks (R.Builtin prim))
  asks_parts prim es (Some bytes) = refl
  asks_parts prim es None = chain_one (E.values c es) (λ vs. R.all_taken (R.takes c.program prim vs) vs) (M.asks (R.Builtin prim))

  pub unmeant_asks : (x : Text) (es : Exprs) (prim : Primitive) → Some prim ≡ primitive_named x → M.asks_with c prim es (M.puts_text prim es) ≡ calls_unmeant c x es
  unmeant_asks x es prim e = ap (λ o. M.calls_named c x es NotMeant o (function_named c.program x)) e

  pub unmeant_calls : (x : Text) (es : Exprs) → None ≡ primitive_named x → M.calls_value c (ENamed x) es ≡ calls_unmeant c x es
  unmeant_calls x es e = ap (λ o. M.calls_named c x es NotMeant o (function_named c.program x)) e
