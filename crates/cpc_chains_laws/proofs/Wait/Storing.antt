-- Arguments are stored in the first frame of a call one by one: how many steps lead to the first that faults, and where the statements behind them stand.
use Rattle.std.proofs.Common.{◌≡◌, ℕ, suc, ◌+◌, ◌<◌, ◌≤◌, ◌^◌, true, List, [], ◌∷◌, ◌++◌, length, map, replicate, Some, None, refl, sym, ◌∙◌, ap, subst, codes, arith}
use Rattle.cpc_base.specs.Bytes.{Text}
use Rattle.cpc_num.specs.declared.kinds.Fault.{Fault}
use Rattle.cpc_tree.specs.declared.program.Mode.TheVariants.{Native}
use Rattle.cpc_tree.specs.Syntax.{Ty, TyPointer, TyCode, TyStruct, Tys, Expr, ENamed, EArrow, Assign, Stmts, AndStmt, Function, Program}
use Rattle.cpc_tree.specs.Typing.{Scope, NotMeant, AFunction, named, function_named, field, size}
use Rattle.cpc_tree.specs.Points.{Point, Simple}
use Rattle.cpc_store.specs.declared.values.Class.TheVariants.{Frame}
use Rattle.cpc_store.specs.Store.{Value, Unset, Code, Store, next_block, alloc}
use Rattle.cpc_meaning.specs.Answer.{Gives}
use Rattle.cpc_meaning.specs.Eval.{Slot, value, assigned}
use Rattle.cpc_meaning.specs.Plain.{Frame as CallFrame}
use Rattle.cpc_convert_flat_laws.specs.Flat.{before, Stands, LineAt}
use Rattle.cpc_convert_flat_laws.specs.Locals.{at, PointsTo, Holds}
use Rattle.cpc_chains_store_laws.specs.Frames.{pointed_slots, asks_block, Give, gives_one, fills_call, GivingFaults, FirstFaults, LaterFaults}
use Rattle.cpc_convert_flat_laws.specs.Walks.{World, at_line, FaultsAfter}
use Rattle.cpc_convert_flat_laws.proofs.AtLine.{line_path, line_found, line_scope, line_passed}
use Rattle.cpc_chains_store_laws.proofs.Making.{heads_frame, new_field_step, length_one}
use Rattle.cpc_convert_flat_laws.proofs.Scopes.{all_lines, past_lines}
use Rattle.cpc_convert_flat_laws.proofs.Steps.{step_faults}
use Rattle.cpc_convert_flat_laws.proofs.Walks.{stay, level_cons, rise_append}

module _ (q : Program) (w : World) (fn : Text) (g : Function) (body : Stmts) (below : List (CallFrame Point)) (is_g : function_named q fn ≡ Some g) (scope : Scope) (n : ℕ) (rest : Stmts) (slots : List Slot) (s : Store) (f : Expr) (tag : Text) (points : (t : Store) → PointsTo q scope slots t f tag (next_block Frame s)) (fault : Fault) where
  -- to the first that faults there are fewer steps than arguments
  pub gives_fault : (i k : ℕ) (done : List Value) (ps : List Give) → i ≡ length done → GivingFaults q scope slots tag s fault i ps → Stands g body k scope n (before (map (gives_one f) ps) rest)
      → (a : FaultsAfter q w.trace fn fault (at_line w fn below k (before (map (gives_one f) ps) rest) slots (alloc Frame (done ++ replicate (length ps) Unset) s))) × (a.steps ≤ length ps) × (a.grown ≤ 0)
  gives_fault _ k done _ e (FirstFaults i p ps is_fault) st =
      let left = before (map (gives_one f) ps) rest in
      let made = alloc Frame (done ++ Unset ∷ replicate (length ps) Unset) s in
      let l : LineAt g body k scope n (gives_one f p) left = record { statement = gives_one f p; stands = st; is_bare = refl; is_line = refl } in (
        record {
          steps = 0;
          grown = 0;
          last = at_line w fn below k (AndStmt (gives_one f p) left) slots made;
          leads = stay _;
          faults = step_faults q w fn g below is_g slots made (line_path g body k scope n (gives_one f p) left l) scope (line_scope g body k scope n (gives_one f p) left l _) (Simple (gives_one f p)) (line_found g body k scope n (gives_one f p) left l) fault
              (let v = is_fault (done ++ Unset ∷ replicate (length ps) Unset) in simp (v) refl);
        },
        omega arith,
        omega arith,
      )
  gives_fault _ k done _ e (LaterFaults i p t u v ps is_field is_value fits more) st =
      let left = before (map (gives_one f) ps) rest in
      let l : LineAt g body k scope n (gives_one f p) left = record { statement = gives_one f p; stands = st; is_bare = refl; is_line = refl } in
      let first = new_field_step q w fn g body below is_g scope n rest slots s f tag points k p.field p.expression left st done (replicate (length ps) Unset) Unset t u v (is_field ∙ ap (λ j. Some (j, t)) e) (is_value _) fits in
      let others = gives_fault (suc i) (suc k) (done ++ v ∷ []) ps (ap suc e ∙ sym (length_one done v)) more (line_passed g body k scope n (gives_one f p) left l) in
      (record { steps = suc others.0.steps; grown = others.0.grown; last = others.0.last; leads = level_cons others.0.steps others.0.grown _ _ _ first others.0.leads; faults = others.0.faults }, (let h = others.1 in omega (arith, h)), others.2)

-- ---- a whole frame of a call

module _ (q : Program) (w : World) (fn : Text) (g : Function) (body : Stmts) (below : List (CallFrame Point)) (is_g : function_named q fn ≡ Some g) (k : ℕ) (scope : Scope) (n : ℕ) (rest : Stmts) (slots : List Slot) (s : Store) (to tag head code next piece : Text) (start f lower : Expr) (ps : List Give) (l : LineAt g body k scope n (asks_block to tag) (before (fills_call start f code next piece lower ps) rest))
    (is_named : named q scope (codes "rt_frame") ≡ NotMeant) (is_size : size q (TyStruct tag) ≡ Some (suc (suc (suc (length ps))))) (small : suc (suc (suc (length ps))) < 2 ^ 63) (t : Ty) (old : Value) (h : Holds q scope slots to (TyPointer t) old)
    (begins : (u : Store) → PointsTo q scope (pointed_slots slots h.slot (next_block Frame s)) u start head (next_block Frame s)) (points : (u : Store) → PointsTo q scope (pointed_slots slots h.slot (next_block Frame s)) u f tag (next_block Frame s)) (r r' : Ty) (params : List Ty) (params' : Tys) (is_piece : named q scope piece ≡ AFunction Native r params) (is_code : field q head code ≡ Some (0, TyCode r' params'))
    (t' : Ty) (v p : Value) (is_next : field q head next ≡ Some (1, t')) (is_lower : (u : Store) → value (at q scope (pointed_slots slots h.slot (next_block Frame s)) u) lower ≡ Gives v) (fits : assigned t' v ≡ Gives p) where
  -- up to the first argument that faults
  pub call_faults : (fault : Fault) → GivingFaults q scope (pointed_slots slots h.slot (next_block Frame s)) tag s fault 3 ps
      → (a : FaultsAfter q w.trace fn fault (at_line w fn below k (AndStmt l.statement (before (fills_call start f code next piece lower ps) rest)) slots s)) × (a.steps ≤ 3 + length ps) × (a.grown ≤ 3 + length ps)
  call_faults fault giving =
      let slots' = pointed_slots slots h.slot (next_block Frame s) in
      let left = before (map (gives_one f) ps) rest in
      let top = heads_frame q w fn g body below is_g k scope n left slots s to tag head code next piece start lower (length ps) l is_named is_size small t old h begins r r' params params' is_piece is_code t' v p is_next is_lower fits in
      let tail = gives_fault q w fn g body below is_g scope n rest slots' s f tag points fault 3 (suc (suc (suc k))) (Code piece ∷ p ∷ Unset ∷ []) ps refl giving top.1 in
      (record { steps = 3 + tail.0.steps; grown = suc (suc (suc (length ps))) + tail.0.grown; last = tail.0.last; leads = rise_append 3 tail.0.steps (suc (suc (suc (length ps)))) tail.0.grown _ _ _ top.0 tail.0.leads; faults = tail.0.faults }, (let i = tail.1 in omega (arith, i)), (let i = tail.2 in omega (arith, i)))

-- ---- the position behind it

gives_lines : (f : Expr) (ps : List Give) → all_lines (map (gives_one f) ps) ≡ true
gives_lines f [] = refl
gives_lines f (p ∷ ps) = gives_lines f ps

pub past_call : (g : Function) (body : Stmts) (k : ℕ) (scope : Scope) (n : ℕ) (rest : Stmts) (to tag code next piece : Text) (start f lower : Expr) (ps : List Give) → LineAt g body k scope n (asks_block to tag) (before (fills_call start f code next piece lower ps) rest)
    → Stands g body (suc (suc (suc k)) + length ps) scope n rest
past_call g body k scope n rest to tag code next piece start f lower ps l =
    let left = before (map (gives_one f) ps) rest in
    let left1 = AndStmt (Assign (EArrow start next) None lower) left in
    let left0 = AndStmt (Assign (EArrow start code) None (ENamed piece)) left1 in
    let st0 = line_passed g body k scope n (asks_block to tag) left0 l in
    let st1 = line_passed g body (suc k) scope n (Assign (EArrow start code) None (ENamed piece)) left1 (record { statement = Assign (EArrow start code) None (ENamed piece); stands = st0; is_bare = refl; is_line = refl }) in
    let st2 = line_passed g body (suc (suc k)) scope n (Assign (EArrow start next) None lower) left (record { statement = Assign (EArrow start next) None lower; stands = st1; is_bare = refl; is_line = refl }) in
    subst (λ m. Stands g body m scope n rest) (ap (λ i. suc (suc (suc k)) + i) (same_length ps)) (past_lines g body (suc (suc (suc k))) scope n (map (gives_one f) ps) rest (gives_lines f ps) st2)
  where
    same_length : (ps : List Give) → length (map (gives_one f) ps) ≡ length ps
    same_length [] = refl
    same_length (p ∷ ps) = ap suc (same_length ps)
