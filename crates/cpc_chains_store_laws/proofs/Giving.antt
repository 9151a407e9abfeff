-- The arguments of a call are evaluated into the fields of a new frame, a step for each, or up to the first fault.
use Rattle.std.proofs.Common.{◌≡◌, ℕ, suc, ◌+◌, ◌<◌, ◌^◌, codes, List, [], ◌∷◌, ◌++◌, length, map, replicate, Some, refl, sym, ◌∙◌, ap, subst, arith}
use Rattle.cpc_base.specs.Bytes.{Text}
use Rattle.cpc_num.specs.declared.kinds.Fault.{Fault}
use Rattle.cpc_tree.specs.Syntax.{Ty, TyPointer, TyCode, TyStruct, Tys, Expr, Stmts, AndStmt, Function, Program}
use Rattle.cpc_tree.specs.Typing.{Scope, NotMeant, AFunction, named, function_named, field, size}
use Rattle.cpc_tree.specs.Points.{Point, Simple}
use Rattle.cpc_store.specs.declared.values.Class.TheVariants.{Frame}
use Rattle.cpc_store.specs.Store.{Value, Unset, Code, Store, next_block, alloc}
use Rattle.cpc_meaning.specs.Eval.{Slot, value, assigned}
use Rattle.cpc_meaning.specs.Answer.{Gives}
use Rattle.cpc_chains_store_laws.specs.Chains.{frame_cells}
use Rattle.cpc_tree.specs.declared.program.Mode.TheVariants.{Native}
use Rattle.cpc_meaning.specs.Plain.{Frame as CallFrame}
use Rattle.cpc_convert_flat_laws.specs.Flat.{before, Stands, LineAt}
use Rattle.cpc_convert_flat_laws.specs.Locals.{at, PointsTo, Holds}
use Rattle.cpc_chains_store_laws.specs.Frames.{asks_block, pointed_slots, fills_call, Give, gives_one, Giving, NoGiving, AndGiving, GivingFaults, FirstFaults, LaterFaults}
use Rattle.cpc_convert_flat_laws.specs.Walks.{World, Rise, Walk, at_line, FaultsAfter}
use Rattle.cpc_convert_flat_laws.proofs.Walks.{stay, rise_append, rise_more, rise_then_level, level_cons, walk_cons, walk_append}
use Rattle.cpc_convert_flat_laws.proofs.AtLine.{line_path, line_found, line_scope, line_passed}
use Rattle.cpc_convert_flat_laws.proofs.Steps.{step_faults}
use Rattle.cpc_chains_store_laws.proofs.Making.{heads_frame, new_field_step, append_one, length_one}

module _ (q : Program) (w : World) (fn : Text) (g : Function) (body : Stmts) (below : List (CallFrame Point)) (is_g : function_named q fn ≡ Some g) (scope : Scope) (n : ℕ) (rest : Stmts) (slots : List Slot) (s : Store) (f : Expr) (tag : Text) (points : (t : Store) → PointsTo q scope slots t f tag (next_block Frame s)) where
  -- as many steps as there are arguments
  pub gives_walk : (i k : ℕ) (done : List Value) (ps : List Give) (vs : List Value) → i ≡ length done → Giving q scope slots tag s i ps vs → Stands g body k scope n (before (map (gives_one f) ps) rest)
      → Rise q w.trace (length ps) 0 (at_line w fn below k (before (map (gives_one f) ps) rest) slots (alloc Frame (done ++ replicate (length ps) Unset) s)) (at_line w fn below (k + length ps) rest slots (alloc Frame (done ++ vs) s))
  gives_walk _ k done _ _ e (NoGiving _) st =
      subst (λ j. Rise q w.trace 0 0 (at_line w fn below k rest slots (alloc Frame (done ++ []) s)) (at_line w fn below j rest slots (alloc Frame (done ++ []) s))) (let z : k ≡ k + 0 = omega arith in z) (stay _)
  gives_walk _ k done _ _ e (AndGiving i p t u v ps vs is_field is_value fits more) st =
      let left = before (map (gives_one f) ps) rest in
      let made = alloc Frame (done ++ Unset ∷ replicate (length ps) Unset) s in
      let l : LineAt g body k scope n (gives_one f p) left = record { statement = gives_one f p; stands = st; is_bare = refl; is_line = refl } in
      let first = new_field_step q w fn g body below is_g scope n rest slots s f tag points k p.field p.expression left st done (replicate (length ps) Unset) Unset t u v (is_field ∙ ap (λ j. Some (j, t)) e) (is_value _) fits in
      let others = gives_walk (suc i) (suc k) (done ++ v ∷ []) ps vs (ap suc e ∙ sym (length_one done v)) more (line_passed g body k scope n (gives_one f p) left l) in
      let start = at_line w fn below k (AndStmt (gives_one f p) left) slots made in
      subst (λ xs. Rise q w.trace (suc (length ps)) 0 start (at_line w fn below (k + suc (length ps)) rest slots (alloc Frame xs s))) (append_one done v vs)
      (subst (λ j. Rise q w.trace (suc (length ps)) 0 start (at_line w fn below j rest slots (alloc Frame ((done ++ v ∷ []) ++ vs) s))) (let z : suc k + length ps ≡ k + suc (length ps) = omega arith in z)
      (level_cons (length ps) 0 _ _ _ first others))

  -- or up to the first that faults
  pub gives_fault : (fault : Fault) (i k : ℕ) (done : List Value) (ps : List Give) → i ≡ length done → GivingFaults q scope slots tag s fault i ps → Stands g body k scope n (before (map (gives_one f) ps) rest)
      → FaultsAfter q w.trace fn fault (at_line w fn below k (before (map (gives_one f) ps) rest) slots (alloc Frame (done ++ replicate (length ps) Unset) s))
  gives_fault fault _ k done _ e (FirstFaults i p ps is_fault) st =
      let left = before (map (gives_one f) ps) rest in
      let made = alloc Frame (done ++ Unset ∷ replicate (length ps) Unset) s in
      let l : LineAt g body k scope n (gives_one f p) left = record { statement = gives_one f p; stands = st; is_bare = refl; is_line = refl } in
      record {
        steps = 0;
        grown = 0;
        last = at_line w fn below k (AndStmt (gives_one f p) left) slots made;
        leads = stay _;
        faults = step_faults q w fn g below is_g slots made (line_path g body k scope n (gives_one f p) left l) scope (line_scope g body k scope n (gives_one f p) left l _) (Simple (gives_one f p)) (line_found g body k scope n (gives_one f p) left l) fault
            (let v = is_fault (done ++ Unset ∷ replicate (length ps) Unset) in simp (v) refl);
      }
  gives_fault fault _ k done _ e (LaterFaults i p t u v ps is_field is_value fits more) st =
      let left = before (map (gives_one f) ps) rest in
      let l : LineAt g body k scope n (gives_one f p) left = record { statement = gives_one f p; stands = st; is_bare = refl; is_line = refl } in
      let first = new_field_step q w fn g body below is_g scope n rest slots s f tag points k p.field p.expression left st done (replicate (length ps) Unset) Unset t u v (is_field ∙ ap (λ j. Some (j, t)) e) (is_value _) fits in
      let others = gives_fault fault (suc i) (suc k) (done ++ v ∷ []) ps (ap suc e ∙ sym (length_one done v)) more (line_passed g body k scope n (gives_one f p) left l) in
      record { steps = suc others.steps; grown = others.grown; last = others.last; leads = level_cons others.steps others.grown _ _ _ first others.leads; faults = others.faults }

-- ---- a whole frame of a call

module _ (q : Program) (w : World) (fn : Text) (g : Function) (body : Stmts) (below : List (CallFrame Point)) (is_g : function_named q fn ≡ Some g) (k : ℕ) (scope : Scope) (n : ℕ) (rest : Stmts) (slots : List Slot) (s : Store) (to tag head code next piece : Text) (start f lower : Expr) (ps : List Give) (l : LineAt g body k scope n (asks_block to tag) (before (fills_call start f code next piece lower ps) rest))
    (is_named : named q scope (codes "rt_frame") ≡ NotMeant) (is_size : size q (TyStruct tag) ≡ Some (suc (suc (suc (length ps))))) (small : suc (suc (suc (length ps))) < 2 ^ 63) (t : Ty) (old : Value) (h : Holds q scope slots to (TyPointer t) old)
    (begins : (u : Store) → PointsTo q scope (pointed_slots slots h.slot (next_block Frame s)) u start head (next_block Frame s)) (points : (u : Store) → PointsTo q scope (pointed_slots slots h.slot (next_block Frame s)) u f tag (next_block Frame s)) (r r' : Ty) (params : List Ty) (params' : Tys) (is_piece : named q scope piece ≡ AFunction Native r params) (is_code : field q head code ≡ Some (0, TyCode r' params'))
    (t' : Ty) (v p : Value) (is_next : field q head next ≡ Some (1, t')) (is_lower : (u : Store) → value (at q scope (pointed_slots slots h.slot (next_block Frame s)) u) lower ≡ Gives v) (fits : assigned t' v ≡ Gives p) where
  -- the start frame of a call, over the frame below, with the values of the arguments
  pub calls_frame : (vs : List Value) → Giving q scope (pointed_slots slots h.slot (next_block Frame s)) tag s 3 ps vs
      → Walk q w.trace (3 + length ps) (at_line w fn below k (AndStmt l.statement (before (fills_call start f code next piece lower ps) rest)) slots s)
      (at_line w fn below (suc (suc (suc k)) + length ps) rest (pointed_slots slots h.slot (next_block Frame s)) (alloc Frame (frame_cells (record { piece = piece; values = vs }) p Unset) s))
  calls_frame vs giving =
      let slots' = pointed_slots slots h.slot (next_block Frame s) in
      let left = before (map (gives_one f) ps) rest in
      let top = heads_frame q w fn g body below is_g k scope n left slots s to tag head code next piece start lower (length ps) l is_named is_size small t old h begins r r' params params' is_piece is_code t' v p is_next is_lower fits in
      rise_more (3 + length ps) (suc (suc (suc (length ps)))) (3 + length ps) _ _ (omega arith)
      (rise_then_level 3 (length ps) (suc (suc (suc (length ps)))) _ _ _ top.0 (gives_walk q w fn g body below is_g scope n rest slots' s f tag points 3 (suc (suc (suc k))) (Code piece ∷ p ∷ Unset ∷ []) ps vs refl giving top.1))

  -- or up to the first argument that faults
  pub calls_fault : (fault : Fault) → GivingFaults q scope (pointed_slots slots h.slot (next_block Frame s)) tag s fault 3 ps
      → FaultsAfter q w.trace fn fault (at_line w fn below k (AndStmt l.statement (before (fills_call start f code next piece lower ps) rest)) slots s)
  calls_fault fault giving =
      let slots' = pointed_slots slots h.slot (next_block Frame s) in
      let left = before (map (gives_one f) ps) rest in
      let top = heads_frame q w fn g body below is_g k scope n left slots s to tag head code next piece start lower (length ps) l is_named is_size small t old h begins r r' params params' is_piece is_code t' v p is_next is_lower fits in
      let tail = gives_fault q w fn g body below is_g scope n rest slots' s f tag points fault 3 (suc (suc (suc k))) (Code piece ∷ p ∷ Unset ∷ []) ps refl giving top.1 in
      record { steps = 3 + tail.steps; grown = suc (suc (suc (length ps))) + tail.grown; last = tail.last; leads = rise_append 3 tail.steps (suc (suc (suc (length ps)))) tail.grown _ _ _ top.0 tail.leads; faults = tail.faults }
