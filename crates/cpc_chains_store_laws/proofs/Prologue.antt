-- How a piece begins: it takes its frame, loads its fields, declares its locals, and gives the frame back.
use Rattle.std.proofs.Common.{◌≡◌, ℕ, suc, ◌+◌, false, cond, List, [], ◌∷◌, ◌++◌, length, map, slice_get, slice_set, bytes_eq, Some, None, refl, sym, ◌∙◌, ap, subst, codes, arith}
use Rattle.cpc_base.specs.Bytes.{Text}
use Rattle.cpc_tree.specs.Syntax.{Ty, TyPointer, TyStruct, ENamed, Declare, Stmts, AndStmt, Variable, Function, Program}
use Rattle.cpc_tree.specs.Typing.{Scope, ALocal, NotMeant, named, function_named}
use Rattle.cpc_tree.specs.Points.{Point}
use Rattle.cpc_store.specs.declared.values.Class.TheVariants.{Frame}
use Rattle.cpc_store.specs.Store.{Value, Unset, At, Store, blocks, with_blocks, cells_of}
use Rattle.cpc_meaning.specs.Eval.{Slot, Register}
use Rattle.cpc_meaning.specs.Plain.{Frame as CallFrame}
use Rattle.cpc_meaning.proofs.Functions.{text_same}
use Rattle.cpc_convert_flat_laws.specs.Flat.{before, Stands, LineAt}
use Rattle.cpc_convert_flat_laws.specs.Locals.{Holds, Load, loads_one, Loading, loaded_scope, blank, declares_one, declared_scope}
use Rattle.cpc_chains_store_laws.specs.Frames.{frees_frame, opens_frame, takes_frame, taken_scope}
use Rattle.cpc_convert_flat_laws.specs.Walks.{World, Rise, Walk, at_line}
use Rattle.cpc_convert_flat_laws.proofs.Fields.{held}
use Rattle.cpc_convert_flat_laws.proofs.Walks.{stay, rise_more, level_cons, rise_then_level}
use Rattle.cpc_convert_flat_laws.proofs.Flat.{passed}
use Rattle.cpc_convert_flat_laws.proofs.AtLine.{line_passed}
use Rattle.cpc_convert_flat_laws.proofs.LineSteps.{declares_step, frame_free_step}
use Rattle.cpc_chains_store_laws.proofs.Taking.{get_front, get_next, slots_length, not_hidden, local_step, loads_walk, past_loads}

-- ---- locals without a start

module _ (q : Program) (w : World) (fn : Text) (g : Function) (body : Stmts) (below : List (CallFrame Point)) (is_g : function_named q fn ≡ Some g) (rest : Stmts) (slots : List Slot) (s : Store) where
  -- a step for each
  pub declares_walk : (k : ℕ) (scope : Scope) (n : ℕ) (ds : List Variable) → Stands g body k scope n (before (map declares_one ds) rest)
      → Rise q w.trace (length ds) 0 (at_line w fn below k (before (map declares_one ds) rest) slots s) (at_line w fn below (k + length ds) rest slots s)
  declares_walk k scope n [] st = subst (λ j. Rise q w.trace 0 0 (at_line w fn below k rest slots s) (at_line w fn below j rest slots s)) (let z : k ≡ k + 0 = omega arith in z) (stay _)
  declares_walk k scope n (d ∷ ds) st =
      let left = before (map declares_one ds) rest in
      let inner : Scope = record { called = d.called; type = d.type; slot = n } ∷ scope in
      let st1 : Stands g body (suc k) inner (suc n) left = subst (λ m. Stands g body (suc k) inner m left) (let z : n + 1 ≡ suc n = omega arith in z) (passed g body k scope n (declares_one d) left st) in
      subst (λ j. Rise q w.trace (suc (length ds)) 0 (at_line w fn below k (AndStmt (declares_one d) left) slots s) (at_line w fn below j rest slots s)) (let z : suc k + length ds ≡ k + suc (length ds) = omega arith in z)
      (level_cons (length ds) 0 _ _ _ (declares_step q w fn g body below is_g k scope n left slots s d.called d.type st) (declares_walk (suc k) inner (suc n) ds st1))

-- the position behind them
pub past_declares : (g : Function) (body : Stmts) (k : ℕ) (scope : Scope) (n : ℕ) (rest : Stmts) (ds : List Variable) → Stands g body k scope n (before (map declares_one ds) rest)
    → Stands g body (k + length ds) (declared_scope scope n ds) (n + length ds) rest
past_declares g body k scope n rest [] st =
    subst (λ m. Stands g body (k + 0) scope m rest) (let z : n ≡ n + 0 = omega arith in z) (subst (λ j. Stands g body j scope n rest) (let z : k ≡ k + 0 = omega arith in z) st)
past_declares g body k scope n rest (d ∷ ds) st =
    let inner : Scope = record { called = d.called; type = d.type; slot = n } ∷ scope in
    let left = before (map declares_one ds) rest in
    let st1 : Stands g body (suc k) inner (suc n) left = subst (λ m. Stands g body (suc k) inner m left) (let z : n + 1 ≡ suc n = omega arith in z) (passed g body k scope n (declares_one d) left st) in
    let st2 = past_declares g body (suc k) inner (suc n) rest ds st1 in
    subst (λ m. Stands g body (k + suc (length ds)) (declared_scope inner (suc n) ds) m rest) (let z : suc n + length ds ≡ n + suc (length ds) = omega arith in z)
    (subst (λ j. Stands g body j (declared_scope inner (suc n) ds) (suc n + length ds) rest) (let z : suc k + length ds ≡ k + suc (length ds) = omega arith in z) st2)

-- ---- a whole beginning

-- a piece takes its frame: its locals have the values of the fields
module _ (q : Program) (w : World) (fn : Text) (g : Function) (body : Stmts) (below : List (CallFrame Point)) (is_g : function_named q fn ≡ Some g) (s : Store) (tag e k : Text) (b : ℕ) (cells : List Value) (live : cells_of Frame b s ≡ Some cells) (j : ℕ) (scope : Scope) (n : ℕ) (rest : Stmts) (ls : List Load) (ds : List Variable) (st : Stands g body j scope n (opens_frame k e tag ls ds rest)) where
  after_first : Stands g body (suc j) (record { called = e; type = TyPointer (TyStruct tag); slot = n } ∷ scope) (suc n) (before (map (loads_one e) ls) (before (map declares_one ds) rest))
  after_first =
      let left = before (map (loads_one e) ls) (before (map declares_one ds) rest) in
      subst (λ m. Stands g body (suc j) (record { called = e; type = TyPointer (TyStruct tag); slot = n } ∷ scope) m left) (let z : n + 1 ≡ suc n = omega arith in z)
      (passed g body j scope n (Declare e (TyPointer (TyStruct tag)) (Some (ENamed k))) left st)

  after_loads : Stands g body (suc j + length ls) (loaded_scope (record { called = e; type = TyPointer (TyStruct tag); slot = n } ∷ scope) (suc n) ls) (suc n + length ls) (before (map declares_one ds) rest)
  after_loads = past_loads g body e (suc j) _ (suc n) (before (map declares_one ds) rest) ls after_first

  -- the position behind its declarations
  pub past_opened : Stands g body (suc j + length ls + length ds) (taken_scope scope n e tag ls ds) (suc n + length ls + length ds) rest
  past_opened = past_declares g body (suc j + length ls) _ (suc n + length ls) rest ds after_loads

  module _ (done more : List Slot) (i : ℕ) (t : Ty) (vs : List Value) (len : length done ≡ n) (apart : bytes_eq e k ≡ false) (is_k : named q scope k ≡ ALocal i (TyPointer t)) (is_slot : slice_get done i ≡ Some (Register (At Frame b 0))) (loading : Loading q tag e cells ls vs) where
    pub opens_walk : Rise q w.trace (suc (length ls + length ds)) 0 (at_line w fn below j (opens_frame k e tag ls ds rest) (done ++ Register Unset ∷ blank (length ls) more) s)
        (at_line w fn below (suc j + length ls + length ds) rest (((done ++ Register (At Frame b 0) ∷ []) ++ map Register vs) ++ more) s)
    opens_walk =
        let p = At Frame b 0 in
        let inner : Scope = record { called = e; type = TyPointer (TyStruct tag); slot = n } ∷ scope in
        let slots = done ++ Register Unset ∷ blank (length ls) more in
        let loads = before (map (loads_one e) ls) (before (map declares_one ds) rest) in
        let done1 = done ++ Register p ∷ [] in
        let done2 = (done1 ++ map Register vs) ++ more in
        let h : Holds q inner slots k (TyPointer t) p = record { slot = i; is_local = not_hidden q scope e k (TyPointer (TyStruct tag)) (TyPointer t) n i apart is_k; is_slot = get_front done _ i (Register p) is_slot } in
        let first = local_step q w fn g body below is_g s j scope n loads done (blank (length ls) more) e (TyPointer (TyStruct tag)) (ENamed k) p p len st (held q inner slots s k (TyPointer t) p h) refl in
        let is_e : named q inner e ≡ ALocal n (TyPointer (TyStruct tag)) = ap (λ c. cond c (ALocal n (TyPointer (TyStruct tag))) (named q scope e)) (text_same e) in
        let is_e_slot : slice_get done1 n ≡ Some (Register p) = ap (slice_get done1) (sym len) ∙ get_next done [] (Register p) in
        let second = loads_walk q w fn g body below is_g s tag e b cells live (suc j) inner (suc n) (before (map declares_one ds) rest) done1 more n ls vs (slots_length done (Register p) ∙ ap suc len) is_e is_e_slot loading after_first in
        let third = declares_walk q w fn g body below is_g rest done2 s (suc j + length ls) _ (suc n + length ls) ds after_loads in
        level_cons (length ls + length ds) 0 _ _ _ first (rise_then_level (length ls) (length ds) 0 _ _ _ second third)

    -- the parameter still holds the pointer
    pub opened_pointer : slice_get (((done ++ Register (At Frame b 0) ∷ []) ++ map Register vs) ++ more) i ≡ Some (Register (At Frame b 0))
    opened_pointer =
        let p = At Frame b 0 in
        get_front ((done ++ Register p ∷ []) ++ map Register vs) more i (Register p) (get_front (done ++ Register p ∷ []) (map Register vs) i (Register p) (get_front done (Register p ∷ []) i (Register p) is_slot))

-- and gives it back: the frame's block is freed
module _ (q : Program) (w : World) (fn : Text) (g : Function) (body : Stmts) (below : List (CallFrame Point)) (is_g : function_named q fn ≡ Some g) (s : Store) (tag e k : Text) (b : ℕ) (cells : List Value) (live : cells_of Frame b s ≡ Some cells) (j : ℕ) (scope : Scope) (n : ℕ) (rest : Stmts) (ls : List Load) (ds : List Variable) (st : Stands g body j scope n (takes_frame k e tag ls ds rest)) where
  abbrev last_line : LineAt g body (suc j + length ls + length ds) (taken_scope scope n e tag ls ds) (suc n + length ls + length ds) (frees_frame k) rest
  last_line = record { statement = frees_frame k; stands = past_opened q w fn g body below is_g s tag e k b cells live j scope n (AndStmt (frees_frame k) rest) ls ds st; is_bare = refl; is_line = refl }

  -- the position behind it
  pub past_frame : Stands g body (suc (suc j + length ls + length ds)) (taken_scope scope n e tag ls ds) (suc n + length ls + length ds) rest
  past_frame = line_passed g body (suc j + length ls + length ds) (taken_scope scope n e tag ls ds) (suc n + length ls + length ds) (frees_frame k) rest last_line

  pub takes_walk : (done more : List Slot) (i : ℕ) (t : Ty) (vs : List Value) → length done ≡ n → bytes_eq e k ≡ false → named q scope k ≡ ALocal i (TyPointer t) → slice_get done i ≡ Some (Register (At Frame b 0)) → Loading q tag e cells ls vs
      → named q (taken_scope scope n e tag ls ds) k ≡ ALocal i (TyPointer t) → named q (taken_scope scope n e tag ls ds) (codes "rt_frame_free") ≡ NotMeant
      → Walk q w.trace (suc (length ls + length ds) + 1) (at_line w fn below j (takes_frame k e tag ls ds rest) (done ++ Register Unset ∷ blank (length ls) more) s)
      (at_line w fn below (suc (suc j + length ls + length ds)) rest (((done ++ Register (At Frame b 0) ∷ []) ++ map Register vs) ++ more) (with_blocks Frame (slice_set (blocks Frame s) b None) s))
  takes_walk done more i t vs len apart is_k is_slot loading is_k_there is_free =
      let p = At Frame b 0 in
      let final = ((done ++ Register p ∷ []) ++ map Register vs) ++ more in
      let opened = opens_walk q w fn g body below is_g s tag e k b cells live j scope n (AndStmt (frees_frame k) rest) ls ds st done more i t vs len apart is_k is_slot loading in
      let kept = opened_pointer q w fn g body below is_g s tag e k b cells live j scope n (AndStmt (frees_frame k) rest) ls ds st done more i t vs len apart is_k is_slot loading in
      let h : Holds q (taken_scope scope n e tag ls ds) final k (TyPointer t) p = record { slot = i; is_local = is_k_there; is_slot = kept } in
      let freed = frame_free_step q w fn g body below is_g (suc j + length ls + length ds) (taken_scope scope n e tag ls ds) (suc n + length ls + length ds) rest final s (ENamed k) last_line is_free b cells (held q (taken_scope scope n e tag ls ds) final s k (TyPointer t) p h) live in
      rise_more (suc (length ls + length ds) + 1) 0 (suc (length ls + length ds) + 1) _ _ (omega arith) (rise_then_level (suc (length ls + length ds)) 1 0 _ _ _ opened freed)
