-- A frame is made: a new block with the code of its piece, the frame below, and the values of variables.
use Rattle.std.proofs.Common.{◌≡◌, ℕ, suc, ◌+◌, ◌<◌, ◌^◌, true, List, [], ◌∷◌, ◌++◌, length, map, slice_set, replicate, Some, None, is_some, refl, sym, ◌∙◌, ap, subst, codes, arith}
use Rattle.cpc_base.specs.Bytes.{Text}
use Rattle.cpc_tree.specs.declared.program.Mode.TheVariants.{Native}
use Rattle.cpc_tree.specs.Syntax.{Ty, TyPointer, TyCode, TyStruct, Tys, Expr, ENamed, EArrow, Assign, Stmts, AndStmt, Function, Program}
use Rattle.cpc_tree.specs.Typing.{Scope, NotMeant, AFunction, named, function_named, field, size}
use Rattle.cpc_tree.specs.Points.{Point}
use Rattle.cpc_store.specs.declared.values.Class.TheVariants.{Frame}
use Rattle.cpc_store.specs.Store.{Value, Unset, Code, Store, blocks, with_blocks, next_block, alloc}
use Rattle.cpc_meaning.specs.Answer.{Gives}
use Rattle.cpc_meaning.specs.Eval.{Slot, Register, value, assigned}
use Rattle.cpc_meaning.specs.Plain.{Frame as CallFrame}
use Rattle.cpc_meaning.proofs.Stores.{get_set, get_other, set_last, alloc_cells}
use Rattle.cpc_chains_store_laws.specs.Chains.{frame_cells}
use Rattle.cpc_convert_flat_laws.specs.Flat.{before, Stands, LineAt}
use Rattle.cpc_convert_flat_laws.specs.Walks.{World, at_line, Rise, Walk}
use Rattle.cpc_convert_flat_laws.specs.Locals.{at, PointsTo, Save, saves_one, Holds, Saving, NoSaving, AndSaving}
use Rattle.cpc_chains_store_laws.specs.Frames.{pointed_slots, asks_block, fills_frame}
use Rattle.cpc_convert_flat_laws.proofs.Fields.{held}
use Rattle.cpc_convert_flat_laws.proofs.Walks.{stay, rise_steps, rise_then_level, level_cons}
use Rattle.cpc_convert_flat_laws.proofs.AtLine.{line_passed}
use Rattle.cpc_convert_flat_laws.proofs.Scopes.{all_lines, past_lines}
use Rattle.cpc_convert_flat_laws.proofs.LineSteps.{frame_step, field_step}

-- ---- the newest block

-- other cells in the newest block
pub set_new : (cells cells' : List Value) (s : Store) → with_blocks Frame (slice_set (blocks Frame (alloc Frame cells s)) (next_block Frame s) (Some cells')) (alloc Frame cells s) ≡ alloc Frame cells' s
set_new cells cells' s = ap (λ bs. with_blocks Frame bs s) (set_last (blocks Frame s) (Some cells) (Some cells'))

set_at : (done : List Value) (old v : Value) (more : List Value) → slice_set (done ++ old ∷ more) (length done) v ≡ (done ++ v ∷ []) ++ more
set_at [] old v more = refl
set_at (x ∷ done) old v more = ap (λ xs. x ∷ xs) (set_at done old v more)

front_within : (done : List Value) (old : Value) (more : List Value) → length done < length (done ++ old ∷ more)
front_within [] old more = omega arith
front_within (x ∷ done) old more = let h = front_within done old more in omega (arith, h)

pub append_one : (done : List Value) (v : Value) (more : List Value) → (done ++ v ∷ []) ++ more ≡ done ++ v ∷ more
append_one [] v more = refl
append_one (x ∷ done) v more = ap (λ xs. x ∷ xs) (append_one done v more)

pub length_one : (done : List Value) (v : Value) → length (done ++ v ∷ []) ≡ suc (length done)
length_one [] v = refl
length_one (x ∷ done) v = ap suc (length_one done v)

-- a variable in another slot than the one that is set
pub holds_set : (q : Program) (scope : Scope) (slots : List Slot) (x : Text) (t : Ty) (v : Value) (i : ℕ) (new : Slot) → (h : Holds q scope slots x t v) → ¬ (i ≡ h.slot) → Holds q scope (slice_set slots i new) x t v
holds_set q scope slots x t v i new h other = record { slot = h.slot; is_local = h.is_local; is_slot = get_other slots i h.slot new other ∙ h.is_slot }

-- the variable in the slot that is set
pub holds_new : (q : Program) (scope : Scope) (slots : List Slot) (x : Text) (t : Ty) (v w : Value) → (h : Holds q scope slots x t v) → Holds q scope (slice_set slots h.slot (Register w)) x t w
holds_new q scope slots x t v w h = record { slot = h.slot; is_local = h.is_local; is_slot = get_set slots h.slot (Register w) (ap is_some h.is_slot) }

-- ---- saves

module _ (q : Program) (w : World) (fn : Text) (g : Function) (body : Stmts) (below : List (CallFrame Point)) (is_g : function_named q fn ≡ Some g) (scope : Scope) (n : ℕ) (rest : Stmts) (slots : List Slot) (s : Store) where
  -- a store that is the same
  at_store : (k j i : ℕ) (left : Stmts) (slots' : List Slot) (r t u : Store) → t ≡ u → Rise q w.trace i 0 (at_line w fn below k left slots r) (at_line w fn below j rest slots' t) → Rise q w.trace i 0 (at_line w fn below k left slots r) (at_line w fn below j rest slots' u)
  at_store k j i left slots' r t u e walk = subst (λ x. Rise q w.trace i 0 (at_line w fn below k left slots r) (at_line w fn below j rest slots' x)) e walk

module _ (q : Program) (w : World) (fn : Text) (g : Function) (body : Stmts) (below : List (CallFrame Point)) (is_g : function_named q fn ≡ Some g) (scope : Scope) (n : ℕ) (rest : Stmts) (slots : List Slot) (s : Store) (f : Expr) (tag : Text) (points : (t : Store) → PointsTo q scope slots t f tag (next_block Frame s)) where
  -- one value is written to the newest block
  pub new_field_step : (k : ℕ) (y : Text) (v : Expr) (left : Stmts) → Stands g body k scope n (AndStmt (Assign (EArrow f y) None v) left)
      → (done : List Value) (more : List Value) (old : Value) (t : Ty) (u v' : Value) → field q tag y ≡ Some (length done, t)
      → value (at q scope slots (alloc Frame (done ++ old ∷ more) s)) v ≡ Gives u → assigned t u ≡ Gives v'
      → Rise q w.trace 1 0 (at_line w fn below k (AndStmt (Assign (EArrow f y) None v) left) slots (alloc Frame (done ++ old ∷ more) s))
      (at_line w fn below (suc k) left slots (alloc Frame ((done ++ v' ∷ []) ++ more) s))
  new_field_step k y v left st done more old t u v' is_field is_value is_assigned =
      let cells = done ++ old ∷ more in
      let made = alloc Frame cells s in
      at_store q w fn g body below is_g scope n left slots s k (suc k) 1 (AndStmt (Assign (EArrow f y) None v) left) slots made
      (with_blocks Frame (slice_set (blocks Frame made) (next_block Frame s) (Some (slice_set cells (length done) v'))) made) (alloc Frame ((done ++ v' ∷ []) ++ more) s)
      (set_new cells (slice_set cells (length done) v') s ∙ ap (λ xs. alloc Frame xs s) (set_at done old v' more))
      (field_step q w fn g body below is_g k scope n left slots made f v y (record { statement = Assign (EArrow f y) None v; stands = st; is_bare = refl; is_line = refl }) tag (next_block Frame s) (points made) cells (alloc_cells Frame cells s)
      (length done) t is_field (front_within done old more) u v' is_value is_assigned)

  -- as many steps as there are variables
  pub saves_walk : (i k : ℕ) (done : List Value) (ps : List Save) (vs : List Value) → i ≡ length done → Saving q scope slots tag i ps vs → Stands g body k scope n (before (map (saves_one f) ps) rest)
      → Rise q w.trace (length ps) 0 (at_line w fn below k (before (map (saves_one f) ps) rest) slots (alloc Frame (done ++ replicate (length ps) Unset) s))
      (at_line w fn below (k + length ps) rest slots (alloc Frame (done ++ vs) s))
  saves_walk _ k done _ _ e (NoSaving _) st =
      subst (λ j. Rise q w.trace 0 0 (at_line w fn below k rest slots (alloc Frame (done ++ []) s)) (at_line w fn below j rest slots (alloc Frame (done ++ []) s))) (let z : k ≡ k + 0 = omega arith in z) (stay _)
  saves_walk _ k done _ _ e (AndSaving i p t u v ps vs is_field h fits more) st =
      let left = before (map (saves_one f) ps) rest in
      let made = alloc Frame (done ++ Unset ∷ replicate (length ps) Unset) s in
      let l : LineAt g body k scope n (saves_one f p) left = record { statement = saves_one f p; stands = st; is_bare = refl; is_line = refl } in
      let first = new_field_step k p.field (ENamed p.variable) left st done (replicate (length ps) Unset) Unset t v v (is_field ∙ ap (λ j. Some (j, t)) e) (held q scope slots made p.variable u v h) fits in
      let others = saves_walk (suc i) (suc k) (done ++ v ∷ []) ps vs (ap suc e ∙ sym (length_one done v)) more (line_passed g body k scope n (saves_one f p) left l) in
      let start = at_line w fn below k (AndStmt (saves_one f p) left) slots made in
      subst (λ xs. Rise q w.trace (suc (length ps)) 0 start (at_line w fn below (k + suc (length ps)) rest slots (alloc Frame xs s))) (append_one done v vs)
      (subst (λ j. Rise q w.trace (suc (length ps)) 0 start (at_line w fn below j rest slots (alloc Frame ((done ++ v ∷ []) ++ vs) s))) (let z : suc k + length ps ≡ k + suc (length ps) = omega arith in z)
      (level_cons (length ps) 0 _ _ _ first others))

-- ---- a whole frame

module _ (q : Program) (w : World) (fn : Text) (g : Function) (body : Stmts) (below : List (CallFrame Point)) (is_g : function_named q fn ≡ Some g) (k : ℕ) (scope : Scope) (n : ℕ) (rest : Stmts) (slots : List Slot) (s : Store) where
  -- a new frame block of a piece, over the frame below, with so many fields that hold nothing yet
  pub heads_frame : (to tag head code next piece : Text) (start lower : Expr) (m : ℕ) (l : LineAt g body k scope n (asks_block to tag) (AndStmt (Assign (EArrow start code) None (ENamed piece)) (AndStmt (Assign (EArrow start next) None lower) rest)))
      → named q scope (codes "rt_frame") ≡ NotMeant → size q (TyStruct tag) ≡ Some (suc (suc (suc m))) → suc (suc (suc m)) < 2 ^ 63
      → (t : Ty) (old : Value) (h : Holds q scope slots to (TyPointer t) old)
      → ((u : Store) → PointsTo q scope (pointed_slots slots h.slot (next_block Frame s)) u start head (next_block Frame s))
      → (r r' : Ty) (params : List Ty) (params' : Tys) → named q scope piece ≡ AFunction Native r params → field q head code ≡ Some (0, TyCode r' params')
      → (t' : Ty) (v p : Value) → field q head next ≡ Some (1, t') → ((u : Store) → value (at q scope (pointed_slots slots h.slot (next_block Frame s)) u) lower ≡ Gives v) → assigned t' v ≡ Gives p
      → Rise q w.trace 3 (suc (suc (suc m))) (at_line w fn below k (AndStmt l.statement (AndStmt (Assign (EArrow start code) None (ENamed piece)) (AndStmt (Assign (EArrow start next) None lower) rest))) slots s)
      (at_line w fn below (suc (suc (suc k))) rest (pointed_slots slots h.slot (next_block Frame s)) (alloc Frame (Code piece ∷ p ∷ Unset ∷ replicate m Unset) s))
      × Stands g body (suc (suc (suc k))) scope n rest
  heads_frame to tag head code next piece start lower m l is_named is_size small t old h points r r' params params' is_piece is_code t' v p is_next is_lower fits =
      let slots' = pointed_slots slots h.slot (next_block Frame s) in
      let left1 = AndStmt (Assign (EArrow start next) None lower) rest in
      let left0 = AndStmt (Assign (EArrow start code) None (ENamed piece)) left1 in
      let blanks = replicate m Unset in
      let st0 = line_passed g body k scope n (asks_block to tag) left0 l in
      let st1 = line_passed g body (suc k) scope n (Assign (EArrow start code) None (ENamed piece)) left1 (record { statement = Assign (EArrow start code) None (ENamed piece); stands = st0; is_bare = refl; is_line = refl }) in
      let st2 = line_passed g body (suc (suc k)) scope n (Assign (EArrow start next) None lower) rest (record { statement = Assign (EArrow start next) None lower; stands = st1; is_bare = refl; is_line = refl }) in
      let made = frame_step q w fn g body below is_g k scope n left0 slots s to tag l is_named (suc (suc (suc m))) is_size small t old h in
      let coded = new_field_step q w fn g body below is_g scope n rest slots' s start head points (suc k) code (ENamed piece) left1 st0 [] (Unset ∷ Unset ∷ blanks) Unset (TyCode r' params') (Code piece) (Code piece) is_code (simp (is_piece) refl) refl in
      let linked = new_field_step q w fn g body below is_g scope n rest slots' s start head points (suc (suc k)) next lower rest st1 (Code piece ∷ []) (Unset ∷ blanks) Unset t' v p is_next (is_lower _) fits in
      (rise_steps (1 + 2) 3 (suc (suc (suc m))) _ _ (omega arith) (rise_then_level 1 2 (suc (suc (suc m))) _ _ _ made (level_cons 1 0 _ _ _ coded linked)), st2)

module _ (q : Program) (w : World) (fn : Text) (g : Function) (body : Stmts) (below : List (CallFrame Point)) (is_g : function_named q fn ≡ Some g) (k : ℕ) (scope : Scope) (n : ℕ) (rest : Stmts) (slots : List Slot) (s : Store) where
  -- a new frame block of a piece, over the frame below, with the values of these variables
  pub makes_frame : (to tag head code next piece : Text) (start f lower : Expr) (ps : List Save) (vs : List Value) (l : LineAt g body k scope n (asks_block to tag) (before (fills_frame start f code next piece lower ps) rest))
      → named q scope (codes "rt_frame") ≡ NotMeant → size q (TyStruct tag) ≡ Some (suc (suc (suc (length ps)))) → suc (suc (suc (length ps))) < 2 ^ 63
      → (t : Ty) (old : Value) (h : Holds q scope slots to (TyPointer t) old)
      → ((u : Store) → PointsTo q scope (pointed_slots slots h.slot (next_block Frame s)) u start head (next_block Frame s)) → ((u : Store) → PointsTo q scope (pointed_slots slots h.slot (next_block Frame s)) u f tag (next_block Frame s))
      → (r r' : Ty) (params : List Ty) (params' : Tys) → named q scope piece ≡ AFunction Native r params → field q head code ≡ Some (0, TyCode r' params')
      → (t' : Ty) (v p : Value) → field q head next ≡ Some (1, t') → ((u : Store) → value (at q scope (pointed_slots slots h.slot (next_block Frame s)) u) lower ≡ Gives v) → assigned t' v ≡ Gives p
      → Saving q scope (pointed_slots slots h.slot (next_block Frame s)) tag 3 ps vs
      → Walk q w.trace (suc (suc (suc (length ps)))) (at_line w fn below k (AndStmt l.statement (before (fills_frame start f code next piece lower ps) rest)) slots s)
      (at_line w fn below (suc (suc (suc k)) + length ps) rest (pointed_slots slots h.slot (next_block Frame s)) (alloc Frame (frame_cells (record { piece = piece; values = vs }) p Unset) s))
  makes_frame to tag head code next piece start f lower ps vs l is_named is_size small t old h begins points r r' params params' is_piece is_code t' v p is_next is_lower fits saving =
      let slots' = pointed_slots slots h.slot (next_block Frame s) in
      let left = before (map (saves_one f) ps) rest in
      let top = heads_frame q w fn g body below is_g k scope n left slots s to tag head code next piece start lower (length ps) l is_named is_size small t old h begins r r' params params' is_piece is_code t' v p is_next is_lower fits in
      let saved = saves_walk q w fn g body below is_g scope n rest slots' s f tag points 3 (suc (suc (suc k))) (Code piece ∷ p ∷ Unset ∷ []) ps vs refl saving top.1 in
      rise_steps (3 + length ps) (suc (suc (suc (length ps)))) (suc (suc (suc (length ps)))) _ _ (let z : 3 + length ps ≡ suc (suc (suc (length ps))) = omega arith in z) (rise_then_level 3 (length ps) (suc (suc (suc (length ps)))) _ _ _ top.0 saved)

-- ---- the position behind a new frame

saves_lines : (f : Expr) (ps : List Save) → all_lines (map (saves_one f) ps) ≡ true
saves_lines f [] = refl
saves_lines f (p ∷ ps) = saves_lines f ps

pub past_made : (g : Function) (body : Stmts) (k : ℕ) (scope : Scope) (n : ℕ) (rest : Stmts) (to tag code next piece : Text) (start f lower : Expr) (ps : List Save) → LineAt g body k scope n (asks_block to tag) (before (fills_frame start f code next piece lower ps) rest)
    → Stands g body (suc (suc (suc k)) + length ps) scope n rest
past_made g body k scope n rest to tag code next piece start f lower ps l =
    let left = before (map (saves_one f) ps) rest in
    let left1 = AndStmt (Assign (EArrow start next) None lower) left in
    let left0 = AndStmt (Assign (EArrow start code) None (ENamed piece)) left1 in
    let st0 = line_passed g body k scope n (asks_block to tag) left0 l in
    let st1 = line_passed g body (suc k) scope n (Assign (EArrow start code) None (ENamed piece)) left1 (record { statement = Assign (EArrow start code) None (ENamed piece); stands = st0; is_bare = refl; is_line = refl }) in
    let st2 = line_passed g body (suc (suc k)) scope n (Assign (EArrow start next) None lower) left (record { statement = Assign (EArrow start next) None lower; stands = st1; is_bare = refl; is_line = refl }) in
    subst (λ m. Stands g body m scope n rest) (let z : suc (suc (suc k)) + length (map (saves_one f) ps) ≡ suc (suc (suc k)) + length ps = ap (λ i. suc (suc (suc k)) + i) (same_length ps) in z)
    (past_lines g body (suc (suc (suc k))) scope n (map (saves_one f) ps) rest (saves_lines f ps) st2)
  where
    same_length : (ps : List Save) → length (map (saves_one f) ps) ≡ length ps
    same_length [] = refl
    same_length (p ∷ ps) = ap suc (same_length ps)
