-- The boxes of a call are made, one statement for each: the blocks and their numbers are those of the call.
use Rattle.std.proofs.Common.{◌≡◌, ℕ, zero, suc, ◌+◌, ◌<◌, ◌^◌, true, false, pos, List, [], ◌∷◌, length, slice_get, slice_set, replicate, Option, Some, None, is_some, refl, sym, ◌∙◌, ap, subst, codes, arith}
use Rattle.cpc_base.specs.Bytes.{Text}
use Rattle.cpc_tree.specs.Syntax.{Ty, TyPointer, TyStruct, Expr, ENamed, EArrow, Stmt, Stmts, AndStmt, Variable, Function, Program}
use Rattle.cpc_tree.specs.Lists.{first_or, rest_of}
use Rattle.cpc_tree.specs.Typing.{Scope, NotMeant, ALocal, named, function_named, field}
use Rattle.cpc_tree.specs.Points.{Point, Simple, Out}
use Rattle.cpc_store.specs.declared.values.Class.TheVariants.{Auto, Frame}
use Rattle.cpc_store.specs.Store.{Value, Unset, Whole, At, Store, blocks, with_blocks, next_block, alloc, cells_of}
use Rattle.cpc_meaning.specs.Answer.{Gives}
use Rattle.cpc_meaning.specs.Eval.{Slot, Register, Boxed, value, assigned}
use Rattle.cpc_meaning.specs.Act.{AtStatement, GoesOn, assign, simple_act}
use Rattle.cpc_meaning.specs.Runs.{slot_registers, slots_registers}
use Rattle.cpc_meaning_laws.proofs.Cell.Going.{going_on_keeps}
use Rattle.cpc_store.proofs.CellLemmas.{store_cells-alloc}
use Rattle.std.proofs.lemmas.List.{length-replicate}
use Rattle.cpc_num.specs.declared.kinds.Kind.TheVariants.{ULong}
use Rattle.cpc_meaning.specs.Slots.{first_cells, free_slots}
use Rattle.cpc_meaning.specs.Plain.{Frame as CallFrame}
use Rattle.cpc_meaning.proofs.Stores.{get_set, get_other, set_last, alloc_cells, save_there}
use Rattle.cpc_convert_flat_laws.specs.Flat.{before, standing, is_test, onward, Stands, LineAt}
use Rattle.cpc_convert_flat_laws.specs.Walks.{World, at_line, Swell}
use Rattle.cpc_convert_flat_laws.specs.Locals.{Holds, at}
use Rattle.cpc_convert_flat_laws.specs.Boxes.{boxes_one, fills_box, AllRegisters, NoSlot, AndSlot, with_boxes, Boxing, NoBoxing, PassRegister, BoxLocal, BoxParameter, Made}
use Rattle.cpc_convert_flat_laws.proofs.Fields.{named_pointer, within, field_value}
use Rattle.cpc_convert_flat_laws.proofs.Walks.{swell_stay, swell_cons}
use Rattle.cpc_convert_flat_laws.proofs.AtLine.{line_passed}
use Rattle.cpc_convert_flat_laws.proofs.LineSteps.{line_level, box_step}

-- ---- registers

-- a register stays one
register_kept : (slots : List Slot) (k : ℕ) (v w : Value) → slice_get slots k ≡ Some (Register v) → slots_registers (slice_set slots k (Register w)) ≡ slots_registers slots
register_kept [] k v w e = refl
register_kept (slot ∷ slots) zero v w e = let h : slot ≡ Register v = cc in ap (λ x. slot_registers x + slots_registers slots) (sym h)
register_kept (slot ∷ slots) (suc k) v w e = ap (λ n. slot_registers slot + n) (register_kept slots k v w e)

-- a register that is there
pub register_at : (slots : List Slot) (i : ℕ) → AllRegisters slots → i < length slots → (v : Value) × (slice_get slots i ≡ Some (Register v))
register_at _ i NoSlot h = absurd (omega arith)
register_at _ zero (AndSlot v slots more) h = (v, refl)
register_at _ (suc i) (AndSlot v slots more) h = register_at slots i more (omega arith)

pub registers_set : (slots : List Slot) (i : ℕ) (v : Value) → AllRegisters slots → AllRegisters (slice_set slots i (Register v))
registers_set _ i v NoSlot = NoSlot
registers_set _ zero v (AndSlot u slots more) = AndSlot v slots more
registers_set _ (suc i) v (AndSlot u slots more) = AndSlot u _ (registers_set slots i v more)

-- registers have no blocks
pub free_all : (slots : List Slot) (s : Store) → AllRegisters slots → free_slots slots s ≡ Gives s
free_all _ s NoSlot = refl
free_all _ s (AndSlot v slots more) = free_all slots s more

pub slots_length : (slots : List Slot) (i : ℕ) (x : Slot) → length (slice_set slots i x) ≡ length slots
slots_length [] i x = refl
slots_length (y ∷ slots) zero x = refl
slots_length (y ∷ slots) (suc i) x = ap suc (slots_length slots i x)

-- ---- one box

-- the block of a local has unset cells
unset_cells : (m : ℕ) → replicate m Unset ≡ first_cells m Unset
unset_cells zero = refl
unset_cells (suc m) = refl

-- other cells in the newest box
set_box : (cells cells' : List Value) (s : Store) → with_blocks Auto (slice_set (blocks Auto (alloc Auto cells s)) (next_block Auto s) (Some cells')) (alloc Auto cells s) ≡ alloc Auto cells' s
set_box cells cells' s = ap (λ bs. with_blocks Auto bs s) (set_last (blocks Auto s) (Some cells) (Some cells'))

module _ (q : Program) (scope : Scope) (slots : List Slot) (s : Store) where
  -- a value is written to the first field of the newest box
  box_assign : (y a box : Text) (t : Ty) (m : ℕ) (u v : Value) → Holds q scope slots y (TyPointer (TyStruct box)) (At Auto (next_block Auto s) 0) → field q box a ≡ Some (0, t) → assigned t u ≡ Gives v
      → assign (at q scope slots (alloc Auto (replicate (suc m) Unset) s)) (EArrow (ENamed y) a) u ≡ Gives (slots, alloc Auto (first_cells (suc m) v) s)
  box_assign y a box t m u v h is_field fits =
      let cells = replicate (suc m) Unset in
      let made = alloc Auto cells s in
      let is_live = alloc_cells Auto cells s in
      let first = within cells Auto (next_block Auto s) 0 (let z : 0 < suc (length (replicate m Unset)) = omega arith in z) in
      let saves = save_there Auto (next_block Auto s) 0 v made cells is_live refl in
      let same = set_box cells (first_cells (suc m) v) s in
      simp (h.is_local, h.is_slot, is_field, is_live, first, fits, saves) (ap (λ r. Gives (slots, r)) same)

-- ---- all boxes

module _ (p : Program) (f : Function) (q : Program) (w : World) (fn : Text) (g : Function) (body : Stmts) (below : List (CallFrame Point)) (is_g : function_named q fn ≡ Some g) (scope : Scope) (c : ℕ) (rest : Stmts) (count frame : ℕ) (tag e : Text) (b : ℕ) (cells : List Value) (is_box : named q scope (codes "rt_box") ≡ NotMeant) (is_frame : named q scope e ≡ ALocal frame (TyPointer (TyStruct tag))) where
  -- from before these statements to behind them
  abbrev pub Boxes : ℕ → List Stmt → List Slot → Store → List Slot → Store → Type 0
  Boxes k ss slots s slots' s' = Swell q w.trace (length ss) (at_line w fn below k (before ss rest) slots s) (at_line w fn below (k + length ss) rest slots' s')

  -- a box is made
  box_swells : (k : ℕ) (y : Text) (amount : Expr) (m : ℕ) (left : Stmts) (slots : List Slot) (s : Store) (t : Ty) (old : Value) (h : Holds q scope slots y (TyPointer t) old) (l : LineAt g body k scope c (boxes_one y amount) left)
      → value (at q scope slots s) amount ≡ Gives (Whole ULong (pos m)) → m < 2 ^ 63
      → Swell q w.trace 1 (at_line w fn below k (AndStmt l.statement left) slots s) (at_line w fn below (suc k) left (slice_set slots h.slot (Register (At Auto (next_block Auto s) 0))) (alloc Auto (replicate m Unset) s))
  box_swells k y amount m left slots s t old h l is_amount small = record {
    grown = m;
    rise = box_step q w fn g body below is_g k scope c left slots s y amount l is_box m is_amount small t old h;
    full =
        let a = store_cells-alloc Auto (replicate m Unset) s in
        let b = length-replicate {A = Value} m Unset in
        let d = register_kept slots h.slot old (At Auto (next_block Auto s) 0) h.is_slot in
        omega (arith, a, b, d);
  }

  -- a field is filled
  fill_swells : (k : ℕ) (x : Stmt) (left : Stmts) (slots : List Slot) (s t : Store) (l : LineAt g body k scope c x left) → standing x ≡ Simple x → is_test x ≡ false → onward x ≡ Out → simple_act (at q scope slots s) g.result x ≡ Gives (GoesOn true t slots)
      → Swell q w.trace 1 (at_line w fn below k (AndStmt l.statement left) slots s) (at_line w fn below (suc k) left slots t)
  fill_swells k x left slots s t l stands no_test out act = record {
    grown = 0;
    rise = line_level q w fn g body below is_g k scope c left slots s x l stands no_test out t slots act;
    full = let a = (going_on_keeps (at q scope slots s) g.result None (AtStatement (Simple x)) true t slots act).0 in omega (arith, a);
  }

  more_boxes : (k : ℕ) (x : Stmt) (ss : List Stmt) (slots slots1 slots2 : List Slot) (s s1 s2 : Store)
      → Swell q w.trace 1 (at_line w fn below k (AndStmt x (before ss rest)) slots s) (at_line w fn below (suc k) (before ss rest) slots1 s1)
      → Boxes (suc k) ss slots1 s1 slots2 s2 → Boxes k (x ∷ ss) slots s slots2 s2
  more_boxes k x ss slots slots1 slots2 s s1 s2 first others =
      let start = at_line w fn below k (AndStmt x (before ss rest)) slots s in
      subst (λ j. Swell q w.trace (suc (length ss)) start (at_line w fn below j rest slots2 s2)) (let z : suc k + length ss ≡ k + suc (length ss) = omega arith in z) (swell_cons (length ss) _ _ _ first others)

  pub boxes_walk : (k n : ℕ) (xs : List Variable) (vs : List Value) (places : List (Option ℕ)) (ss : List Stmt) (slots : List Slot) (s : Store) → Boxing p f q scope count frame tag e cells n xs vs places ss
      → AllRegisters slots → length slots ≡ count → slice_get slots frame ≡ Some (Register (At Frame b 0)) → cells_of Frame b s ≡ Some cells → Stands g body k scope c (before ss rest)
      → Made p f n xs vs places slots s (Boxes k ss slots s)
  boxes_walk k n _ _ _ _ slots s (NoBoxing _ vs) all len is_slot live st = record {
    made = [];
    store = s;
    is_made = refl;
    leads = subst (λ j. Swell q w.trace 0 (at_line w fn below k rest slots s) (at_line w fn below j rest slots s)) (let z : k ≡ k + 0 = omega arith in z) (swell_stay _);
  }
  boxes_walk k n _ _ _ _ slots s (PassRegister _ m x xs vs places ss is_reg is_size more) all len is_slot live st =
      let m' = boxes_walk k (suc n) xs (rest_of vs) places ss slots s more all len is_slot live st in
      record { made = Register (first_or Unset vs) ∷ m'.made; store = m'.store; is_made = let e = m'.is_made in simp (is_size, is_reg, e) refl; leads = m'.leads }
  boxes_walk k n _ _ _ _ slots s (BoxLocal _ m i x xs vs places ss y t amount no_reg is_size small is_y inside apart is_amount unset more) all len is_slot live st =
      let left = before ss rest in
      let old = register_at slots i all (let z : i < length slots = omega (arith, inside, len) in z) in
      let h : Holds q scope slots y (TyPointer t) old.0 = record { slot = i; is_local = is_y; is_slot = old.1 } in
      let l : LineAt g body k scope c (boxes_one y amount) left = record { statement = boxes_one y amount; stands = st; is_bare = refl; is_line = refl } in
      let s1 = alloc Auto (replicate m Unset) s in
      let slots1 = slice_set slots i (Register (At Auto (next_block Auto s) 0)) in
      let first = box_swells k y amount m left slots s t old.0 h l (is_amount slots s) small in
      let m' = boxes_walk (suc k) (suc n) xs (rest_of vs) places ss slots1 s1 more (registers_set slots i _ all) (slots_length slots i _ ∙ len) (get_other slots i frame (Register (At Auto (next_block Auto s) 0)) apart ∙ is_slot) live (line_passed g body k scope c (boxes_one y amount) left l) in
      record {
        made = Boxed (next_block Auto s) ∷ m'.made;
        store = m'.store;
        is_made = let e = m'.is_made in let same : first_cells m (first_or Unset vs) ≡ replicate m Unset = ap (first_cells m) unset ∙ sym (unset_cells m) in simp (is_size, no_reg, same, e) refl;
        leads = more_boxes k (boxes_one y amount) ss slots slots1 (with_boxes places m'.made slots1) s s1 m'.store first m'.leads;
      }
  boxes_walk k n _ _ _ _ slots s (BoxParameter _ m i j x xs v vs places ss y a box z t amount no_reg is_size small is_y is_first inside apart is_amount is_field sc is_cell fits more) all len is_slot live st =
      let left = before ss rest in
      let left1 = AndStmt (fills_box y a e z) left in
      let old = register_at slots i all (let z : i < length slots = omega (arith, inside, len) in z) in
      let h : Holds q scope slots y (TyPointer (TyStruct box)) old.0 = record { slot = i; is_local = is_y; is_slot = old.1 } in
      let l : LineAt g body k scope c (boxes_one y amount) left1 = record { statement = boxes_one y amount; stands = st; is_bare = refl; is_line = refl } in
      let new = Register (At Auto (next_block Auto s) 0) in
      let s1 = alloc Auto (replicate (suc m) Unset) s in
      let s2 = alloc Auto (first_cells (suc m) v) s in
      let slots1 = slice_set slots i new in
      let first = box_swells k y amount (suc m) left1 slots s (TyStruct box) old.0 h l (is_amount slots s) small in
      let st1 = line_passed g body k scope c (boxes_one y amount) left1 l in
      let l1 : LineAt g body (suc k) scope c (fills_box y a e z) left = record { statement = fills_box y a e z; stands = st1; is_bare = refl; is_line = refl } in
      let h1 : Holds q scope slots1 y (TyPointer (TyStruct box)) (At Auto (next_block Auto s) 0) = record { slot = i; is_local = is_y; is_slot = get_set slots i new (ap is_some old.1) } in
      let is_slot1 = get_other slots i frame new apart ∙ is_slot in
      let he : Holds q scope slots1 e (TyPointer (TyStruct tag)) (At Frame b 0) = record { slot = frame; is_local = is_frame; is_slot = is_slot1 } in
      let is_value = field_value q scope slots1 s1 (ENamed e) tag b (named_pointer q scope slots1 s1 e tag b he) cells live z j t is_field v sc is_cell fits in
      let is_assign = box_assign q scope slots1 s y a box t m v v h1 is_first fits in
      let act : simple_act (at q scope slots1 s1) g.result (fills_box y a e z) ≡ Gives (GoesOn true s2 slots1) = simp (is_value, is_assign) refl in
      let second = fill_swells (suc k) (fills_box y a e z) left slots1 s1 s2 l1 refl refl refl act in
      let m' = boxes_walk (suc (suc k)) (suc n) xs vs places ss slots1 s2 more (registers_set slots i _ all) (slots_length slots i _ ∙ len) is_slot1 live (line_passed g body (suc k) scope c (fills_box y a e z) left l1) in
      let slots2 = with_boxes places m'.made slots1 in
      record {
        made = Boxed (next_block Auto s) ∷ m'.made;
        store = m'.store;
        is_made = let e = m'.is_made in simp (is_size, no_reg, e) refl;
        leads = more_boxes k (boxes_one y amount) (fills_box y a e z ∷ ss) slots slots1 slots2 s s1 m'.store first
            (more_boxes (suc k) (fills_box y a e z) ss slots1 slots1 slots2 s1 s2 m'.store second m'.leads);
      }
