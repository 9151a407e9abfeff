-- The laws of boxes and of frame blocks, as statements.
use Rattle.std.specs.Prelude.{◌≡◌, ℕ, ◌+◌, List, length, map, slice_get, Option, Some, codes, ◌<◌, [], ◌∷◌, ◌++◌, slice_set, None}
use Rattle.cpc_base.specs.Bytes.{Text}
use Rattle.cpc_num.specs.declared.kinds.Fault.{Fault}
use Rattle.cpc_tree.specs.Syntax.{TyPointer, TyStruct, Stmt, Stmts, Variable, Function, Program}
use Rattle.cpc_tree.specs.Typing.{Scope, ALocal, NotMeant, named, function_named}
use Rattle.cpc_tree.specs.Points.{Point}
use Rattle.cpc_store.specs.declared.values.Class.TheVariants.{Frame}
use Rattle.cpc_store.specs.Store.{Value, At, Store, cells_of, Blocks}
use Rattle.cpc_meaning.specs.Answer.{Gives, Faults, ◌>>=◌}
use Rattle.cpc_meaning.specs.Eval.{Slot, Register}
use Rattle.cpc_meaning.specs.Slots.{free_slots, make_slots}
use Rattle.cpc_meaning.specs.Plain.{Frame as CallFrame}
use Rattle.cpc_convert_flat_laws.specs.Flat.{before, Stands}
use Rattle.cpc_convert_flat_laws.specs.Walks.{World, Walk, Swell, at_line, FaultsAfter}
use Rattle.cpc_convert_flat_laws.specs.Boxes.{AllRegisters, Boxing, Made, Unboxing, unboxes_one}
use Rattle.cpc_convert_flat_laws.specs.Blocks.{beside, moved, count, Owns}

-- the boxes of a call are made as the call makes them: the same blocks, and a pointer to each; a step for each statement
abbrev pub BoxesAreMade : Type 0
BoxesAreMade =
    (p : Program) (f : Function) (q : Program) (w : World) (fn : Text) (g : Function) (body : Stmts) (below : List (CallFrame Point)) (is_g : function_named q fn ≡ Some g) (scope : Scope) (c : ℕ) (rest : Stmts) (count frame : ℕ) (tag e : Text) (b : ℕ) (cells : List Value)
    (is_box : named q scope (codes "rt_box") ≡ NotMeant) (is_frame : named q scope e ≡ ALocal frame (TyPointer (TyStruct tag)))
    (k n : ℕ) (xs : List Variable) (vs : List Value) (places : List (Option ℕ)) (ss : List Stmt) (slots : List Slot) (s : Store) → Boxing p f q scope count frame tag e cells n xs vs places ss
    → AllRegisters slots → length slots ≡ count → slice_get slots frame ≡ Some (Register (At Frame b 0)) → cells_of Frame b s ≡ Some cells → Stands g body k scope c (before ss rest)
    → Made p f n xs vs places slots s (λ slots' s'. Swell q w.trace (length ss) (at_line w fn below k (before ss rest) slots s) (at_line w fn below (k + length ss) rest slots' s'))

-- and given back as the call gives them back, a step for each, or with the same fault
pub record BoxesAreFreed : Type 0 where
  pub gives : (q : Program) (w : World) (fn : Text) (g : Function) (body : Stmts) (below : List (CallFrame Point)) (is_g : function_named q fn ≡ Some g) (scope : Scope) (n : ℕ) (rest : Stmts) (slots : List Slot) (is_named : named q scope (codes "rt_unbox") ≡ NotMeant)
      (k : ℕ) (xs : List Slot) (ys : List Text) (s t : Store) → Unboxing q scope slots xs ys → free_slots xs s ≡ Gives t → Stands g body k scope n (before (map unboxes_one ys) rest)
      → Walk q w.trace (length ys) (at_line w fn below k (before (map unboxes_one ys) rest) slots s) (at_line w fn below (k + length ys) rest slots t)
  pub faults : (q : Program) (w : World) (fn : Text) (g : Function) (body : Stmts) (below : List (CallFrame Point)) (is_g : function_named q fn ≡ Some g) (scope : Scope) (n : ℕ) (rest : Stmts) (slots : List Slot) (is_named : named q scope (codes "rt_unbox") ≡ NotMeant)
      (k : ℕ) (xs : List Slot) (ys : List Text) (s : Store) (fault : Fault) → Unboxing q scope slots xs ys → free_slots xs s ≡ Faults fault → Stands g body k scope n (before (map unboxes_one ys) rest)
      → FaultsAfter q w.trace fn fault (at_line w fn below k (before (map unboxes_one ys) rest) slots s)

-- a call's slots are made and freed alike in a store with other frame blocks
pub record FramesAreBeside : Type 0 where
  pub made : (fr : Blocks) (p : Program) (f : Function) (n : ℕ) (xs : List Variable) (vs : List Value) (s : Store) → make_slots p f n xs vs (beside fr s) ≡ (make_slots p f n xs vs s >>= λ r. Gives (moved fr r))
  pub freed : (fr : Blocks) (xs : List Slot) (s : Store) → free_slots xs (beside fr s) ≡ (free_slots xs s >>= λ t. Gives (beside fr t))

-- one chain among others: a frame is put before it, or taken from it, and its blocks are none of the others'
pub record OneAmongOthers : Type 0 where
  pub put : (bs : Blocks) (cells : List Value) (xs ys zs : List ℕ) → Owns bs (xs ++ (ys ++ zs)) → Owns (bs ++ Some cells ∷ []) (xs ++ ((length bs ∷ ys) ++ zs))
  pub taken : (bs : Blocks) (c : ℕ) (xs ys zs : List ℕ) → Owns bs (xs ++ ((c ∷ ys) ++ zs)) → Owns (slice_set bs c None) (xs ++ (ys ++ zs))
  pub alone : (bs : Blocks) (xs ys zs : List ℕ) → Owns bs (xs ++ (ys ++ zs)) → (b : ℕ) → 0 < count b ys → count b (xs ++ zs) ≡ 0
