-- The cells that a call takes, and those that it gives back when it is left.
use Rattle.std.proofs.Common.{◌≡◌, ℕ, zero, suc, ◌+◌, Bool, true, false, cond, List, [], ◌∷◌, length, Option, Some, None, refl, sym, ap, subst, arith}
use Rattle.std.specs.Prelude.{◌&&◌, slice_get, slice_set, is_some, Result, Ok, Err}
use Rattle.std.specs.Option.{option_map}
use Rattle.std.proofs.lemmas.List.{length-replicate}
use Rattle.cpc_num.specs.declared.kinds.Fault.{Fault}
use Rattle.cpc_num.specs.declared.kinds.Fault.TheVariants as F
use Rattle.cpc_tree.specs.Lists.{first_or, rest_of}
use Rattle.cpc_tree.specs.Registers.{variables, is_register}
use Rattle.cpc_tree.specs.Syntax.{Ty, Variable, Function, Program}
use Rattle.cpc_tree.specs.Typing as T
use Rattle.cpc_tree.specs.Typing.{is_scalar}
use Rattle.cpc_store.specs.declared.values.Class.TheVariants.{Auto}
use Rattle.cpc_store.specs.Store.{Value, Unset, At, Blocks, Store, blocks, with_blocks, live, cells_of, size, free, store_cells}
use Rattle.cpc_store.proofs.CellLemmas.{store_cells-alloc, store_cells-free}
use Rattle.cpc_meaning.specs.Answer.{Gives, of_result, needed}
use Rattle.cpc_meaning.specs.Eval.{Slot, Register, Boxed}
use Rattle.cpc_meaning.specs.Slots.{first_cells, make_slot, make_slots, free_slots}
use Rattle.cpc_meaning.specs.Runs.{slot_registers, slots_registers}
use Rattle.cpc_meaning.proofs.Functions.{gives_then, scalar_size, register_scalar}
use Rattle.cpc_meaning.proofs.Machines.{needed_is}
use Rattle.cpc_meaning_laws.specs.Cell.Cells.{or_zero, variables_cells, slots_cells}
use Rattle.cpc_meaning_laws.specs.Cell.Laws.{CallTakes, LeavingGivesBack}

-- ---- a call takes its cells

-- a block has the cells of its variable
length-first_cells : (n : ℕ) (v : Value) → length (first_cells n v) ≡ n
length-first_cells zero v = refl
length-first_cells (suc n) v = ap (λ k. suc k) (length-replicate n Unset)

both_true : (a b : Bool) → a && b ≡ true → a ≡ true
both_true true b e = refl
both_true false b e = e

-- one variable takes its cells, as a register or with a block
slot_takes : (p : Program) (t : Ty) (in_register : Bool) (n : ℕ) (v : Value) (s : Store) → (in_register ≡ true → is_scalar t ≡ true) → T.size p t ≡ Some n
    → store_cells (make_slot in_register n v s).1 + slot_registers (make_slot in_register n v s).0 ≡ store_cells s + or_zero (T.size p t)
slot_takes p t true n v s h e = ap (λ o. store_cells s + or_zero o) (sym (scalar_size p t (h refl)))
slot_takes p t false n v s h e =
    let made = store_cells-alloc Auto (first_cells n v) s in
    let many : length (first_cells n v) ≡ n = length-first_cells n v in
    let cells : or_zero (T.size p t) ≡ n = ap or_zero e in
    omega arith

-- what two steps take, one after the other
taken_in_turn : (before one after first rest cells others : ℕ) → one + first ≡ before + cells → after + rest ≡ one + others → after + (first + rest) ≡ before + (cells + others)
taken_in_turn before one after first rest cells others e f = omega arith

-- so do variables
variables_take : (p : Program) (f : Function) (n : ℕ) (xs : List Variable) (vs : List Value) (s : Store) (made : List Slot × Store) → make_slots p f n xs vs s ≡ Gives made
    → store_cells made.1 + slots_registers made.0 ≡ store_cells s + variables_cells p xs
variables_take p f n [] vs s made e = let h : ([], s) ≡ made = cc in subst (λ m. store_cells m.1 + slots_registers m.0 ≡ store_cells s + 0) h refl
variables_take p f n (x ∷ xs) vs s made e =
    let a = gives_then (needed (T.size p x.type)) _ made e in
    let first = make_slot (is_register f n x) a.0 (first_or Unset vs) s in
    let b = gives_then (make_slots p f (suc n) xs (rest_of vs) first.1) (λ rest. Gives (first.0 ∷ rest.0, rest.1)) made a.2 in
    let i : (first.0 ∷ b.0.0, b.0.1) ≡ made = cc in
    let one = slot_takes p x.type (is_register f n x) a.0 (first_or Unset vs) s (register_scalar f n x) (needed_is (T.size p x.type) a.0 a.1) in
    let others = variables_take p f (suc n) xs (rest_of vs) first.1 b.0 b.1 in
    subst (λ m. store_cells m.1 + slots_registers m.0 ≡ store_cells s + variables_cells p (x ∷ xs)) i
    (taken_in_turn (store_cells s) (store_cells first.1) (store_cells b.0.1) (slot_registers first.0) (slots_registers b.0.0) (or_zero (T.size p x.type)) (variables_cells p xs) one others)

pub call_takes : CallTakes
call_takes p f vs s t slots e = variables_take p f 0 (variables f) vs s (slots, t) e

-- ---- a call that is left gives them back

-- a block that is freed was live
freed_was : (n : ℕ) (s t : Store) → of_result (free Auto (At Auto n 0) s) ≡ Gives t → (k : ℕ) × (size Auto n s ≡ Some k) × (with_blocks Auto (slice_set (blocks Auto s) n None) s ≡ t)
freed_was n s t h = go (cells_of Auto n s) refl h
  where
    go : (o : Option (List Value)) → cells_of Auto n s ≡ o → of_result (cond {A = Result Store Fault} (is_some o && true) (Ok (with_blocks Auto (slice_set (blocks Auto s) n None) s)) (Err F.BadFree)) ≡ Gives t
        → (k : ℕ) × (size Auto n s ≡ Some k) × (with_blocks Auto (slice_set (blocks Auto s) n None) s ≡ t)
    go None e f = absurd (cc)
    go (Some cells) e f = (length cells, ap (option_map length) e, cc)

-- a block that is live after another was freed is as it was
lasts_here : (bs : Blocks) (n m k : ℕ) → option_map length (live (slice_get (slice_set bs n None) m)) ≡ Some k → option_map length (live (slice_get bs m)) ≡ Some k
lasts_here [] n m k e = e
lasts_here (b ∷ bs) zero zero k e = absurd (cc)
lasts_here (b ∷ bs) zero (suc m) k e = e
lasts_here (b ∷ bs) (suc n) zero k e = e
lasts_here (b ∷ bs) (suc n) (suc m) k e = lasts_here bs n m k e

-- the blocks that are live in t were live in s, with as many cells
abbrev Lasts : Store → Store → Type 0
Lasts s t = (m k : ℕ) → size Auto m t ≡ Some k → size Auto m s ≡ Some k

given_in_turn : (before one after registers cells others size : ℕ) → one + size ≡ before → after + others ≡ one + registers → cells ≡ size → after + (cells + others) ≡ before + (0 + registers)
given_in_turn before one after registers cells others size e f g = omega arith

-- what is freed was as large in the store at the start
gives_back : (slots : List Slot) (s u t : Store) → Lasts s u → free_slots slots u ≡ Gives t → store_cells t + slots_cells s slots ≡ store_cells u + slots_registers slots
gives_back [] s u t h e = let i : u ≡ t = cc in ap (λ w. store_cells w + 0) (sym i)
gives_back (Register v ∷ slots) s u t h e = let others = gives_back slots s u t h e in omega arith
gives_back (Boxed n ∷ slots) s u t h e =
    let a = gives_then (of_result (free Auto (At Auto n 0) u)) (free_slots slots) t e in
    let was = freed_was n u a.0 a.1 in
    let freed : store_cells a.0 + was.0 ≡ store_cells u = subst (λ w. store_cells w + was.0 ≡ store_cells u) was.2 (store_cells-free Auto n was.0 u was.1) in
    let lasts : Lasts s a.0 = λ m k i. h m k (lasts_here (blocks Auto u) n m k (subst (λ w. size Auto m w ≡ Some k) (sym was.2) i)) in
    given_in_turn (store_cells u) (store_cells a.0) (store_cells t) (slots_registers slots) (or_zero (size Auto n s)) (slots_cells s slots) was.0 freed (gives_back slots s a.0 t lasts a.2) (ap or_zero (h n was.0 was.1))

pub leaving_gives_back : LeavingGivesBack
leaving_gives_back slots s t e = gives_back slots s s t (λ m k i. i) e
