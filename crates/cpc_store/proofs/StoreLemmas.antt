-- What a store has at a block after an act: a new block, a freed one, a written cell, and every other block as before.
use Rattle.std.proofs.Common.{◌≡◌, ◌≢◌, ℕ, zero, suc, ◌<◌, ◌≤◌, List, [], ◌∷◌, ◌++◌, length, Option, Some, inl, inr, refl, sym, ap, ◌∙◌, arith}
use Rattle.std.specs.Prelude.{slice_get, slice_set}
use Rattle.std.proofs.lemmas.Bool.{cases_lt}
use Rattle.std.proofs.lemmas.List.{get_or-set_same, get_or-set_other}
use Rattle.std.proofs.lemmas.Option.{slice_get-get_or, slice_get_past}
use Rattle.std.proofs.Math.ListN.{length-set}
use Rattle.cpc_store.specs.declared.values.Class.{Class}
use Rattle.cpc_store.specs.declared.values.Class.TheVariants.{Static, Auto, Heap, Frame}
use Rattle.cpc_store.specs.Store.{ValueOf, BlocksOf, StoreOf, blocks, with_blocks, live, cells_of, next_block, alloc}

-- an element of a list after a write at its place, or at another
pub slice_get-set_same : {X : Type 0} (xs : List X) (n : ℕ) (x : X) → n < length xs → slice_get (slice_set xs n x) n ≡ Some x
slice_get-set_same xs n x h =
    let l : n < length (slice_set xs n x) = omega (arith, length-set xs n x) in
    slice_get-get_or (slice_set xs n x) n x l ∙ ap Some (get_or-set_same xs n x x h)

pub slice_get-set_other : {X : Type 0} (xs : List X) (n m : ℕ) (x : X) → m ≢ n → slice_get (slice_set xs n x) m ≡ slice_get xs m
slice_get-set_other xs n m x apart = elim (cases_lt m (length xs)) [
  | inl below ↦ (let l : m < length (slice_set xs n x) = omega (arith, length-set xs n x) in
      slice_get-get_or (slice_set xs n x) m x l ∙ ap Some (get_or-set_other xs n m x x apart) ∙ sym (slice_get-get_or xs m x below))
  | inr past ↦ (let l : length (slice_set xs n x) ≤ m = omega (arith, length-set xs n x) in slice_get_past (slice_set xs n x) m l ∙ sym (slice_get_past xs m past))
]

-- the blocks of the class that an act changes, and of each other class
pub blocks-with_blocks : {C : Type 0} (c : Class) (bs : BlocksOf C) (s : StoreOf C) → blocks c (with_blocks c bs s) ≡ bs
blocks-with_blocks Static bs s = refl
blocks-with_blocks Auto bs s = refl
blocks-with_blocks Heap bs s = refl
blocks-with_blocks Frame bs s = refl

-- the block at n is replaced: freed, or one of its cells is written
pub cells_of-set_same : {C : Type 0} (c : Class) (n : ℕ) (b : Option (List (ValueOf C))) (s : StoreOf C) → n < length (blocks c s) → cells_of c n (with_blocks c (slice_set (blocks c s) n b) s) ≡ b
cells_of-set_same c n b s h = ap (λ bs. live (slice_get bs n)) (blocks-with_blocks c (slice_set (blocks c s) n b) s) ∙ ap live (slice_get-set_same (blocks c s) n b h)

pub cells_of-set_other : {C : Type 0} (c : Class) (n : ℕ) (b : Option (List (ValueOf C))) (s : StoreOf C) (d : Class) (m : ℕ) → (d ≡ c → m ≢ n) → cells_of d m (with_blocks c (slice_set (blocks c s) n b) s) ≡ cells_of d m s
cells_of-set_other Static n b s Static m h = ap live (slice_get-set_other s.static n m b (h refl))
cells_of-set_other Auto n b s Auto m h = ap live (slice_get-set_other s.auto n m b (h refl))
cells_of-set_other Heap n b s Heap m h = ap live (slice_get-set_other s.heap n m b (h refl))
cells_of-set_other Frame n b s Frame m h = ap live (slice_get-set_other s.frames n m b (h refl))
cells_of-set_other c n b s d m h = refl

-- a new block has the cells that it was made with
pub cells_of-alloc_same : {C : Type 0} (c : Class) (cells : List (ValueOf C)) (s : StoreOf C) → cells_of c (next_block c s) (alloc c cells s) ≡ Some cells
cells_of-alloc_same c cells s = ap (λ bs. live (slice_get bs (next_block c s))) (blocks-with_blocks c (blocks c s ++ Some cells ∷ []) s) ∙ ap live (last (blocks c s) (Some cells))
  where
    last : {X : Type 0} (xs : List X) (x : X) → slice_get (xs ++ x ∷ []) (length xs) ≡ Some x
    last [] x = refl
    last (y ∷ xs) x = last xs x

before : {C : Type 0} (bs : BlocksOf C) (cells : List (ValueOf C)) (m : ℕ) → m ≢ length bs → live (slice_get (bs ++ Some cells ∷ []) m) ≡ live (slice_get bs m)
before [] cells zero h = absurd (h refl)
before [] cells (suc m) h = refl
before (b ∷ bs) cells zero h = refl
before (b ∷ bs) cells (suc m) h = before bs cells m (λ e. h (ap suc e))

pub cells_of-alloc_other : {C : Type 0} (c : Class) (cells : List (ValueOf C)) (s : StoreOf C) (d : Class) (m : ℕ) → (d ≡ c → m ≢ next_block c s) → cells_of d m (alloc c cells s) ≡ cells_of d m s
cells_of-alloc_other Static cells s Static m h = before s.static cells m (h refl)
cells_of-alloc_other Auto cells s Auto m h = before s.auto cells m (h refl)
cells_of-alloc_other Heap cells s Heap m h = before s.heap cells m (h refl)
cells_of-alloc_other Frame cells s Frame m h = before s.frames cells m (h refl)
cells_of-alloc_other c cells s d m h = refl
