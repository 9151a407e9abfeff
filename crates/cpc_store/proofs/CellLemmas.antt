-- How many cells are live after an act on a store.
use Rattle.std.proofs.Common.{◌≡◌, ℕ, ◌+◌, Bool, true, false, cond, List, [], ◌∷◌, ◌++◌, length, get_or, Option, Some, None, refl, sym, ap, ◌∙◌, arith}
use Rattle.std.specs.Prelude.{slice_get, slice_set, is_some, OnErr, Result, Ok, Err}
use Rattle.std.specs.Option.{option_map}
use Rattle.std.specs.Result.{result_map_both}
use Rattle.std.proofs.Math.ListN.{length-set}
use Rattle.std.proofs.lemmas.List.Sums.{sum_by-set, sum_by_push}
use Rattle.std.proofs.lemmas.Option.{slice_get_within, get_or_from_slice_get}
use Rattle.cpc_num.specs.declared.kinds.Fault.{Fault}
use Rattle.cpc_num.specs.declared.kinds.Fault.TheVariants as F
use Rattle.cpc_store.specs.declared.values.Class.{Class}
use Rattle.cpc_store.specs.declared.values.Class.TheVariants.{Static, Auto, Heap, Frame}
use Rattle.cpc_store.specs.Store.{ValueOf, BlocksOf, StoreOf, blocks, with_blocks, live, cells_of, size, alloc, save, save_in, block_cells, cells_in, store_cells}
use Rattle.cpc_store.specs.Seen.{result_with}
use Rattle.cpc_store.proofs.ListLemmas.{slice_set-none, found}

-- the blocks that a store has already
pub with_blocks-blocks : {C : Type 0} (c : Class) (s : StoreOf C) → with_blocks c (blocks c s) s ≡ s
with_blocks-blocks Static s = refl
with_blocks-blocks Auto s = refl
with_blocks-blocks Heap s = refl
with_blocks-blocks Frame s = refl

-- other blocks in a class
store_cells-with_blocks : {C : Type 0} (c : Class) (bs : BlocksOf C) (s : StoreOf C) → store_cells (with_blocks c bs s) + cells_in (blocks c s) ≡ store_cells s + cells_in bs
store_cells-with_blocks Static bs s = omega arith
store_cells-with_blocks Auto bs s = omega arith
store_cells-with_blocks Heap bs s = omega arith
store_cells-with_blocks Frame bs s = omega arith

-- another block in the place of a live one
cells_in-set : {C : Type 0} (bs : BlocksOf C) (n : ℕ) (cells : List (ValueOf C)) (b : Option (List (ValueOf C))) → live (slice_get bs n) ≡ Some cells → cells_in (slice_set bs n b) + length cells ≡ cells_in bs + block_cells b
cells_in-set bs n cells b h =
    let g : slice_get bs n ≡ Some (Some cells) = found (slice_get bs n) cells h in
    let e : get_or bs n None ≡ Some cells = get_or_from_slice_get bs n (Some cells) None g in
    ap (λ x. cells_in (slice_set bs n b) + block_cells x) (sym e) ∙ sum_by-set block_cells bs n b None (slice_get_within bs n (Some cells) g)

-- a new block adds its cells
pub store_cells-alloc : {C : Type 0} (c : Class) (cells : List (ValueOf C)) (s : StoreOf C) → store_cells (alloc c cells s) ≡ store_cells s + length cells
store_cells-alloc c cells s =
    let e = store_cells-with_blocks c (blocks c s ++ Some cells ∷ []) s in
    let a : cells_in (blocks c s ++ Some cells ∷ []) ≡ cells_in (blocks c s) + length cells = sum_by_push block_cells (blocks c s) (Some cells) in
    omega arith

-- a freed one takes them away
pub store_cells-free : {C : Type 0} (c : Class) (n k : ℕ) (s : StoreOf C) → size c n s ≡ Some k → store_cells (with_blocks c (slice_set (blocks c s) n None) s) + k ≡ store_cells s
store_cells-free {C} c n k s h = go (live (slice_get (blocks c s) n)) refl h
  where
    go : (o : Option (List (ValueOf C))) → live (slice_get (blocks c s) n) ≡ o → option_map length o ≡ Some k → store_cells (with_blocks c (slice_set (blocks c s) n None) s) + k ≡ store_cells s
    go None e f = absurd (cc)
    go (Some cells) e f =
        let a = store_cells-with_blocks c (slice_set (blocks c s) n None) s in
        let b = cells_in-set (blocks c s) n cells None e in
        let k : length cells ≡ k = cc in
        omega arith

-- where no block is live, none is freed
pub freed-none : {C : Type 0} (c : Class) (n : ℕ) (s : StoreOf C) → size c n s ≡ None → with_blocks c (slice_set (blocks c s) n None) s ≡ s
freed-none {C} c n s h = ap (λ bs. with_blocks c bs s) (slice_set-none (blocks c s) n (none (live (slice_get (blocks c s) n)) h)) ∙ with_blocks-blocks c s
  where
    none : (o : Option (List (ValueOf C))) → option_map length o ≡ None → o ≡ None
    none None e = refl
    none (Some cells) e = absurd (cc)

-- a write keeps them
pub store_cells-save : {C : Type 0} (c : Class) (n k : ℕ) (v : ValueOf C) (s t : StoreOf C) → save c n k v s ≡ Ok t → store_cells t ≡ store_cells s
store_cells-save {C} c n k v s t h = go (cells_of c n s) refl h
  where
    written : (cells : List (ValueOf C)) (b : Bool) → cells_of c n s ≡ Some cells → result_map_both {D = Fault} (λ bs. with_blocks c bs s) (λ fault. fault) (result_map_both {D = Fault} (λ w. slice_set (blocks c s) n (Some w)) (λ fault. fault) (cond {A = Result (List (ValueOf C)) Fault} b (Ok (slice_set cells k v)) (Err F.Bounds))) ≡ Ok t → store_cells t ≡ store_cells s
    written cells false e f = absurd (cc)
    written cells true e f =
        let is : with_blocks c (slice_set (blocks c s) n (Some (slice_set cells k v))) s ≡ t = cc in
        let a = store_cells-with_blocks c (slice_set (blocks c s) n (Some (slice_set cells k v))) s in
        let b = cells_in-set (blocks c s) n cells (Some (slice_set cells k v)) e in
        let l : length (slice_set cells k v) ≡ length cells = length-set cells k v in
        ap store_cells (sym is) ∙ omega arith

    go : (o : Option (List (ValueOf C))) → cells_of c n s ≡ o → result_map_both {D = Fault} (λ bs. with_blocks c bs s) (λ fault. fault) (save_in o (blocks c s) n k v) ≡ Ok t → store_cells t ≡ store_cells s
    go None e f = absurd (cc)
    go (Some cells) e f = written cells (is_some (slice_get cells k)) e f

-- the same, of a call's answer and the store that it leaves
pub store_cells-saved : {C : Type 0} (c : Class) (n k : ℕ) (v : ValueOf C) (s t : StoreOf C) (r : Result (Unit {0}) Fault) → result_with t r ≡ save c n k v s → OnErr r (t ≡ s) → store_cells t ≡ store_cells s
store_cells-saved c n k v s t (Ok u) e h = store_cells-save c n k v s t (sym e)
store_cells-saved c n k v s t (Err fault) e h = ap store_cells h
