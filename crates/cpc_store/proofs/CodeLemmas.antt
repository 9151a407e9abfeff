-- No act on a store looks into a code: each commutes with a map of the codes.
use Rattle.std.proofs.Common.{◌≡◌, ℕ, ◌+◌, Bool, true, false, ◌&&◌, ◌==◌, cond, List, [], ◌∷◌, ◌++◌, length, map, Option, Some, None, refl, sym, ap, ◌∙◌}
use Rattle.std.specs.Prelude.{slice_get, slice_set, is_some, Result, Ok, Err}
use Rattle.std.specs.List.{fold}
use Rattle.std.specs.Option.{option_map}
use Rattle.std.specs.Result.{result_map_both}
use Rattle.std.proofs.lemmas.List.{map-append, map-set, length-map}
use Rattle.std.proofs.lemmas.Option.{slice_get-map}
use Rattle.cpc_num.specs.declared.kinds.Fault.{Fault}
use Rattle.cpc_num.specs.declared.kinds.Fault.TheVariants as F
use Rattle.cpc_store.specs.declared.values.Class.{Class}
use Rattle.cpc_store.specs.declared.values.Class.TheVariants.{Static, Auto, Heap, Frame}
use Rattle.cpc_store.specs.declared.values.Scalar.{Scalar}
use Rattle.cpc_store.specs.declared.values.Scalar.TheVariants as W
use Rattle.cpc_store.specs.Store as S
use Rattle.cpc_store.specs.Store.{ValueOf, Unset, Whole, Null, At, Code, Cond, BlocksOf, StoreOf}
use Rattle.cpc_store.specs.Seen.{IsLawful}
use Rattle.cpc_store.specs.Codes.{map_value, map_cells, map_blocks, map_store}
use Rattle.cpc_store.proofs.ListLemmas.{map-replicate}
use Rattle.cpc_store.proofs.BlockLemmas.{save_cell-map}

module _ {C D : Type 0} (f : C → D) where
  -- a lawful value stays lawful
  pub IsLawful-map : (v : ValueOf C) → IsLawful v → IsLawful (map_value f v)
  IsLawful-map Unset h = h
  IsLawful-map (Whole kind z) h = h
  IsLawful-map Null h = h
  IsLawful-map (At c n k) h = h
  IsLawful-map (Code code) h = h
  IsLawful-map (Cond n) h = h

  -- ---- parts of a store

  pub blocks-map : (c : Class) (s : StoreOf C) → S.blocks c (map_store f s) ≡ map_blocks f (S.blocks c s)
  blocks-map Static s = refl
  blocks-map Auto s = refl
  blocks-map Heap s = refl
  blocks-map Frame s = refl

  pub with_blocks-map : (c : Class) (bs : BlocksOf C) (s : StoreOf C) → S.with_blocks c (map_blocks f bs) (map_store f s) ≡ map_store f (S.with_blocks c bs s)
  with_blocks-map Static bs s = refl
  with_blocks-map Auto bs s = refl
  with_blocks-map Heap bs s = refl
  with_blocks-map Frame bs s = refl

  live-map : (o : Option (Option (List (ValueOf C)))) → S.live (option_map (option_map (map_cells f)) o) ≡ option_map (map_cells f) (S.live o)
  live-map None = refl
  live-map (Some b) = refl

  pub cells_of-map : (c : Class) (n : ℕ) (s : StoreOf C) → S.cells_of c n (map_store f s) ≡ option_map (map_cells f) (S.cells_of c n s)
  cells_of-map c n s =
      ap (λ bs. S.live (slice_get bs n)) (blocks-map c s) ∙ ap S.live (slice_get-map (option_map (map_cells f)) (S.blocks c s) n) ∙ live-map (slice_get (S.blocks c s) n)

  pub next_block-map : (c : Class) (s : StoreOf C) → S.next_block c (map_store f s) ≡ S.next_block c s
  next_block-map c s = ap length (blocks-map c s) ∙ length-map (S.blocks c s) (option_map (map_cells f))

  pub size-map : (c : Class) (n : ℕ) (s : StoreOf C) → S.size c n (map_store f s) ≡ S.size c n s
  size-map c n s = ap (option_map length) (cells_of-map c n s) ∙ go (S.cells_of c n s)
    where
      go : (o : Option (List (ValueOf C))) → option_map length (option_map (map_cells f) o) ≡ option_map length o
      go None = refl
      go (Some cells) = ap Some (length-map cells (map_value f))

  -- ---- alloc

  pub unset_cells-map : (n : ℕ) → map_cells f (S.unset_cells n) ≡ S.unset_cells n
  unset_cells-map n = map-replicate (map_value f) n Unset

  pub alloc-map : (c : Class) (cells : List (ValueOf C)) (s : StoreOf C) → S.alloc c (map_cells f cells) (map_store f s) ≡ map_store f (S.alloc c cells s)
  alloc-map c cells s =
      ap (λ bs. S.with_blocks c (bs ++ Some (map_cells f cells) ∷ []) (map_store f s)) (blocks-map c s)
      ∙ ap (λ bs. S.with_blocks c bs (map_store f s)) (sym (map-append (option_map (map_cells f)) (S.blocks c s) (Some cells ∷ [])))
      ∙ with_blocks-map c (S.blocks c s ++ Some cells ∷ []) s

  -- ---- free

  freed-map : (c : Class) (n : ℕ) (b : Option (List (ValueOf C))) (s : StoreOf C) → S.with_blocks c (slice_set (S.blocks c (map_store f s)) n (option_map (map_cells f) b)) (map_store f s) ≡ map_store f (S.with_blocks c (slice_set (S.blocks c s) n b) s)
  freed-map c n b s =
      ap (λ bs. S.with_blocks c (slice_set bs n (option_map (map_cells f) b)) (map_store f s)) (blocks-map c s)
      ∙ ap (λ bs. S.with_blocks c bs (map_store f s)) (sym (map-set (option_map (map_cells f)) (S.blocks c s) n b))
      ∙ with_blocks-map c (slice_set (S.blocks c s) n b) s

  pub free-map : (c : Class) (v : ValueOf C) (s : StoreOf C) → S.free c (map_value f v) (map_store f s) ≡ result_map_both (map_store f) (λ fault. fault) (S.free c v s)
  free-map c Unset s = refl
  free-map c (Whole kind z) s = refl
  free-map c Null s = refl
  free-map c (Code code) s = refl
  free-map c (Cond n) s = refl
  free-map c (At d n k) s =
      ap (λ t. cond {A = Result (StoreOf D) Fault} (S.same_class c d && t && (k == 0)) (Ok (S.with_blocks c (slice_set (S.blocks c (map_store f s)) n None) (map_store f s))) (Err F.BadFree))
      (ap is_some (cells_of-map d n s) ∙ some (S.cells_of d n s))
      ∙ pick (S.same_class c d && is_some (S.cells_of d n s) && (k == 0))
    where
      some : (o : Option (List (ValueOf C))) → is_some (option_map (map_cells f) o) ≡ is_some o
      some None = refl
      some (Some cells) = refl

      pick : (b : Bool) → cond {A = Result (StoreOf D) Fault} b (Ok (S.with_blocks c (slice_set (S.blocks c (map_store f s)) n None) (map_store f s))) (Err F.BadFree)
          ≡ result_map_both (map_store f) (λ fault. fault) (cond {A = Result (StoreOf C) Fault} b (Ok (S.with_blocks c (slice_set (S.blocks c s) n None) s)) (Err F.BadFree))
      pick true = ap Ok (freed-map c n None s)
      pick false = refl

  -- ---- load

  pub suits-map : (wanted : Scalar) (v : ValueOf C) → S.suits wanted (map_value f v) ≡ S.suits wanted v
  suits-map (W.Int kind) Unset = refl
  suits-map W.Pointer Unset = refl
  suits-map W.Code Unset = refl
  suits-map W.Cond Unset = refl
  suits-map wanted v = refl

  pub load-map : (wanted : Scalar) (c : Class) (n k : ℕ) (s : StoreOf C) → S.load wanted c n k (map_store f s) ≡ result_map_both (map_value f) (λ fault. fault) (S.load wanted c n k s)
  load-map wanted c n k s = ap (λ cells. S.load_block wanted cells k) (cells_of-map c n s) ∙ go (S.cells_of c n s)
    where
      fit : (v : ValueOf C) (b : Bool) → cond {A = Result (ValueOf D) Fault} b (Ok (map_value f v)) (Err F.Kind) ≡ result_map_both (map_value f) (λ fault. fault) (cond {A = Result (ValueOf C) Fault} b (Ok v) (Err F.Kind))
      fit v true = refl
      fit v false = refl

      cell : (o : Option (ValueOf C)) → S.load_cell wanted (option_map (map_value f) o) ≡ result_map_both (map_value f) (λ fault. fault) (S.load_cell wanted o)
      cell None = refl
      cell (Some v) = ap (λ b. cond {A = Result (ValueOf D) Fault} b (Ok (map_value f v)) (Err F.Kind)) (suits-map wanted v) ∙ fit v (S.suits wanted v)

      go : (o : Option (List (ValueOf C))) → S.load_block wanted (option_map (map_cells f) o) k ≡ result_map_both (map_value f) (λ fault. fault) (S.load_block wanted o k)
      go None = refl
      go (Some cells) = ap (S.load_cell wanted) (slice_get-map (map_value f) cells k) ∙ cell (slice_get cells k)

  -- ---- save

  save_in-map : (o : Option (List (ValueOf C))) (bs : BlocksOf C) (n k : ℕ) (v : ValueOf C) → S.save_in (option_map (map_cells f) o) (map_blocks f bs) n k (map_value f v) ≡ result_map_both (map_blocks f) (λ fault. fault) (S.save_in o bs n k v)
  save_in-map None bs n k v = refl
  save_in-map (Some cells) bs n k v =
      ap (result_map_both (λ written. slice_set (map_blocks f bs) n (Some written)) (λ fault. fault)) (save_cell-map (map_value f) cells k v)
      ∙ go (S.save_cell cells k v)
    where
      go : (r : Result (List (ValueOf C)) Fault) → result_map_both {D = Fault} (λ written. slice_set (map_blocks f bs) n (Some written)) (λ fault. fault) (result_map_both (map (map_value f)) (λ fault. fault) r)
          ≡ result_map_both (map_blocks f) (λ fault. fault) (result_map_both {D = Fault} (λ written. slice_set bs n (Some written)) (λ fault. fault) r)
      go (Ok written) = ap Ok (sym (map-set (option_map (map_cells f)) bs n (Some written)))
      go (Err fault) = refl

  pub save-map : (c : Class) (n k : ℕ) (v : ValueOf C) (s : StoreOf C) → S.save c n k (map_value f v) (map_store f s) ≡ result_map_both (map_store f) (λ fault. fault) (S.save c n k v s)
  save-map c n k v s =
      ap (λ o. result_map_both (λ bs. S.with_blocks c bs (map_store f s)) (λ fault. fault) (S.save_in o (S.blocks c (map_store f s)) n k (map_value f v))) (cells_of-map c n s)
      ∙ ap (λ old. result_map_both (λ bs. S.with_blocks c bs (map_store f s)) (λ fault. fault) (S.save_in (option_map (map_cells f) (S.cells_of c n s)) old n k (map_value f v))) (blocks-map c s)
      ∙ ap (result_map_both (λ bs. S.with_blocks c bs (map_store f s)) (λ fault. fault)) (save_in-map (S.cells_of c n s) (S.blocks c s) n k v)
      ∙ go (S.save_in (S.cells_of c n s) (S.blocks c s) n k v)
    where
      go : (r : Result (BlocksOf C) Fault) → result_map_both {D = Fault} (λ bs. S.with_blocks c bs (map_store f s)) (λ fault. fault) (result_map_both (map_blocks f) (λ fault. fault) r)
          ≡ result_map_both (map_store f) (λ fault. fault) (result_map_both {D = Fault} (λ bs. S.with_blocks c bs s) (λ fault. fault) r)
      go (Ok bs) = ap Ok (with_blocks-map c bs s)
      go (Err fault) = refl

  -- ---- live cells

  block_cells-map : (b : Option (List (ValueOf C))) → S.block_cells (option_map (map_cells f) b) ≡ S.block_cells b
  block_cells-map None = refl
  block_cells-map (Some cells) = length-map cells (map_value f)

  cells_in-map : (a : ℕ) (bs : BlocksOf C) → fold (λ a b. a + S.block_cells b) a (map_blocks f bs) ≡ fold (λ a b. a + S.block_cells b) a bs
  cells_in-map a [] = refl
  cells_in-map a (b ∷ bs) = cells_in-map (a + S.block_cells (option_map (map_cells f) b)) bs ∙ ap (λ n. fold (λ a b. a + S.block_cells b) (a + n) bs) (block_cells-map b)

  pub store_cells-map : (s : StoreOf C) → S.store_cells (map_store f s) ≡ S.store_cells s
  store_cells-map s =
      let a : S.cells_in (map_blocks f s.static) ≡ S.cells_in s.static = cells_in-map 0 s.static in
      let b : S.cells_in (map_blocks f s.auto) ≡ S.cells_in s.auto = cells_in-map 0 s.auto in
      let c : S.cells_in (map_blocks f s.heap) ≡ S.cells_in s.heap = cells_in-map 0 s.heap in
      let d : S.cells_in (map_blocks f s.frames) ≡ S.cells_in s.frames = cells_in-map 0 s.frames in
      cc
