-- A block is written cell by cell.
use Rattle.std.proofs.Common.{◌≡◌, ℕ, suc, ◌+◌, ◌-◌, ◌<◌, ◌≤◌, List, [], ◌∷◌, ◌++◌, length, take, get_or, set, map, Some, Result, Ok, Err, refl, sym, ap, ◌∙◌, add-one, arith, append_assoc, length-append}
use Rattle.std.specs.Prelude.{slice_get, is_some, if◌then◌else◌}
use Rattle.std.specs.Result.{result_map_both}
use Rattle.std.proofs.lemmas.List.{append-nil, map-append, length-map, length-take-le, take_all}
use Rattle.std.proofs.lemmas.Simd.{map-map}
use Rattle.std.proofs.lemmas.Option.{slice_get-get_or}
use Rattle.std.proofs.Math.Seq.{take-suc, get_or-append_seam, set-append_seam}
use Rattle.cpc_base.specs.declared.names.Name.{Name}
use Rattle.cpc_num.specs.declared.kinds.Fault.{Fault}
use Rattle.cpc_num.specs.declared.kinds.Fault.TheVariants as F
use Rattle.cpc_store.specs.declared.values.Block.{Block}
use Rattle.cpc_store.specs.declared.values.Class.TheVariants.{Static}
use Rattle.cpc_store.specs.declared.values.Value as V
use Rattle.cpc_store.specs.Store as S
use Rattle.cpc_store.specs.Store.{ValueOf, Unset, StoreOf, unset_cells}
use Rattle.cpc_store.specs.Seen.{seen, result_with}
use Rattle.cpc_store.proofs.CodeLemmas.{alloc-map}
use Rattle.cpc_tree.specs.Erase.{Names}
use Rattle.cpc_eval_values.specs.Shown.{values_of, store_of}

slice_get_seam : {A : Type 0} (xs : List A) (y : A) (ys : List A) → slice_get (xs ++ y ∷ ys) (length xs) ≡ Some y
slice_get_seam xs y ys = slice_get-get_or (xs ++ y ∷ ys) (length xs) y (omega (arith, length-append xs (y ∷ ys))) ∙ ap Some (get_or-append_seam xs y ys y)

-- the next cell of the last block is written
next_written : (s : StoreOf Name) (done : List (ValueOf Name)) (n : ℕ) (w : ValueOf Name)
    → S.save Static (S.next_block Static s) (length done) w (S.alloc Static (done ++ Unset ∷ unset_cells n) s) ≡ Ok (S.alloc Static (done ++ w ∷ unset_cells n) s)
next_written s done n w =
    let cells = done ++ Unset ∷ unset_cells n in
    let bs = s.static ++ Some cells ∷ [] in
    let m = length s.static in
    let k = length done in
    ap (λ o. result_map_both (λ bs. S.with_blocks Static bs s) (λ (fault : Fault). fault) (S.save_in (S.live o) bs m k w)) (slice_get_seam s.static (Some cells) [])
    ∙ ap (λ o. result_map_both (λ bs. S.with_blocks Static bs s) (λ (fault : Fault). fault) (result_map_both (λ written. set bs m (Some written)) (λ (fault : Fault). fault) (if is_some o then Ok (set cells k w) else Err F.Bounds))) (slice_get_seam done Unset (unset_cells n))
    ∙ ap (λ written. Ok (S.with_blocks Static (set bs m (Some written)) s)) (set-append_seam done Unset (unset_cells n) w)
    ∙ ap (λ bs. Ok (S.with_blocks Static bs s)) (set-append_seam s.static (Some cells) [] (Some (done ++ w ∷ unset_cells n)))

with_ok : {T U E : Type 0} (r : Result T E) (u x : U) → result_with u r ≡ Ok x → u ≡ x
with_ok (Ok t) u x e = cc
with_ok (Err f) u x e = absurd (err e)
  where
    err : {U E : Type 0} {f : E} {x : U} → Err f ≡ Ok x → ⊥
    err e = absurd cc

module _ (s : StoreOf Name) (cells : List V.Value) where
  -- the first k cells are written, and the others unset
  abbrev pub Written : ℕ → StoreOf Name → Type 0
  Written k t = t ≡ S.alloc Static (map seen (take k cells) ++ unset_cells (length cells - k)) s

  pub saved : (k : ℕ) (v d : V.Value) (b : Block) (r : Result (Unit {0}) Fault) (old new : StoreOf Name) → k < length cells → v ≡ get_or cells k d → b.class ≡ Static → b.number ≡ S.next_block Static s → Written k old
      → result_with new r ≡ S.save b.class b.number k (seen v) old → Written (k + 1) new
  saved k v d b r old new lt is class number written e =
      let done = map seen (take k cells) in
      let n = length cells - (k + 1) in
      let many : length done ≡ k = length-map (take k cells) seen ∙ length-take-le k cells (omega arith) in
      let less : length cells - k ≡ suc n = omega arith in
      let was : old ≡ S.alloc Static (done ++ Unset ∷ unset_cells n) s = written ∙ ap (λ m. S.alloc Static (done ++ unset_cells m) s) less in
      let acts : S.save b.class b.number k (seen v) old ≡ S.save Static (S.next_block Static s) (length done) (seen v) (S.alloc Static (done ++ Unset ∷ unset_cells n) s) = rw (class, number, was, many) refl in
      let row : map seen (take (k + 1) cells) ≡ done ++ seen v ∷ [] =
      ap (λ m. map seen (take m cells)) (add-one k) ∙ ap (map seen) (take-suc cells k d lt ∙ ap (λ x. take k cells ++ x ∷ []) (sym is)) ∙ map-append seen (take k cells) (v ∷ []) in
      let whole : done ++ seen v ∷ unset_cells n ≡ map seen (take (k + 1) cells) ++ unset_cells n = sym (append_assoc done (seen v ∷ []) (unset_cells n)) ∙ ap (λ xs. xs ++ unset_cells n) (sym row) in
      with_ok r new (S.alloc Static (done ++ seen v ∷ unset_cells n) s) (e ∙ acts ∙ next_written s done n (seen v)) ∙ ap (λ xs. S.alloc Static xs s) whole

  -- the block when all are written
  pub all_saved : (names : Names) (k : ℕ) (t : StoreOf Name) → length cells ≤ k → Written k t → store_of names t ≡ S.alloc Static (values_of names cells) (store_of names s)
  all_saved names k t le written =
      let all : take k cells ≡ cells = take_all k cells le in
      let none : length cells - k ≡ 0 = omega arith in
      let row : map seen (take k cells) ++ unset_cells (length cells - k) ≡ map seen cells = ap (λ m. map seen (take k cells) ++ unset_cells m) none ∙ append-nil (map seen (take k cells)) ∙ ap (map seen) all in
      ap (store_of names) (written ∙ ap (λ xs. S.alloc Static xs s) row)
      ∙ sym (alloc-map names Static (map seen cells) s)
      ∙ ap (λ xs. S.alloc Static xs (store_of names s)) (map-map _ seen cells)
