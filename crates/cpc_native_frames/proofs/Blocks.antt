-- A block that is made and whose first cell is written.
use Rattle.std.proofs.Common.{◌≡◌, ℕ, zero, suc, List, [], ◌∷◌, ◌++◌, length, Some, subst, refl, sym, ap, ◌∙◌}
use Rattle.std.specs.Prelude.{replicate, slice_set, Result, Ok, Err}
use Rattle.std.specs.Result.{OnErr, result_map_both}
use Rattle.cpc_base.specs.declared.names.Name.{Name}
use Rattle.cpc_num.specs.declared.kinds.Fault.{Fault}
use Rattle.cpc_num.specs.declared.kinds.Fault.TheVariants as F
use Rattle.cpc_store.specs.declared.values.Class.TheVariants.{Auto}
use Rattle.cpc_store.specs.declared.values.Value as V
use Rattle.cpc_store.specs.Store.{ValueOf, Unset, StoreOf, blocks, with_blocks, next_block, alloc, unset_cells, save, save_in}
use Rattle.cpc_store.specs.Seen.{seen, result_with}
use Rattle.cpc_store.specs.Codes.{map_value, map_cells}
use Rattle.cpc_store.proofs.StoreLemmas.{cells_of-alloc_same}
use Rattle.cpc_store.proofs.ListLemmas.{map-replicate}
use Rattle.cpc_store.proofs.CodeLemmas.{alloc-map}
use Rattle.cpc_meaning.specs.Slots.{first_cells}
use Rattle.cpc_tree.specs.Erase.{Names}
use Rattle.cpc_eval_values.specs.Shown.{value_of, store_of}

-- the cells of a block that begins with this value
cells_first : {C : Type 0} → ℕ → ValueOf C → List (ValueOf C)
cells_first zero v = []
cells_first (suc n) v = v ∷ replicate n Unset

set_last : {X : Type 0} (xs : List X) (x y : X) → slice_set (xs ++ x ∷ []) (length xs) y ≡ xs ++ y ∷ []
set_last [] x y = refl
set_last (z ∷ xs) x y = ap (λ l. z ∷ l) (set_last xs x y)

ok_is : {S : Type 0} (r : Result (Unit {0}) Fault) (u w : S) → result_map_both (λ _. u) (λ e. e) r ≡ Ok w → u ≡ w
ok_is (Ok x) u w e = cc
ok_is (Err fault) u w e = absurd cc

err_is : {S : Type 0} (r : Result (Unit {0}) Fault) (u t : S) (fault : Fault) → result_map_both (λ _. u) (λ e. e) r ≡ Err fault → OnErr r (u ≡ t) → u ≡ t
err_is (Ok x) u t fault e h = absurd cc
err_is (Err f) u t fault e h = h

first_saved : {C : Type 0} (n : ℕ) (v : ValueOf C) (s u : StoreOf C) (r : Result (Unit {0}) Fault)
    → result_with u r ≡ save Auto (next_block Auto s) 0 v (alloc Auto (unset_cells n) s) → OnErr r (u ≡ alloc Auto (unset_cells n) s) → u ≡ alloc Auto (cells_first n v) s
unfolding cells_first
first_saved zero v s u r e h =
    err_is r u _ F.Bounds (e ∙ ap (λ o. result_map_both (λ bs. with_blocks Auto bs (alloc Auto [] s)) (λ fault. fault) (save_in o (blocks Auto (alloc Auto [] s)) (next_block Auto s) 0 v)) (cells_of-alloc_same Auto [] s)) h
first_saved (suc n) v s u r e h =
    let t = alloc Auto (unset_cells (suc n)) s in
    ok_is r u _ (e
    ∙ (ap (λ o. result_map_both (λ bs. with_blocks Auto bs t) (λ fault. fault) (save_in o (blocks Auto t) (next_block Auto s) 0 v)) (cells_of-alloc_same Auto (unset_cells (suc n)) s)
    ∙ ap (λ bs. Ok (with_blocks Auto bs t)) (set_last (blocks Auto s) (Some (unset_cells (suc n))) (Some (v ∷ replicate n Unset)))))

first_seen : (names : Names) (n : ℕ) (v : ValueOf Name) → map_cells names (cells_first n v) ≡ first_cells n (map_value names v)
unfolding cells_first
first_seen names zero v = refl
first_seen names (suc n) v = ap (λ l. map_value names v ∷ l) (map-replicate (map_value names) n Unset)

pub block_made : (names : Names) (n number : ℕ) (v : V.Value) (s t u : StoreOf Name) (r : Result (Unit {0}) Fault) → t ≡ alloc Auto (unset_cells n) s → number ≡ next_block Auto s
    → result_with u r ≡ save Auto number 0 (seen v) t → OnErr r (u ≡ t) → store_of names u ≡ alloc Auto (first_cells n (value_of names v)) (store_of names s)
block_made names n number v s t u r made is e h =
    let P : StoreOf Name → Type 0 = λ x. OnErr r (u ≡ x) in
    let saved = first_saved n (seen v) s u r (e ∙ (ap (λ m. save Auto m 0 (seen v) t) is ∙ ap (λ x. save Auto (next_block Auto s) 0 (seen v) x) made)) (subst P made h) in
    ap (store_of names) saved ∙ (sym (alloc-map names Auto (cells_first n (seen v)) s) ∙ ap (λ cells. alloc Auto cells (store_of names s)) (first_seen names n (seen v)))
