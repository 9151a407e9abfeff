-- The blocks of one class, when its look-up changes.
use Rattle.std.proofs.Common.{◌≡◌, ◌≢◌, ℕ, ◌+◌, ◌≤◌, true, false, cond, List, [], ◌∷◌, ◌++◌, length, map, Option, Some, None, inl, inr, subst, refl, sym, ap, ◌∙◌, arith}
use Rattle.std.specs.Prelude.{nat_eq, slice_get, slice_set, is_some, Result, Ok, Err}
use Rattle.std.specs.List.{All}
use Rattle.std.specs.Result.{result_map_both}
use Rattle.std.specs.Option.{option_map}
use Rattle.std.proofs.lemmas.Bool.{cases_eq}
use Rattle.std.proofs.lemmas.List.{map-set}
use Rattle.std.proofs.lemmas.Option.{slice_get-map}
use Rattle.std.specs.Global.{Vec}
use Rattle.std.proofs.lemmas.Bool.Decides.{nat_tests}
use Rattle.cpc_base.specs.declared.names.Name.{Name}
use Rattle.cpc_num.specs.declared.kinds.Fault.{Fault}
use Rattle.cpc_num.specs.declared.kinds.Fault.TheVariants as F
use Rattle.cpc_store.specs.declared.values.Value.{Value}
use Rattle.cpc_store.specs.Store.{BlocksOf, live, save_cell, save_in}
use Rattle.cpc_store.specs.Seen.{seen, IsLawful, result_with}
use Rattle.cpc_store.specs.Blocks.{seen_block, blocks_seen, IsClass, IsLawfulBlock}
use Rattle.cpc_store.proofs.ListLemmas.{length-listed, listed-more, listed-set, live-listed, slice_set-kept, found}

-- at n the look-up has w, elsewhere what the other has
abbrev pub Puts : (ℕ → Option (Vec Value)) → (ℕ → Option (Vec Value)) → ℕ → Option (Vec Value) → Type 0
Puts at at' n w = (q : ℕ) → at' q ≡ cond (nat_eq n q) w (at q)

put_here : (at at' : ℕ → Option (Vec Value)) (n : ℕ) (w : Option (Vec Value)) → Puts at at' n w → at' n ≡ w
put_here at at' n w h = let e : nat_eq n n ≡ true = grind (arith, nat_tests) in h n ∙ ap (λ b. cond b w (at n)) e

put_apart : (at at' : ℕ → Option (Vec Value)) (n : ℕ) (w : Option (Vec Value)) → Puts at at' n w → (q : ℕ) → q ≢ n → at' q ≡ at q
put_apart at at' n w h q apart = let e : nat_eq n q ≡ false = grind (arith, nat_tests) in h q ∙ ap (λ b. cond b w (at q)) e

-- how many were made
pub made_is : (made : ℕ) (at : ℕ → Option (Vec Value)) (bs : BlocksOf Name) → blocks_seen made at ≡ bs → made ≡ length bs
made_is made at bs e = sym (length-listed made (λ n. seen_block (at n))) ∙ ap length e

-- the cells at a number
pub live_is : (made : ℕ) (at : ℕ → Option (Vec Value)) (bs : BlocksOf Name) (n : ℕ) → blocks_seen made at ≡ bs → IsClass made at → live (slice_get bs n) ≡ seen_block (at n)
live_is made at bs n e h = ap (λ xs. live (slice_get xs n)) (sym e) ∙ live-listed made (λ q. seen_block (at q)) (λ q l. ap seen_block (h.below q l)) n

-- one block more
pub blocks_seen-more : (made : ℕ) (at at' : ℕ → Option (Vec Value)) (bs : BlocksOf Name) (w : Option (Vec Value)) → blocks_seen made at ≡ bs → Puts at at' made w → blocks_seen (made + 1) at' ≡ bs ++ seen_block w ∷ []
blocks_seen-more made at at' bs w e h =
    listed-more made (λ q. seen_block (at q)) (λ q. seen_block (at' q)) (seen_block w) (λ q l. ap seen_block (put_apart at at' made w h q (omega arith))) (ap seen_block (put_here at at' made w h))
    ∙ ap (λ xs. xs ++ seen_block w ∷ []) e

-- another block at a number, or none
pub blocks_seen-put : (made : ℕ) (at at' : ℕ → Option (Vec Value)) (bs : BlocksOf Name) (n : ℕ) (w : Option (Vec Value)) → blocks_seen made at ≡ bs → Puts at at' n w → blocks_seen made at' ≡ slice_set bs n (seen_block w)
blocks_seen-put made at at' bs n w e h =
    listed-set made (λ q. seen_block (at q)) (λ q. seen_block (at' q)) n (seen_block w) (λ q apart. ap seen_block (put_apart at at' n w h q apart)) (ap seen_block (put_here at at' n w h))
    ∙ ap (λ xs. slice_set xs n (seen_block w)) e

-- ---- a cell is written through the block at n, which was `old` and becomes `new`

written_apart : (x : Vec Value) (at : ℕ → Option (Vec Value)) (n : ℕ) → at n ≡ Some x → at n ≡ None → ⊥
written_apart x at n e f = let g : Some x ≡ None = sym e ∙ f in cc

pub IsClass-saved : (made : ℕ) (at at' : ℕ → Option (Vec Value)) (n : ℕ) (old new : Vec Value) → IsClass made at → at n ≡ Some old → Puts at at' n (Some new) → All (λ v. IsLawful (seen v)) new.items → IsClass made at'
IsClass-saved made at at' n old new c e h lawful = record { below = below; lawful = all }
  where
    below : (q : ℕ) → made ≤ q → at' q ≡ None
    below q l = elim (cases_eq q n) [ inl same ↦ absurd (written_apart old at n e (c.below n (rw (← same) l))) | inr apart ↦ put_apart at at' n (Some new) h q apart ∙ c.below q l ]

    all : (q : ℕ) → IsLawfulBlock (at' q)
    all q = elim (cases_eq q n) [ inl same ↦ subst IsLawfulBlock (sym (ap at' same ∙ put_here at at' n (Some new) h)) lawful | inr apart ↦ subst IsLawfulBlock (sym (put_apart at at' n (Some new) h q apart)) (c.lawful q) ]

pub save_cell-map : {V W : Type 0} (f : V → W) (cells : List V) (k : ℕ) (v : V) → save_cell (map f cells) k (f v) ≡ result_map_both (map f) (λ fault. fault) (save_cell cells k v)
save_cell-map {V} {W} f cells k v = rw (slice_get-map f cells k) (go (slice_get cells k))
  where
    go : (o : Option V) → cond {A = Result (List W) Fault} (is_some (option_map f o)) (Ok (slice_set (map f cells) k (f v))) (Err F.Bounds) ≡ result_map_both (map f) (λ fault. fault) (cond {A = Result (List V) Fault} (is_some o) (Ok (slice_set cells k v)) (Err F.Bounds))
    go None = refl
    go (Some x) = ap Ok (sym (map-set f cells k v))

save_in_some : (bs : BlocksOf Name) (n k : ℕ) (v : Value) (old : Vec Value) → save_in (Some (map seen old.items)) bs n k (seen v) ≡ result_map_both (λ written. slice_set bs n (Some (map seen written))) (λ fault. fault) (save_cell old.items k v)
save_in_some bs n k v old = ap (result_map_both (λ written. slice_set bs n (Some written)) (λ fault. fault)) (save_cell-map seen old.items k v) ∙ go (save_cell old.items k v)
  where
    go : (r : Result (List Value) Fault) → result_map_both (λ written. slice_set bs n (Some written)) (λ fault. fault) (result_map_both (map seen) (λ fault. fault) r) ≡ result_map_both {D = Fault} (λ written. slice_set bs n (Some (map seen written))) (λ fault. fault) r
    go (Ok cells) = refl
    go (Err fault) = refl

pub result-saved : (made : ℕ) (at at' : ℕ → Option (Vec Value)) (bs : BlocksOf Name) (n k : ℕ) (v : Value) (old new : Vec Value) (r : Result (Unit {0}) Fault)
    → blocks_seen made at ≡ bs → IsClass made at → at n ≡ Some old → Puts at at' n (Some new) → result_with new.items r ≡ save_cell old.items k v
    → result_with (blocks_seen made at') r ≡ save_in (live (slice_get bs n)) bs n k (seen v)
result-saved made at at' bs n k v old new (Ok u) e c o h s =
    let l : live (slice_get bs n) ≡ Some (map seen old.items) = live_is made at bs n e c ∙ ap seen_block o in
    let p : blocks_seen made at' ≡ slice_set bs n (Some (map seen new.items)) = blocks_seen-put made at at' bs n (Some new) e h in
    ap Ok p ∙ ap (result_map_both (λ written. slice_set bs n (Some (map seen written))) (λ fault. fault)) s ∙ sym (ap (λ cells. save_in cells bs n k (seen v)) l ∙ save_in_some bs n k v old)
result-saved made at at' bs n k v old new (Err fault) e c o h s =
    let l : live (slice_get bs n) ≡ Some (map seen old.items) = live_is made at bs n e c ∙ ap seen_block o in
    ap (result_map_both (λ written. slice_set bs n (Some (map seen written))) (λ fault. fault)) s ∙ sym (ap (λ cells. save_in cells bs n k (seen v)) l ∙ save_in_some bs n k v old)

-- a written back block with the same items leaves the blocks as they are
pub blocks_seen-kept : (made : ℕ) (at at' : ℕ → Option (Vec Value)) (bs : BlocksOf Name) (n : ℕ) (old new : Vec Value) → blocks_seen made at ≡ bs → IsClass made at → at n ≡ Some old → Puts at at' n (Some new) → new.items ≡ old.items → blocks_seen made at' ≡ bs
blocks_seen-kept made at at' bs n old new e c o h same =
    let l : live (slice_get bs n) ≡ Some (map seen old.items) = live_is made at bs n e c ∙ ap seen_block o in
    let p : blocks_seen made at' ≡ slice_set bs n (Some (map seen new.items)) = blocks_seen-put made at at' bs n (Some new) e h in
    p ∙ ap (λ items. slice_set bs n (Some (map seen items))) same ∙ slice_set-kept bs n (Some (map seen old.items)) (found (slice_get bs n) (map seen old.items) l)
