-- The copy of a section, which is the first static block, stays live: code frees automatic and heap blocks alone.
use Rattle.std.proofs.Common.{◌≡◌, ◌==◌, ◌&&◌, ℕ, zero, suc, Bool, true, false, cond, List, [], ◌∷◌, slice_get, slice_set, Option, Some, None, Result, Ok, Err, is_some, refl, subst}
use Rattle.std.specs.Result.{result_map_both}
use Rattle.cpc_num.specs.declared.kinds.Fault.{Fault}
use Rattle.cpc_num.specs.declared.kinds.Fault.TheVariants as F
use Rattle.cpc_store.specs.declared.values.Class.{Class}
use Rattle.cpc_store.specs.declared.values.Class.TheVariants.{Static, Auto, Heap, Frame}
use Rattle.cpc_store.specs.Store.{Value, Unset, Whole, Null, At, Code, Cond, Blocks, Store, with_blocks, blocks, live, cells_of, same_class, alloc, free, save, save_in, save_cell}

-- cells that are there
abbrev pub IsLive : Option (List Value) → Type 0
IsLive None = ⊥
IsLive (Some cells) = Unit {0}

-- the first static block stays live
abbrev pub CopyStays : Store → Store → Type 0
CopyStays s t = IsLive (cells_of Static 0 s) → IsLive (cells_of Static 0 t)

abbrev fine : Store → Result Store Fault
fine s = Ok s

ok_is : (x y : Store) → fine x ≡ Ok y → x ≡ y
ok_is x y e = cc

not_ok : {A B C : Type 0} (x : A) (y : B) → Err y ≡ Ok x → C
not_ok x y e = absurd (cc)

set_live : (bs : Blocks) (n : ℕ) (cells : List Value) → IsLive (live (slice_get bs 0)) → IsLive (live (slice_get (slice_set bs n (Some cells)) 0))
set_live [] n cells h = absurd h
set_live (b ∷ bs) zero cells h = tt
set_live (b ∷ bs) (suc n) cells h = h

-- another class
other_stays : (c : Class) (bs : Blocks) (s : Store) → same_class c Static ≡ false → CopyStays s (with_blocks c bs s)
other_stays Static bs s e = absurd (cc)
other_stays Auto bs s e = λ h. h
other_stays Heap bs s e = λ h. h
other_stays Frame bs s e = λ h. h

saved_other : (c : Class) (r : Result Blocks Fault) (s t : Store) → same_class c Static ≡ false → result_map_both (λ bs. with_blocks c bs s) (λ (fault : Fault). fault) r ≡ Ok t → CopyStays s t
saved_other c (Ok bs) s t e h = subst (CopyStays s) (ok_is (with_blocks c bs s) t h) (other_stays c bs s e)
saved_other c (Err fault) s t e h = not_ok t fault h

saved_static : (s t : Store) (n : ℕ) (r : Result (List Value) Fault) → result_map_both (λ bs. with_blocks Static bs s) (λ (fault : Fault). fault) (result_map_both (λ written. slice_set s.static n (Some written)) (λ (fault : Fault). fault) r) ≡ Ok t
    → CopyStays s t
saved_static s t n (Ok cells) h = subst (CopyStays s) (ok_is (with_blocks Static (slice_set s.static n (Some cells)) s) t h) (set_live s.static n cells)
saved_static s t n (Err fault) h = not_ok t fault h

static_save : (s t : Store) (n k : ℕ) (v : Value) (o : Option (List Value)) → result_map_both (λ bs. with_blocks Static bs s) (λ (fault : Fault). fault) (save_in o s.static n k v) ≡ Ok t → CopyStays s t
static_save s t n k v None h = not_ok t F.Freed h
static_save s t n k v (Some cells) h = saved_static s t n (save_cell cells k v) h

pub save_stays : (c : Class) (n k : ℕ) (v : Value) (s t : Store) → save c n k v s ≡ Ok t → CopyStays s t
save_stays Static n k v s t h = static_save s t n k v (cells_of Static n s) h
save_stays Auto n k v s t h = saved_other Auto (save_in (cells_of Auto n s) s.auto n k v) s t refl h
save_stays Heap n k v s t h = saved_other Heap (save_in (cells_of Heap n s) s.heap n k v) s t refl h
save_stays Frame n k v s t h = saved_other Frame (save_in (cells_of Frame n s) s.frames n k v) s t refl h

freed_stays : (c : Class) (b : Bool) (bs : Blocks) (s t : Store) → same_class c Static ≡ false → cond b (Ok (with_blocks c bs s)) (Err F.BadFree) ≡ Ok t → CopyStays s t
freed_stays c true bs s t e h = subst (CopyStays s) (ok_is (with_blocks c bs s) t h) (other_stays c bs s e)
freed_stays c false bs s t e h = not_ok t F.BadFree h

pub free_stays : (c : Class) (v : Value) (s t : Store) → same_class c Static ≡ false → free c v s ≡ Ok t → CopyStays s t
free_stays c Unset s t e h = not_ok t F.Unset h
free_stays c (Whole kind z) s t e h = not_ok t F.BadFree h
free_stays c Null s t e h = subst (CopyStays s) (ok_is s t h) (λ l. l)
free_stays c (At d n k) s t e h = freed_stays c (same_class c d && is_some (cells_of d n s) && (k == 0)) (slice_set (blocks c s) n None) s t e h
free_stays c (Code f) s t e h = not_ok t F.BadFree h
free_stays c (Cond n) s t e h = not_ok t F.BadFree h

pub alloc_stays : (c : Class) (cells : List Value) (s : Store) → same_class c Static ≡ false → CopyStays s (alloc c cells s)
alloc_stays c cells s e = other_stays c _ s e
