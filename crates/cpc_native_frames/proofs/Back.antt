-- Blocks that were made for slots are freed again, and the store is as before.
use Rattle.std.proofs.Common.{◌≡◌, ℕ, zero, suc, Bool, true, false, List, [], ◌∷◌, ◌++◌, length, None, Some, refl, sym, ap, subst, ◌∙◌, append_assoc, append-nil}
use Rattle.std.specs.Prelude.{is_some, slice_get, slice_set, replicate, Result, Ok, Err}
use Rattle.std.specs.Result.{OnErr, result_map_both}
use Rattle.std.proofs.Math.ListN.{length-set}
use Rattle.cpc_num.specs.declared.kinds.Fault.{Fault}
use Rattle.cpc_store.specs.declared.values.Class.TheVariants.{Auto}
use Rattle.cpc_store.specs.Store.{Value, Blocks, Store, At, alloc, cells_of, free, live, next_block, with_blocks}
use Rattle.cpc_meaning.specs.Answer.{Answer, Gives, ◌>>=◌, of_result}
use Rattle.cpc_meaning.specs.Eval as E
use Rattle.cpc_meaning.specs.Slots.{free_slots}
use Rattle.cpc_eval_values.specs.Meets.{Meets}
use Rattle.cpc_native_frames.specs.Back.{IsAsBefore, CanTakeBack, IsMade}
use Rattle.cpc_native_frames.proofs.Living.{without, freed, unfreed}

-- nothing was made
pub as_before : (s : Store) → IsAsBefore s s
as_before s = record { freed = 0; is = ap (λ (bs : Blocks). with_blocks Auto bs s) (sym (append-nil s.auto)) }

pub as_before_by : (s t : Store) → t ≡ s → IsAsBefore s t
as_before_by s t e = let P : Store → Type 0 = IsAsBefore s in subst P (sym e) (as_before s)

-- ---- a block is made after others, and those are freed

before_last : (bs : Blocks) (n : ℕ) (cells : List Value) → is_some (live (slice_get bs n)) ≡ true
    → (slice_set (bs ++ Some cells ∷ []) n None ≡ slice_set bs n None ++ Some cells ∷ []) × (slice_get (bs ++ Some cells ∷ []) n ≡ slice_get bs n)
before_last [] n cells h = absurd cc
before_last (b ∷ bs) zero cells h = (refl, refl)
before_last (b ∷ bs) (suc n) cells h = let i = before_last bs n cells h in (ap (λ l. b ∷ l) i.0, i.1)

-- what is freed was live
was_live : (n : ℕ) (s t : Store) → free Auto (At Auto n 0) s ≡ Ok t → (is_some (cells_of Auto n s) ≡ true) × (without n s ≡ t)
was_live n s t e = go (is_some (cells_of Auto n s)) refl
  where
    go : (b : Bool) → is_some (cells_of Auto n s) ≡ b → (is_some (cells_of Auto n s) ≡ true) × (without n s ≡ t)
    go false i = absurd (let k = sym (unfreed n s i) ∙ e in cc)
    go true i = (i, let k = sym (freed n s i) ∙ e in cc)

one_before : (n : ℕ) (cells : List Value) (s t : Store) → free Auto (At Auto n 0) s ≡ Ok t → free Auto (At Auto n 0) (alloc Auto cells s) ≡ Ok (alloc Auto cells t)
one_before n cells s t e =
    let was = was_live n s t e in
    let last = before_last s.auto n cells was.0 in
    freed n (alloc Auto cells s) (ap (λ o. is_some (live o)) last.1 ∙ was.0)
    ∙ ap Ok (ap (λ (bs : Blocks). with_blocks Auto bs s) last.0 ∙ ap (alloc Auto cells) was.1)

slots_before : (slots : List E.Slot) (cells : List Value) (s t : Store) → free_slots slots s ≡ Gives t → free_slots slots (alloc Auto cells s) ≡ Gives (alloc Auto cells t)
slots_before [] cells s t e = let i : s ≡ t = cc in ap (λ (u : Store). Gives (alloc Auto cells u)) i
slots_before (E.Register v ∷ slots) cells s t e = slots_before slots cells s t e
slots_before (E.Boxed n ∷ slots) cells s t e = go (free Auto (At Auto n 0) s) refl e (λ u h. slots_before slots cells u t h)
  where
    go : (r : Result Store Fault) → free Auto (At Auto n 0) s ≡ r → (of_result r >>= free_slots slots) ≡ Gives t
        → ((u : Store) → free_slots slots u ≡ Gives t → free_slots slots (alloc Auto cells u) ≡ Gives (alloc Auto cells t)) → free_slots (E.Boxed n ∷ slots) (alloc Auto cells s) ≡ Gives (alloc Auto cells t)
    go (Err fault) i h rest = absurd cc
    go (Ok u) i h rest = ap (λ (r : Result Store Fault). of_result r >>= free_slots slots) (one_before n cells s u i) ∙ rest u h

-- ---- one slot after others

then_last : (slots : List E.Slot) (slot : E.Slot) (s t : Store) → free_slots slots s ≡ Gives t → free_slots (slots ++ slot ∷ []) s ≡ free_slots (slot ∷ []) t
then_last [] slot s t e = let i : s ≡ t = cc in ap (free_slots (slot ∷ [])) i
then_last (E.Register v ∷ slots) slot s t e = then_last slots slot s t e
then_last (E.Boxed n ∷ slots) slot s t e = go (free Auto (At Auto n 0) s) e (λ u h. then_last slots slot u t h)
  where
    go : (r : Result Store Fault) → (of_result r >>= free_slots slots) ≡ Gives t → ((u : Store) → free_slots slots u ≡ Gives t → free_slots (slots ++ slot ∷ []) u ≡ free_slots (slot ∷ []) t)
        → (of_result r >>= free_slots (slots ++ slot ∷ [])) ≡ free_slots (slot ∷ []) t
    go (Err fault) h rest = absurd cc
    go (Ok u) h rest = rest u h

same_next : (slots : List E.Slot) (s t : Store) → free_slots slots s ≡ Gives t → next_block Auto t ≡ next_block Auto s
same_next [] s t e = let i : s ≡ t = cc in ap (next_block Auto) (sym i)
same_next (E.Register v ∷ slots) s t e = same_next slots s t e
same_next (E.Boxed n ∷ slots) s t e = go (free Auto (At Auto n 0) s) refl e (λ u h. same_next slots u t h)
  where
    go : (r : Result Store Fault) → free Auto (At Auto n 0) s ≡ r → (of_result r >>= free_slots slots) ≡ Gives t → ((u : Store) → free_slots slots u ≡ Gives t → next_block Auto t ≡ next_block Auto u)
        → next_block Auto t ≡ next_block Auto s
    go (Err fault) i h rest = absurd cc
    go (Ok u) i h rest = rest u h ∙ (ap (next_block Auto) (sym (was_live n s u i).1) ∙ length-set s.auto n None)

-- ---- what is made can be taken back

one_more : {X : Type 0} (n : ℕ) (x : X) → replicate n x ++ x ∷ [] ≡ replicate (suc n) x
one_more zero x = refl
one_more (suc n) x = ap (λ l. x ∷ l) (one_more n x)

last_made : (cells : List Value) (s : Store) → free Auto (At Auto (next_block Auto s) 0) (alloc Auto cells s) ≡ Ok (with_blocks Auto (s.auto ++ None ∷ []) s)
last_made cells s =
    let last = at_end s.auto in
    freed (next_block Auto s) (alloc Auto cells s) (ap (λ o. is_some (live o)) last.1) ∙ ap (λ (bs : Blocks). Ok (with_blocks Auto bs s)) last.0
  where
    at_end : (bs : Blocks) → (slice_set (bs ++ Some cells ∷ []) (length bs) None ≡ bs ++ None ∷ []) × (slice_get (bs ++ Some cells ∷ []) (length bs) ≡ Some (Some cells))
    at_end [] = (refl, refl)
    at_end (b ∷ bs) = let i = at_end bs in (ap (λ l. b ∷ l) i.0, i.1)

pub back_none : (s : Store) → CanTakeBack [] s s
back_none s = record { store = s; frees = refl; back = as_before s }

pub back_more : (slots : List E.Slot) (slot : E.Slot) (s t u : Store) → CanTakeBack slots s t → IsMade slot t u → CanTakeBack (slots ++ slot ∷ []) s u
back_more slots (E.Register v) s t u b e = record { store = b.store; frees = ap (free_slots (slots ++ E.Register v ∷ [])) e ∙ then_last slots (E.Register v) t b.store b.frees; back = b.back }
back_more slots (E.Boxed n) s t u b e =
    let cells = e.1.0 in
    let r = b.store in
    let at : n ≡ next_block Auto r = e.0 ∙ sym (same_next slots t r b.frees) in
    record {
      store = with_blocks Auto (r.auto ++ None ∷ []) r;
      frees = ap (free_slots (slots ++ E.Boxed n ∷ [])) e.1.1 ∙ (then_last slots (E.Boxed n) (alloc Auto cells t) (alloc Auto cells r) (slots_before slots cells t r b.frees)
          ∙ (ap (λ m. free_slots (E.Boxed m ∷ []) (alloc Auto cells r)) at
          ∙ ap (λ (q : Result Store Fault). of_result q >>= free_slots []) (last_made cells r)));
      back = record {
        freed = suc b.back.freed;
        is = ap (λ (x : Store). with_blocks Auto (x.auto ++ None ∷ []) x) b.back.is
            ∙ ap (λ (bs : Blocks). with_blocks Auto bs s) (append_assoc s.auto (replicate b.back.freed None) (None ∷ []) ∙ ap (λ l. s.auto ++ l) (one_more b.back.freed None));
      };
    }

-- and what frees it does
pub taken_back : (slots : List E.Slot) (old new s : Store) (r : Result (Unit {0}) Fault) → CanTakeBack slots old new
    → Meets (result_map_both {D = Fault} (λ _. s) (λ fault. fault) r) (free_slots slots new) → IsAsBefore old s
taken_back slots old new s r b m = go r (let P : Answer Store → Type 0 = Meets (result_map_both {D = Fault} (λ _. s) (λ fault. fault) r) in subst P b.frees m)
  where
    go : (q : Result (Unit {0}) Fault) → Meets (result_map_both {D = Fault} (λ _. s) (λ fault. fault) q) (Gives b.store) → IsAsBefore old s
    go (Ok x) e = let i : s ≡ b.store = cc in (let P : Store → Type 0 = IsAsBefore old in subst P (sym i) b.back)
    go (Err fault) e = absurd cc

-- what holds in any case holds of an error
pub any_err : {T E : Type 0} (r : Result T E) (P : Type 0) → P → OnErr r P
any_err (Ok x) P p = tt
any_err (Err e) P p = p
