-- Blocks that are all live and told from each other are freed; where one is not, none is.
use Rattle.std.proofs.Common.{◌≡◌, ◌≢◌, ℕ, ◌+◌, ◌<◌, Bool, true, false, List, [], ◌∷◌, length, Option, Some, None, refl, sym, ap, subst, ◌∙◌, arith}
use Rattle.std.specs.Prelude.{◌&&◌, ◌==◌, is_some, slice_set, if◌then◌else◌, Result, Ok, Err}
use Rattle.std.specs.Option.{option_map}
use Rattle.std.specs.Result.{result_map_both, OnErr}
use Rattle.cpc_base.specs.declared.names.Name.{Name}
use Rattle.cpc_num.specs.declared.kinds.Fault.{Fault}
use Rattle.cpc_num.specs.declared.kinds.Fault.TheVariants as F
use Rattle.cpc_store.specs.declared.values.Class.TheVariants.{Auto}
use Rattle.cpc_store.specs.Store.{StoreOf, Store, Value, At, blocks, with_blocks, cells_of, free}
use Rattle.cpc_store.proofs.CodeLemmas.{size-map}
use Rattle.cpc_store.proofs.StoreLemmas.{cells_of-set_other}
use Rattle.cpc_tree.specs.Erase.{Names}
use Rattle.cpc_meaning.specs.Answer.{Answer, Gives, Faults, ◌>>=◌, of_result}
use Rattle.cpc_meaning.specs.Slots as M
use Rattle.cpc_eval_values.specs.Meets.{Meets}
use Rattle.cpc_eval_values.specs.Shown.{store_of}
use Rattle.cpc_eval.specs.declared.around.Slot.{Slot}
use Rattle.cpc_eval.specs.declared.around.Slot.TheVariants as S
use Rattle.cpc_native_frames.specs.Frames.{RiseFrom}
use Rattle.cpc_native_frames.specs.Living.{are_live}
use Rattle.cpc_native_frames.specs.Made.{slots_of}

-- the blocks of all slots are live in a store that is meant
abbrev alive : Store → List Slot → Bool
alive s [] = true
alive s (S.Register v ∷ slots) = alive s slots
alive s (S.Boxed n ∷ slots) = is_some (cells_of Auto n s) && alive s slots

some_length : (o : Option (List Value)) → is_some (option_map length o) ≡ is_some o
some_length None = refl
some_length (Some cells) = refl

pub alive_is : (names : Names) (s : StoreOf Name) (slots : List Slot) → are_live s slots ≡ alive (store_of names s) slots
alive_is names s [] = refl
alive_is names s (S.Register v ∷ slots) = alive_is names s slots
alive_is names s (S.Boxed n ∷ slots) =
    ap (λ b. b && are_live s slots) (ap is_some (sym (size-map names Auto n s)) ∙ some_length (cells_of Auto n (store_of names s)))
    ∙ ap (λ b. is_some (cells_of Auto n (store_of names s)) && b) (alive_is names s slots)

-- the store without a block
abbrev pub without : ℕ → Store → Store
without n s = with_blocks Auto (slice_set (blocks Auto s) n None) s

-- blocks of greater numbers stay
above : (n k : ℕ) (slots : List Slot) (s : Store) → n < k → RiseFrom k slots → alive (without n s) slots ≡ alive s slots
above n k [] s h r = refl
above n k (S.Register v ∷ slots) s h r = above n k slots s h r
above n k (S.Boxed m ∷ slots) s h r =
    let ne : m ≢ n = omega (arith, r.0) in
    ap (λ o. is_some o && alive (without n s) slots) (cells_of-set_other Auto n None s Auto m (λ _. ne))
    ∙ ap (λ b. is_some (cells_of Auto m s) && b) (above n (m + 1) slots s (omega (arith, r.0)) r.1)

-- a block that is live is freed
pub freed : (n : ℕ) (s : Store) → is_some (cells_of Auto n s) ≡ true → free Auto (At Auto n 0) s ≡ Ok (without n s)
freed n s e = ap (λ b. if b && (0 == 0) then Ok (without n s) else Err F.BadFree) e

pub unfreed : (n : ℕ) (s : Store) → is_some (cells_of Auto n s) ≡ false → free Auto (At Auto n 0) s ≡ Err F.BadFree
unfreed n s e = ap (λ b. if b && (0 == 0) then Ok (without n s) else Err F.BadFree) e

pub all_freed : (names : Names) (k : ℕ) (slots : List Slot) (s : Store) → RiseFrom k slots → alive s slots ≡ true → (t : Store) × (M.free_slots (slots_of names slots) s ≡ Gives t)
all_freed names k [] s r e = (s, refl)
all_freed names k (S.Register v ∷ slots) s r e = all_freed names k slots s r e
all_freed names k (S.Boxed n ∷ slots) s r e =
    go (is_some (cells_of Auto n s)) refl e (λ h. all_freed names (n + 1) slots (without n s) r.1 (above n (n + 1) slots s (omega arith) r.1 ∙ h))
  where
    go : (b : Bool) → is_some (cells_of Auto n s) ≡ b → (b && alive s slots) ≡ true → (alive s slots ≡ true → (t : Store) × (M.free_slots (slots_of names slots) (without n s) ≡ Gives t))
        → (t : Store) × (M.free_slots (slots_of names (S.Boxed n ∷ slots)) s ≡ Gives t)
    go false i e rest = absurd cc
    go true i e rest = ((rest e).0, ap (λ q. of_result q >>= M.free_slots (slots_of names slots)) (freed n s i) ∙ (rest e).1)

pub one_dead : (names : Names) (k : ℕ) (slots : List Slot) (s : Store) → RiseFrom k slots → alive s slots ≡ false → M.free_slots (slots_of names slots) s ≡ Faults F.BadFree
one_dead names k [] s r e = absurd cc
one_dead names k (S.Register v ∷ slots) s r e = one_dead names k slots s r e
one_dead names k (S.Boxed n ∷ slots) s r e =
    go (is_some (cells_of Auto n s)) refl e (λ h. one_dead names (n + 1) slots (without n s) r.1 (above n (n + 1) slots s (omega arith) r.1 ∙ h))
  where
    go : (b : Bool) → is_some (cells_of Auto n s) ≡ b → (b && alive s slots) ≡ false → (alive s slots ≡ false → M.free_slots (slots_of names slots) (without n s) ≡ Faults F.BadFree)
        → M.free_slots (slots_of names (S.Boxed n ∷ slots)) s ≡ Faults F.BadFree
    go false i e rest = ap (λ q. of_result q >>= M.free_slots (slots_of names slots)) (unfreed n s i)
    go true i e rest = ap (λ q. of_result q >>= M.free_slots (slots_of names slots)) (freed n s i) ∙ rest e

err_ok : {X : Type 0} (fault : Fault) (t : X) → ◌≡◌ {A = Result X Fault} (Err fault) (Ok t) → ⊥
err_ok fault t e = cc

-- what was freed without a fault has none
pub no_fault : (r : Result (Unit {0}) Fault) (u : Store) (a : Answer Store) (t : Store) (P : Type 0) → Meets (result_map_both (λ _. u) (λ fault. fault) r) a → a ≡ Gives t → OnErr r P
no_fault (Ok x) u a t P m e = tt
no_fault (Err fault) u a t P m e = absurd (err_ok fault t (let Q : Answer Store → Type 0 = Meets {A = Store} (Err fault) in subst Q e m))
