-- The slots of a call, freed one after the other.
use Rattle.std.proofs.Common.{◌≡◌, ℕ, ◌+◌, ◌<◌, ◌≤◌, List, ◌∷◌, length, get_or, drop, refl, sym, ap, subst, ◌∙◌}
use Rattle.std.specs.Prelude.{Result, Ok, Err}
use Rattle.std.specs.Result.{result_map_both}
use Rattle.std.proofs.lemmas.List.{drop_more, drop_all}
use Rattle.cpc_num.specs.declared.kinds.Fault.{Fault}
use Rattle.cpc_base.specs.declared.names.Name.{Name}
use Rattle.cpc_store.specs.declared.values.Class.TheVariants.{Auto}
use Rattle.cpc_store.specs.Store.{StoreOf, Store, At, free}
use Rattle.cpc_store.specs.Seen.{result_with}
use Rattle.cpc_store.proofs.CodeLemmas.{free-map}
use Rattle.cpc_meaning.specs.Answer.{Answer, Gives, Faults, ◌>>=◌, of_result}
use Rattle.cpc_meaning.specs.Eval as E
use Rattle.cpc_meaning.specs.Slots as M
use Rattle.cpc_tree.specs.Erase.{Names}
use Rattle.cpc_eval_values.specs.Meets.{Meets}
use Rattle.cpc_eval_values.specs.Shown.{store_of}
use Rattle.cpc_eval.specs.declared.around.Slot.{Slot}
use Rattle.cpc_eval.specs.Around.{slot_of}
use Rattle.cpc_native_frames.specs.Made.{slots_of, free_slot}

seen_twice : (names : Names) (u : StoreOf Name) (r : Result (Unit {0}) Fault) → result_map_both {D = Fault} (λ _. store_of names u) (λ fault. fault) r ≡ result_map_both (store_of names) (λ fault. fault) (result_with u r)
seen_twice names u (Ok x) = refl
seen_twice names u (Err fault) = refl

pub block_freed : (names : Names) (n : ℕ) (s u : StoreOf Name) (r : Result (Unit {0}) Fault) → result_with u r ≡ free Auto (At Auto n 0) s
    → result_map_both {D = Fault} (λ _. store_of names u) (λ fault. fault) r ≡ free Auto (At Auto n 0) (store_of names s)
block_freed names n s u r e = seen_twice names u r ∙ (ap (result_map_both (store_of names) (λ fault. fault)) e ∙ sym (free-map names Auto (At Auto n 0) s))

first_freed : (slot : E.Slot) (rest : List E.Slot) (s : Store) → M.free_slots (slot ∷ rest) s ≡ (of_result (free_slot slot s) >>= M.free_slots rest)
first_freed (E.Register v) rest s = refl
first_freed (E.Boxed n) rest s = refl

module _ (names : Names) (slots : List Slot) (i : ℕ) (d : Slot) (s t : StoreOf Name) (r : Result (Unit {0}) Fault) (within : i < length slots)
    (freed : result_map_both {D = Fault} (λ _. store_of names t) (λ fault. fault) r ≡ free_slot (slot_of names (get_or slots i d)) (store_of names s)) where
  first : M.free_slots (slots_of names (drop i slots)) (store_of names s) ≡ (of_result (free_slot (slot_of names (get_or slots i d)) (store_of names s)) >>= M.free_slots (slots_of names (drop (i + 1) slots)))
  first =
      ap (λ l. M.free_slots (slots_of names l) (store_of names s)) (drop_more slots i d within)
      ∙ first_freed (slot_of names (get_or slots i d)) (slots_of names (drop (i + 1) slots)) (store_of names s)

  pub freed_more : (u : Unit {0}) → r ≡ Ok u → M.free_slots (slots_of names (drop (i + 1) slots)) (store_of names t) ≡ M.free_slots (slots_of names (drop i slots)) (store_of names s)
  freed_more u e =
      ap (λ q. of_result q >>= M.free_slots (slots_of names (drop (i + 1) slots))) (sym (ap (result_map_both (λ _. store_of names t) (λ fault. fault)) e) ∙ freed) ∙ sym first

  pub freed_not : (fault : Fault) → r ≡ Err fault → M.free_slots (slots_of names (drop i slots)) (store_of names s) ≡ Faults fault
  freed_not fault e = first ∙ ap (λ q. of_result q >>= M.free_slots (slots_of names (drop (i + 1) slots))) (sym freed ∙ ap (result_map_both (λ _. store_of names t) (λ fault. fault)) e)

pub freed_all : (names : Names) (slots : List Slot) (i : ℕ) (s : StoreOf Name) → length slots ≤ i → M.free_slots (slots_of names (drop i slots)) (store_of names s) ≡ Gives (store_of names s)
freed_all names slots i s h = ap (λ l. M.free_slots (slots_of names l) (store_of names s)) (drop_all i slots h)

pub meets_by : {A : Type 0} (r : Result A Fault) (a b : Answer A) → a ≡ b → Meets r a → Meets r b
meets_by {A = A} r a b e m = let P : Answer A → Type 0 = Meets r in subst P e m
