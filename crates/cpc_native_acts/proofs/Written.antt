-- Writes to slots and to cells.
use Rattle.std.proofs.Common.{◌≡◌, ℕ, zero, suc, ◌+◌, ◌≤◌, List, [], ◌∷◌, length, Result, Ok, Err, refl, sym, ap, ◌∙◌, arith}
use Rattle.std.specs.Prelude.{slice_set}
use Rattle.std.specs.Result.{result_map_both}
use Rattle.std.proofs.lemmas.List.{map-set, length-map}
use Rattle.std.proofs.Math.Seq.{set_out}
use Rattle.cpc_base.specs.declared.names.Name.{Name}
use Rattle.cpc_num.specs.declared.kinds.Fault.{Fault}
use Rattle.cpc_tree.specs.Erase.{Names}
use Rattle.cpc_store.specs.declared.values.Class.{Class}
use Rattle.cpc_store.specs.declared.values.Value as V
use Rattle.cpc_store.specs.Store.{Store, StoreOf, save}
use Rattle.cpc_store.specs.Seen.{seen, result_with}
use Rattle.cpc_store.proofs.CodeLemmas.{save-map}
use Rattle.cpc_meaning.specs.Answer.{Gives, ◌>>=◌, of_result}
use Rattle.cpc_meaning.specs.Eval as E
use Rattle.cpc_meaning.specs.Act as M
use Rattle.cpc_eval_values.specs.Meets.{Meets}
use Rattle.cpc_eval_values.specs.Shown.{value_of, store_of}
use Rattle.cpc_eval.specs.declared.around.Slot.{Slot}
use Rattle.cpc_eval.specs.declared.around.Slot.TheVariants as S
use Rattle.cpc_eval.specs.Around.{slot_of}
use Rattle.cpc_native_frames.specs.Frames.{RiseFrom}
use Rattle.cpc_native_frames.specs.Made.{slots_of}

-- ---- numbers of blocks still rise

lower : (m n : ℕ) (slots : List Slot) → m ≤ n → RiseFrom n slots → RiseFrom m slots
lower m n [] h r = tt
lower m n (S.Register v ∷ slots) h r = lower m n slots h r
lower m n (S.Boxed k ∷ slots) h r = (omega (arith, r.0), r.1)

pub rise_set : (n : ℕ) (slots : List Slot) (k : ℕ) (v : V.Value) → RiseFrom n slots → RiseFrom n (slice_set slots k (S.Register v))
rise_set n [] k v r = tt
rise_set n (S.Register w ∷ slots) zero v r = r
rise_set n (S.Boxed j ∷ slots) zero v r = lower n (j + 1) slots (omega (arith, r.0)) r.1
rise_set n (S.Register w ∷ slots) (suc k) v r = rise_set n slots k v r
rise_set n (S.Boxed j ∷ slots) (suc k) v r = (r.0, rise_set (j + 1) slots k v r.1)

-- ---- slots

module _ (names : Names) (c : E.Context) (old : List Slot) (s : StoreOf Name) (k : ℕ) (v : V.Value) (slots_are : c.slots ≡ slots_of names old) (store_is : c.store ≡ store_of names s) where
  -- what is written to a slot
  written_to : (new : List Slot) → slots_of names new ≡ slice_set (slots_of names old) k (E.Register (value_of names v))
      → Meets (Ok (slots_of names new, store_of names s)) (M.write c (E.InSlot k) (value_of names v))
  written_to new e = rw (slots_are, store_is, e) refl

  pub slot_written : Meets (Ok (slots_of names (slice_set old k (S.Register v)), store_of names s)) (M.write c (E.InSlot k) (value_of names v))
  slot_written = written_to (slice_set old k (S.Register v)) (map-set (slot_of names) old k (S.Register v))

  pub slot_absent : length old ≤ k → Meets (Ok (slots_of names old, store_of names s)) (M.write c (E.InSlot k) (value_of names v))
  slot_absent h = written_to old (sym (set_out (slots_of names old) k (E.Register (value_of names v)) (rw (length-map old (slot_of names)) h)))

-- ---- cells

meets_saved : {A : Type 0} (slots : A) (t : Store) (r : Result (Unit {0}) Fault) (q : Result Store Fault) → result_map_both {D = Fault} (λ _. t) (λ fault. fault) r ≡ q
    → Meets {A = A × Store} (result_map_both {D = Fault} (λ _. (slots, t)) (λ fault. fault) r) (of_result q >>= (λ s. Gives (slots, s)))
meets_saved {A = A} slots t (Ok x) q e = rw (sym e) refl
meets_saved {A = A} slots t (Err fault) q e = rw (sym e) refl

seen_twice : (names : Names) (u : StoreOf Name) (r : Result (Unit {0}) Fault) → result_map_both {D = Fault} (λ _. store_of names u) (λ fault. fault) r ≡ result_map_both (store_of names) (λ fault. fault) (result_with u r)
seen_twice names u (Ok x) = refl
seen_twice names u (Err fault) = refl

pub cell_written : (names : Names) (c : E.Context) (slots : List Slot) (s t : StoreOf Name) (cl : Class) (n k : ℕ) (v : V.Value) (r : Result (Unit {0}) Fault) → c.slots ≡ slots_of names slots → c.store ≡ store_of names s
    → result_with t r ≡ save cl n k (seen v) s → Meets (result_map_both {D = Fault} (λ _. (slots_of names slots, store_of names t)) (λ fault. fault) r) (M.write c (E.InCell cl n k) (value_of names v))
cell_written names c slots s t cl n k v r slots_are store_is e =
    rw (slots_are, store_is)
    (meets_saved (slots_of names slots) (store_of names t) r (save cl n k (value_of names v) (store_of names s))
    (seen_twice names t r ∙ (ap (result_map_both (store_of names) (λ fault. fault)) e ∙ sym (save-map names cl n k (seen v) s))))
