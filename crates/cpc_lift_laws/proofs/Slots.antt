-- Slots of two frames that agree where they are kept, and of which the boxes are those that are marked.
use Rattle.std.proofs.Common.{◌≡◌, ℕ, zero, suc, Bool, true, false, List, [], ◌∷◌, Some, slice_get, slice_set, refl, ◌∙◌, ap}
use Rattle.cpc_base.proofs.Truth.{never_both}
use Rattle.cpc_store.specs.declared.values.Class.TheVariants.{Auto}
use Rattle.cpc_store.specs.Store.{Value, Unset, At, Store, free}
use Rattle.cpc_meaning.specs.Answer.{Answer, Gives, Faults, NoAnswer, ◌>>=◌, of_result}
use Rattle.cpc_meaning.specs.Eval.{Slot, Register, Boxed}
use Rattle.cpc_meaning.specs.Slots.{free_slots}
use Rattle.cpc_lift_laws.specs.Lifted.{tidy_slot, tidy_slots}

-- two slots, which are kept or not, and marked or not: a kept register has one value, and a box that is not kept may be forgotten
abbrev pub SlotMeets : (keep box : Bool) → Slot → Slot → Type 0
SlotMeets keep box (Register v) (Register w) = (box ≡ false) × (keep ≡ true → v ≡ w)
SlotMeets keep box (Boxed m) (Boxed n) = (box ≡ true) × (m ≡ n)
SlotMeets keep box (Boxed m) (Register w) = (box ≡ true) × (keep ≡ false)
SlotMeets keep box (Register v) (Boxed n) = ⊥

-- two lists of slots of one length
abbrev pub SlotsMeet : (keep box : ℕ → Bool) → List Slot → List Slot → Type 0
SlotsMeet keep box [] [] = Unit {0}
SlotsMeet keep box (x ∷ xs) (y ∷ ys) = SlotMeets (keep 0) (box 0) x y × SlotsMeet (λ k. keep (suc k)) (λ k. box (suc k)) xs ys
SlotsMeet keep box [] (y ∷ ys) = ⊥
SlotsMeet keep box (x ∷ xs) [] = ⊥

-- ---- kept slots are equal

same_kept : (keep box : Bool) (x y : Slot) → SlotMeets keep box x y → keep ≡ true → x ≡ y
same_kept keep box (Register v) (Register w) m e = ap (λ u. Register u) (m.1 e)
same_kept keep box (Boxed i) (Boxed j) m e = ap (λ n. Boxed n) m.1
same_kept keep box (Boxed i) (Register w) m e = absurd (never_both keep e m.1)
same_kept keep box (Register v) (Boxed j) m e = absurd m

pub same_slot : (keep box : ℕ → Bool) (xs ys : List Slot) → SlotsMeet keep box xs ys → (k : ℕ) → keep k ≡ true → slice_get xs k ≡ slice_get ys k
same_slot keep box [] [] m k e = refl
same_slot keep box (x ∷ xs) (y ∷ ys) m zero e = ap (λ u. Some u) (same_kept (keep 0) (box 0) x y m.0 e)
same_slot keep box (x ∷ xs) (y ∷ ys) m (suc k) e = same_slot (λ k. keep (suc k)) (λ k. box (suc k)) xs ys m.1 k e
same_slot keep box [] (y ∷ ys) m k e = absurd m
same_slot keep box (x ∷ xs) [] m k e = absurd m

-- ---- keeping less

weaker : (keep less box : Bool) (x y : Slot) → (less ≡ true → keep ≡ true) → SlotMeets keep box x y → SlotMeets less box x y
weaker keep less box (Register v) (Register w) h m = (m.0, λ e. m.1 (h e))
weaker keep less box (Boxed i) (Boxed j) h m = m
weaker keep true box (Boxed i) (Register w) h m = absurd (never_both keep (h refl) m.1)
weaker keep false box (Boxed i) (Register w) h m = (m.0, refl)
weaker keep less box (Register v) (Boxed j) h m = m

pub keep_less : (keep less box : ℕ → Bool) → ((k : ℕ) → less k ≡ true → keep k ≡ true) → (xs ys : List Slot) → SlotsMeet keep box xs ys → SlotsMeet less box xs ys
keep_less keep less box h [] [] m = tt
keep_less keep less box h (x ∷ xs) (y ∷ ys) m =
    (weaker (keep 0) (less 0) (box 0) x y (h 0) m.0, keep_less (λ k. keep (suc k)) (λ k. less (suc k)) (λ k. box (suc k)) (λ k. h (suc k)) xs ys m.1)
keep_less keep less box h [] (y ∷ ys) m = m
keep_less keep less box h (x ∷ xs) [] m = m

-- ---- a register is written

register_unmarked : (keep box : Bool) (x y : Slot) (v : Value) → x ≡ Register v → SlotMeets keep box x y → box ≡ false
register_unmarked keep box (Register u) (Register w) v e m = m.0
register_unmarked keep box (Boxed i) y v e m = absurd (cc)
register_unmarked keep box (Register u) (Boxed j) v e m = absurd m

pub set_meets : (keep box : ℕ → Bool) (xs ys : List Slot) → SlotsMeet keep box xs ys → (k : ℕ) (v : Value) → slice_get xs k ≡ Some (Register v) → (w : Value)
    → SlotsMeet keep box (slice_set xs k (Register w)) (slice_set ys k (Register w))
set_meets keep box [] [] m k v e w = absurd (cc)
set_meets keep box (x ∷ xs) (y ∷ ys) m zero v e w = ((register_unmarked (keep 0) (box 0) x y v (cc) m.0, λ h. refl), m.1)
set_meets keep box (x ∷ xs) (y ∷ ys) m (suc k) v e w = (m.0, set_meets (λ k. keep (suc k)) (λ k. box (suc k)) xs ys m.1 k v e w)
set_meets keep box [] (y ∷ ys) m k v e w = absurd m
set_meets keep box (x ∷ xs) [] m k v e w = absurd m

-- ---- boxes are freed

free_here : (m n : ℕ) (xs ys : List Slot) → m ≡ n → ((s : Store) → free_slots xs s ≡ free_slots ys s) → (s : Store) → free_slots (Boxed m ∷ xs) s ≡ free_slots (Boxed n ∷ ys) s
free_here m n xs ys e h s = ap (λ i. of_result (free Auto (At Auto i 0) s) >>= free_slots xs) e ∙ then_one (of_result (free Auto (At Auto n 0) s)) h
  where
    then_one : (a : Answer Store) → ((s : Store) → free_slots xs s ≡ free_slots ys s) → (a >>= free_slots xs) ≡ (a >>= free_slots ys)
    then_one (Gives t) h = h t
    then_one (Faults fault) h = refl
    then_one NoAnswer h = refl

pub frees_meet : (keep box : ℕ → Bool) (xs ys : List Slot) → SlotsMeet keep box xs ys → ((k : ℕ) → box k ≡ true → keep k ≡ true) → (s : Store) → free_slots xs s ≡ free_slots ys s
frees_meet keep box [] [] m h s = refl
frees_meet keep box (Register v ∷ xs) (Register w ∷ ys) m h s = frees_meet (λ k. keep (suc k)) (λ k. box (suc k)) xs ys m.1 (λ k. h (suc k)) s
frees_meet keep box (Boxed i ∷ xs) (Boxed j ∷ ys) m h s = free_here i j xs ys m.0.1 (frees_meet (λ k. keep (suc k)) (λ k. box (suc k)) xs ys m.1 (λ k. h (suc k))) s
frees_meet keep box (Boxed i ∷ xs) (Register w ∷ ys) m h s = absurd (never_both (keep 0) (h 0 m.0.0) m.0.1)
frees_meet keep box (Register v ∷ xs) (Boxed j ∷ ys) m h s = absurd m.0
frees_meet keep box [] (y ∷ ys) m h s = absurd m
frees_meet keep box (x ∷ xs) [] m h s = absurd m

-- ---- what is not kept is forgotten

tidy_meets : (keep box : Bool) (x y : Slot) → SlotMeets keep box x y → SlotMeets keep box x (tidy_slot keep y)
tidy_meets true box x y m = m
tidy_meets false box (Register v) (Register w) m = (m.0, λ e. absurd (cc))
tidy_meets false box (Boxed i) (Boxed j) m = (m.0, refl)
tidy_meets false box (Boxed i) (Register w) m = m
tidy_meets false box (Register v) (Boxed j) m = absurd m

pub tidy_slots_meet : (keep box : ℕ → Bool) (xs ys : List Slot) → SlotsMeet keep box xs ys → SlotsMeet keep box xs (tidy_slots keep ys)
tidy_slots_meet keep box [] [] m = tt
tidy_slots_meet keep box (x ∷ xs) (y ∷ ys) m = (tidy_meets (keep 0) (box 0) x y m.0, tidy_slots_meet (λ k. keep (suc k)) (λ k. box (suc k)) xs ys m.1)
tidy_slots_meet keep box [] (y ∷ ys) m = m
tidy_slots_meet keep box (x ∷ xs) [] m = m

tidy_forgets : (keep : Bool) (x slot : Slot) → Some (tidy_slot keep x) ≡ Some slot → keep ≡ false → slot ≡ Register Unset
tidy_forgets true x slot e f = absurd (cc)
tidy_forgets false x slot e f = cc

pub tidy_unset : (keep : ℕ → Bool) (xs : List Slot) (k : ℕ) (slot : Slot) → slice_get (tidy_slots keep xs) k ≡ Some slot → keep k ≡ false → slot ≡ Register Unset
tidy_unset keep [] k slot e f = absurd (cc)
tidy_unset keep (x ∷ xs) zero slot e f = tidy_forgets (keep 0) x slot e f
tidy_unset keep (x ∷ xs) (suc k) slot e f = tidy_unset (λ k. keep (suc k)) xs k slot e f
