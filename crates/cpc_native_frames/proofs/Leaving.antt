-- The cells of slots, one after the other, and whether their call can be left.
use Rattle.std.proofs.Common.{◌≡◌, ℕ, ◌+◌, ◌-◌, ◌^◌, ◌<◌, ◌≤◌, min, List, [], ◌∷◌, length, get_or, drop, Option, Some, None, option_map, refl, sym, ap, subst, ◌∙◌, arith}
use Rattle.std.specs.Prelude.{◌&&◌, is_some}
use Rattle.std.proofs.lemmas.List.{drop_more, drop_all}
use Rattle.cpc_base.specs.declared.names.Name.{Name}
use Rattle.cpc_store.specs.declared.values.Class.TheVariants.{Auto}
use Rattle.cpc_store.specs.Store.{StoreOf, Store}
use Rattle.cpc_store.proofs.CodeLemmas.{size-map}
use Rattle.cpc_tree.specs.Erase.{Names}
use Rattle.cpc_meaning_laws.specs.Cell.Cells.{or_zero, slot_cells, slots_cells}
use Rattle.cpc_meaning.specs.Answer.{Answer}
use Rattle.cpc_meaning.specs.Slots as M
use Rattle.cpc_eval_values.specs.Shown.{store_of}
use Rattle.cpc_eval_index.specs.Sized.{capped}
use Rattle.cpc_eval.specs.Around.{slot_of}
use Rattle.cpc_eval.specs.declared.around.Slot.{Slot}
use Rattle.cpc_eval.specs.declared.around.Slot.TheVariants as S
use Rattle.cpc_native_frames.specs.Frames.{RiseFrom}
use Rattle.cpc_native_frames.specs.Living.{is_live, are_live, slot_size, CanLeave}
use Rattle.cpc_native_frames.specs.Made.{slots_of}
use Rattle.cpc_native_frames.proofs.Living.{alive_is, all_freed, one_dead}

-- a sum, where both are there
abbrev plus : Option ℕ → Option ℕ → Option ℕ
plus None o = None
plus (Some n) o = option_map (λ k. n + k) o

-- the cells of slots, if all their blocks are live
abbrev pub slots_size : StoreOf Name → List Slot → Option ℕ
slots_size s [] = Some 0
slots_size s (x ∷ xs) = plus (slot_size s x) (slots_size s xs)

-- with those that are left
abbrev pub with_left : ℕ → Option ℕ → Option ℕ
with_left t o = option_map (λ n. capped (t + n)) o

module _ (s : StoreOf Name) (slots : List Slot) (i : ℕ) (d : Slot) (t : ℕ) (h : i < length slots) where
  first : with_left t (slots_size s (drop i slots)) ≡ with_left t (plus (slot_size s (get_or slots i d)) (slots_size s (drop (i + 1) slots)))
  first = ap (λ l. with_left t (slots_size s l)) (drop_more slots i d h)

  pub size_more : (c r : ℕ) → Some c ≡ slot_size s (get_or slots i d) → r ≡ min (t + c) (2 ^ 64 - 1) → with_left r (slots_size s (drop (i + 1) slots)) ≡ with_left t (slots_size s (drop i slots))
  size_more c r e q = go (slots_size s (drop (i + 1) slots)) ∙ sym (first ∙ ap (λ o. with_left t (plus o (slots_size s (drop (i + 1) slots)))) (sym e))
    where
      go : (o : Option ℕ) → with_left r o ≡ with_left t (plus (Some c) o)
      go None = refl
      go (Some k) = let n : capped (r + k) ≡ capped (t + (c + k)) = omega arith in ap Some n

  pub size_not : None ≡ slot_size s (get_or slots i d) → with_left t (slots_size s (drop i slots)) ≡ None
  size_not e = first ∙ ap (λ o. with_left t (plus o (slots_size s (drop (i + 1) slots)))) (sym e)

pub size_end : (s : StoreOf Name) (slots : List Slot) (i t : ℕ) → length slots ≤ i → t < 2 ^ 64 → with_left t (slots_size s (drop i slots)) ≡ Some t
size_end s slots i t h low = ap (λ l. with_left t (slots_size s l)) (drop_all i slots h) ∙ (let n : capped (t + 0) ≡ t = omega arith in ap Some n)

-- ---- against the definitions

live_size : (s : StoreOf Name) (x : Slot) → is_some (slot_size s x) ≡ is_live s x
live_size s (S.Register v) = refl
live_size s (S.Boxed n) = refl

live_both : (o q : Option ℕ) → is_some (plus o q) ≡ (is_some o && is_some q)
live_both None q = refl
live_both (Some n) None = refl
live_both (Some n) (Some k) = refl

live_sizes : (s : StoreOf Name) (slots : List Slot) → is_some (slots_size s slots) ≡ are_live s slots
live_sizes s [] = refl
live_sizes s (x ∷ xs) = live_both (slot_size s x) (slots_size s xs) ∙ (ap (λ b. b && is_some (slots_size s xs)) (live_size s x) ∙ ap (λ b. is_live s x && b) (live_sizes s xs))

-- the cells of one slot, and of those after it
both_sized : (o q : Option ℕ) (n m k : ℕ) → plus o q ≡ Some n → ((c : ℕ) → o ≡ Some c → c ≡ m) → ((c : ℕ) → q ≡ Some c → c ≡ k) → n ≡ m + k
both_sized None q n m k e f g = absurd cc
both_sized (Some c) None n m k e f g = absurd cc
both_sized (Some c) (Some d) n m k e f g = let a = f c refl in let b = g d refl in let i : c + d ≡ n = cc in omega arith

one_sized : (names : Names) (s : StoreOf Name) (x : Slot) (c : ℕ) → slot_size s x ≡ Some c → c ≡ slot_cells (store_of names s) (slot_of names x)
one_sized names s (S.Register v) c e = cc
one_sized names s (S.Boxed n) c e = sym (ap or_zero (size-map names Auto n s ∙ e))

sized : (names : Names) (s : StoreOf Name) (slots : List Slot) (n : ℕ) → slots_size s slots ≡ Some n → n ≡ slots_cells (store_of names s) (slots_of names slots)
sized names s [] n e = cc
sized names s (x ∷ xs) n e = both_sized (slot_size s x) (slots_size s xs) n _ _ e (one_sized names s x) (sized names s xs)

pub cells_told : (names : Names) (s : StoreOf Name) (slots : List Slot) (r : ℕ) → with_left 0 (slots_size s slots) ≡ Some r → r ≡ min (slots_cells (store_of names s) (slots_of names slots)) (2 ^ 64 - 1)
cells_told names s slots r e = go (slots_size s slots) refl e
  where
    go : (o : Option ℕ) → slots_size s slots ≡ o → with_left 0 o ≡ Some r → r ≡ min (slots_cells (store_of names s) (slots_of names slots)) (2 ^ 64 - 1)
    go None i e = absurd cc
    go (Some n) i e = let h = sized names s slots n i in let m : capped (0 + n) ≡ r = cc in omega arith

some_left : (t : ℕ) (o : Option ℕ) → is_some (with_left t o) ≡ is_some o
some_left t None = refl
some_left t (Some n) = refl

module _ (names : Names) (s : StoreOf Name) (slots : List Slot) (rise : RiseFrom 0 slots) where
  pub can_leave : (n : ℕ) → with_left 0 (slots_size s slots) ≡ Some n → CanLeave (Some n) (M.free_slots (slots_of names slots) (store_of names s))
  can_leave n e =
      let alive = sym (alive_is names s slots) ∙ (sym (live_sizes s slots) ∙ (sym (some_left 0 (slots_size s slots)) ∙ ap is_some e)) in
      let freed = all_freed names 0 slots (store_of names s) rise alive in
      let P : Answer Store → Type 0 = CanLeave (Some n) in
      subst P (sym freed.1) tt

  pub cannot_leave : with_left 0 (slots_size s slots) ≡ None → CanLeave None (M.free_slots (slots_of names slots) (store_of names s))
  cannot_leave e =
      let dead = sym (alive_is names s slots) ∙ (sym (live_sizes s slots) ∙ (sym (some_left 0 (slots_size s slots)) ∙ ap is_some e)) in
      let P : Answer Store → Type 0 = CanLeave None in
      subst P (sym (one_dead names 0 slots (store_of names s) rise dead)) tt
