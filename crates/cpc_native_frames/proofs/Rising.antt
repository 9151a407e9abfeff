-- Slots that are made one after the other: the numbers of their blocks rise.
use Rattle.std.proofs.Common.{◌≡◌, ℕ, ◌+◌, ◌≤◌, List, [], ◌∷◌, ◌++◌, ap, sym, ◌∙◌, arith, length-append}
use Rattle.std.proofs.lemmas.List.{length-map}
use Rattle.cpc_base.specs.declared.names.Name.{Name}
use Rattle.cpc_store.specs.declared.values.Class.TheVariants.{Auto}
use Rattle.cpc_store.specs.Store.{Value, StoreOf, alloc, next_block}
use Rattle.cpc_tree.specs.Erase.{Names}
use Rattle.cpc_eval_values.specs.Shown.{store_of}
use Rattle.cpc_eval.specs.declared.around.Slot.{Slot}
use Rattle.cpc_eval.specs.declared.around.Slot.TheVariants as S
use Rattle.cpc_native_frames.specs.Frames.{RiseFrom}
use Rattle.cpc_native_frames.specs.Made.{IsNext}

-- the numbers rise from the first number on, and are below the last
abbrev pub Rising : ℕ → List Slot → ℕ → Type 0
Rising n [] m = n ≤ m
Rising n (S.Register v ∷ slots) m = Rising n slots m
Rising n (S.Boxed k ∷ slots) m = (n ≤ k) × Rising (k + 1) slots m

pub rise_from : (n : ℕ) (slots : List Slot) (m : ℕ) → Rising n slots m → RiseFrom n slots
rise_from n [] m h = tt
rise_from n (S.Register v ∷ slots) m h = rise_from n slots m h
rise_from n (S.Boxed k ∷ slots) m h = (h.0, rise_from (k + 1) slots m h.1)

last_more : (n : ℕ) (slot : Slot) (m m' : ℕ) → n ≤ m → IsNext slot m m' → Rising n (slot ∷ []) m'
last_more n (S.Register v) m m' h e = omega arith
last_more n (S.Boxed k) m m' h e = (omega (arith, e.0), omega (arith, e.0, e.1))

pub rise_more : (n : ℕ) (slots : List Slot) (slot : Slot) (m m' : ℕ) → Rising n slots m → IsNext slot m m' → Rising n (slots ++ slot ∷ []) m'
rise_more n [] slot m m' h e = last_more n slot m m' h e
rise_more n (S.Register v ∷ slots) slot m m' h e = rise_more n slots slot m m' h e
rise_more n (S.Boxed k ∷ slots) slot m m' h e = (h.0, rise_more (k + 1) slots slot m m' h.1 e)

-- the number of the next block does not hang on names
pub next_seen : (names : Names) (s : StoreOf Name) → next_block Auto (store_of names s) ≡ next_block Auto s
next_seen names s = length-map s.auto _

pub next_made : (names : Names) (cells : List Value) (s t : StoreOf Name) → store_of names t ≡ alloc Auto cells (store_of names s) → next_block Auto t ≡ next_block Auto s + 1
next_made names cells s t e =
    sym (next_seen names t) ∙ (ap (next_block Auto) e ∙ (length-append _ _ ∙ ap (λ n. n + 1) (next_seen names s)))
