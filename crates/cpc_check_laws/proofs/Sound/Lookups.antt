-- What the names of a frame stand for has its slot.
use Rattle.std.proofs.Common.{◌≡◌, ℕ, zero, suc, Bool, true, false, cond, List, [], ◌∷◌, ◌++◌, slice_get, Some, bytes_eq, sym, ◌∙◌, ap, subst}
use Rattle.cpc_base.specs.Bytes.{Text}
use Rattle.cpc_tree.specs.Syntax.{Ty, Program}
use Rattle.cpc_tree.specs.Typing.{Scope, ALocal, named}
use Rattle.cpc_tree.specs.Registers.{slot_of}
use Rattle.cpc_tree.proofs.Named.{no_local}
use Rattle.cpc_meaning.specs.Eval.{Slot}
use Rattle.cpc_check_laws.specs.Sound.Suits.{SuitsSlot, SuitsSome, SuitSlots, ScopeOf, AllBoxed}

-- a local has its type, and is where `&` looks for it
pub local_is : (ts : List Ty) (p : Program) (scope : Scope) (x : Text) (k : ℕ) (t : Ty) → ScopeOf ts scope → named p scope x ≡ ALocal k t → (slice_get ts k ≡ Some t) × (slot_of scope x ≡ k ∷ [])
local_is ts p [] x k t h e = absurd (no_local 0 p x k t e)
local_is ts p (l ∷ scope) x k t h e = go (bytes_eq l.called x) (local_is ts p scope x k t h.1) e
  where
    go : (b : Bool) → (named p scope x ≡ ALocal k t → (slice_get ts k ≡ Some t) × (slot_of scope x ≡ k ∷ []))
        → cond b (ALocal l.slot l.type) (named p scope x) ≡ ALocal k t → (slice_get ts k ≡ Some t) × (cond b (l.slot ∷ []) (slot_of scope x) ≡ k ∷ [])
    go true rest e = let f : l.slot ≡ k = cc in let g : l.type ≡ t = cc in (ap (slice_get ts) (sym f) ∙ h.0 ∙ ap (λ t. Some t) g, ap (λ n. n ∷ []) f)
    go false rest e = rest e

pub slot_suits : (ts : List Ty) (slots : List Slot) (k : ℕ) (t : Ty) → SuitSlots ts slots → slice_get ts k ≡ Some t → SuitsSome t (slice_get slots k)
slot_suits [] slots k t h e = absurd (cc)
slot_suits (u ∷ ts) [] k t h e = absurd h
slot_suits (u ∷ ts) (slot ∷ slots) zero t h e = let f : u ≡ t = cc in subst (λ t. SuitsSlot t slot) f h.0
slot_suits (u ∷ ts) (slot ∷ slots) (suc k) t h e = slot_suits ts slots k t h.1 e

-- ---- lists of numbers

pub boxed_left : (slots : List Slot) (ks ls : List ℕ) → AllBoxed slots (ks ++ ls) → AllBoxed slots ks
boxed_left slots [] ls h = tt
boxed_left slots (k ∷ ks) ls h = (h.0, boxed_left slots ks ls h.1)

pub boxed_right : (slots : List Slot) (ks ls : List ℕ) → AllBoxed slots (ks ++ ls) → AllBoxed slots ls
boxed_right slots [] ls h = h
boxed_right slots (k ∷ ks) ls h = boxed_right slots ks ls h.1
