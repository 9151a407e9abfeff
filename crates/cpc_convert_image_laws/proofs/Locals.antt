-- Variables that stand in locals are read there, and stand there after an act.
use Rattle.std.proofs.Common.{◌≡◌, ◌⊎◌, inl, inr, ℕ, Bool, true, false, cond, List, [], ◌∷◌, Some, slice_set, bytes_eq, refl, sym, ◌∙◌, subst}
use Rattle.std.proofs.lemmas.Bool.{cases_eq}
use Rattle.cpc_base.specs.Bytes.{Text}
use Rattle.cpc_tree.specs.Syntax.{Ty, Program}
use Rattle.cpc_tree.specs.Typing.{Scope, ALocal, named, item_named}
use Rattle.cpc_store.specs.Store.{Value}
use Rattle.cpc_meaning.specs.Answer.{Answer, Gives, ◌>>=◌}
use Rattle.cpc_meaning.specs.Eval.{Slot, Register, assigned}
use Rattle.cpc_meaning.specs.Requests.{arguments}
use Rattle.cpc_convert_image_laws.specs.Native.{KeptItem}
use Rattle.cpc_convert_image_laws.specs.Locals.{reading_of, local_type, HasField, readings_in, Stands, AsValue, AsBlock, Fits, FitsAt, StandsFor}
use Rattle.cpc_convert_image_laws.specs.Relations.{Means, InLocal, InBox, Changed, NoneChanged, BothChanged, OneToOne}
use Rattle.cpc_convert_image_laws.proofs.Slots.{assigned_fits, got_set, got_other, register_kept, box_kept}
use Rattle.cpc_convert_image_laws.proofs.Natives.{item_means}

-- ---- values that fit

-- arguments that were converted are converted to themselves
pub arguments_fit : (ts : List Ty) (vs ws : List Value) → arguments ts vs ≡ Gives ws → arguments ts ws ≡ Gives ws
arguments_fit [] [] ws e = let i : [] ≡ ws = cc in subst (λ x. arguments [] x ≡ Gives x) i refl
arguments_fit (t ∷ ts) (v ∷ vs) ws e = first (λ us. arguments_fit ts vs us) (assigned t v) refl e
  where
    rest : (w : Value) → assigned t w ≡ Gives w → (b : Answer (List Value)) → ((us : List Value) → b ≡ Gives us → arguments ts us ≡ Gives us) → (b >>= λ us. Gives (w ∷ us)) ≡ Gives ws → arguments (t ∷ ts) ws ≡ Gives ws
    rest w h (Gives us) k e =
        let i : w ∷ us ≡ ws = cc in
        subst (λ x. arguments (t ∷ ts) x ≡ Gives x) i (rw (h, k us refl) refl)
    rest w h _ k e = absurd (cc)

    first : ((us : List Value) → arguments ts vs ≡ Gives us → arguments ts us ≡ Gives us) → (a : Answer Value) → assigned t v ≡ a → (a >>= λ w. arguments ts vs >>= λ us. Gives (w ∷ us)) ≡ Gives ws → arguments (t ∷ ts) ws ≡ Gives ws
    first k (Gives w) h e = rest w (assigned_fits t v w h) (arguments ts vs) k e
    first k _ h e = absurd (cc)
arguments_fit [] (v ∷ vs) ws e = absurd (cc)
arguments_fit (t ∷ ts) [] ws e = absurd (cc)

-- ---- variables in locals

module _ (P : ℕ → Ty → ℕ → Type 0) (slots slots' : List Slot) where
  -- a variable that stands in a local is read there
  pub stands_means : (C : Text → Type 0) (q : Program) (scope : Scope) (x y tag : Text) (mark : Bool) (k k' : ℕ) (t : Ty) → P k t k' → Stands slots slots' mark k k' → named q scope y ≡ ALocal k' (local_type mark t tag) → HasField mark q tag x t
      → Means C P q scope slots slots' x (Some (reading_of mark y x)) (ALocal k t)
  stands_means C q scope x y tag _ _ _ t h (AsValue k k' v e f) n g = InLocal y k k' t v h e n f
  stands_means C q scope x y tag _ _ _ t h (AsBlock k k' b e f) n g = InBox y x tag k k' t b h e n g f

  -- it stands there after an act of both
  pub stands_kept : OneToOne P → (a b : List Slot) (mark : Bool) (k k' : ℕ) (t : Ty) → Changed P slots slots' a b → P k t k' → Stands slots slots' mark k k' → Stands a b mark k k'
  stands_kept one a b _ _ _ t c h (AsValue k k' v e f) = let z = register_kept P one slots slots' a b k k' t v c h e f in AsValue k k' z.0 z.1 z.2
  stands_kept one a b _ _ _ t c h (AsBlock k k' n e f) = let z = box_kept P one slots slots' a b k k' n t _ c h e f in AsBlock k k' n z.0 z.1

  -- and after another local of the target was written
  pub stands_apart : (mark : Bool) (k k' j' : ℕ) (x : Slot) → ¬ (j' ≡ k') → Stands slots slots' mark k k' → Stands slots (slice_set slots' j' x) mark k k'
  stands_apart _ _ _ j' x d (AsValue k k' v e f) = AsValue k k' v e (got_other slots' j' k' _ x d f)
  stands_apart _ _ _ j' x d (AsBlock k k' n e f) = AsBlock k k' n e (got_other slots' j' k' _ x d f)

  -- a register holds a value of its type after an act, where each variable has one type
  pub fits_kept : ((k k' j j' : ℕ) (t u : Ty) → P k t k' → P j u j' → k ≡ j → t ≡ u) → (a b : List Slot) (k k' : ℕ) (t : Ty) → Changed P slots slots' a b → P k t k' → FitsAt slots t k → FitsAt a t k
  fits_kept one _ _ k k' t NoneChanged h fits v e = fits v e
  fits_kept one _ _ k k' t (BothChanged j j' u x y w i g g' f) h fits v e = by (cases_eq j k)
    where
      by : (j ≡ k) ⊎ ¬ (j ≡ k) → Fits t v
      by (inl same) =
          let new : Some (Register w) ≡ Some (Register v) = sym (got_set slots j k (Register x) (Register w) same g) ∙ e in
          let is : w ≡ v = cc in
          subst (λ z. Fits t z) is (subst (λ z. Fits z w) (one j j' k k' u t i h same) (assigned_fits u y w f))
      by (inr other) = fits v (sym (got_other slots j k _ (Register w) other refl) ∙ e)

-- ---- scopes

-- where the variables of a scope stand in locals, each name means what it should
pub scope_means : (C : Text → Type 0) (P : ℕ → Ty → ℕ → Type 0) (p q : Program) (marks : ℕ → Bool) (spelled : ℕ → Text → Text) (boxes : ℕ → Text) (scope scope' : Scope) (slots slots' : List Slot) (x : Text)
    → StandsFor P marks spelled boxes q scope' slots slots' x (named p scope x) → KeptItem C x (item_named 0 p x) (named q scope' x) → Means C P q scope' slots slots' x (readings_in marks spelled scope x) (named p scope x)
scope_means C P p q marks spelled boxes [] scope' slots slots' x h i = item_means C P q scope' slots slots' x _ _ i refl
scope_means C P p q marks spelled boxes (l ∷ scope) scope' slots slots' x h i = go (bytes_eq l.called x) h (λ j. scope_means C P p q marks spelled boxes scope scope' slots slots' x j i)
  where
    go : (b : Bool) → StandsFor P marks spelled boxes q scope' slots slots' x (cond b (ALocal l.slot l.type) (named p scope x)) → (StandsFor P marks spelled boxes q scope' slots slots' x (named p scope x) → Means C P q scope' slots slots' x (readings_in marks spelled scope x) (named p scope x))
        → Means C P q scope' slots slots' x (cond b (Some (reading_of (marks l.slot) (spelled l.slot x) x)) (readings_in marks spelled scope x)) (cond b (ALocal l.slot l.type) (named p scope x))
    go true h rest = stands_means P slots slots' C q scope' x (spelled l.slot x) (boxes l.slot) (marks l.slot) l.slot h.0 l.type h.1 h.2 h.3 h.4
    go false h rest = rest h
