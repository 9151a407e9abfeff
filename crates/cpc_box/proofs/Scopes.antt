-- Scopes of the code stay where more variables come.
use Rattle.std.proofs.Common.{◌≡◌, ℕ, zero, suc, ◌<◌, List, [], ◌∷◌, ◌++◌, length, map, slice_get, Option, Some, None, refl, ap, ◌∙◌, subst, arith}
use Rattle.cpc_base.proofs.Lists.{some_is, item_in_front, item_within}
use Rattle.cpc_tree.specs.Erase.{Names}
use Rattle.cpc_tree.specs.Typing as T
use Rattle.cpc_meaning.specs.Act as A
use Rattle.cpc_meaning.specs.Ways as W
use Rattle.cpc_forms_code.specs.declared.boxed.Variable.{Variable}
use Rattle.cpc_forms_code.specs.declared.boxed.BoxedPoint as B
use Rattle.cpc_forms_code.specs.Seen.{manner_seen, local_seen, scope_within, scope_behind, scope_seen}
use Rattle.cpc_forms_code.specs.Points.{BoxedPoint, point_seen}
use Rattle.cpc_box.specs.Walked.{IsBefore, Chain, NoLocal, Inner, IsSeen, AreSeen}

-- an element of a list with one more is one of it, or that one
pub get_either : {A : Type 0} (P : A → Type 0) (xs : List A) (y : A) → ((k : ℕ) (x : A) → slice_get xs k ≡ Some x → P x) → P y → (k : ℕ) (x : A) → slice_get (xs ++ y ∷ []) k ≡ Some x → P x
get_either P [] y f q zero x e = let h : y ≡ x = some_is y x e in subst P h q
get_either P [] y f q (suc k) x e = absurd (let h : None ≡ Some x = e in cc)
get_either P (a ∷ xs) y f q zero x e = f 0 x e
get_either P (a ∷ xs) y f q (suc k) x e = get_either P xs y (λ j. f (suc j)) q k x e

module _ (names : Names) where
  pub chain_more : (vs ws : List Variable) (o : Option ℕ) (sc : T.Scope) → Chain names vs o sc → Chain names (vs ++ ws) o sc
  chain_more vs ws o sc NoLocal = NoLocal
  chain_more vs ws o sc (Inner k v outer g b c) = Inner k v outer (item_in_front vs ws k v g) b (chain_more vs ws v.outer outer c)

  pub chain_before : (vs : List Variable) (o : Option ℕ) (sc : T.Scope) → Chain names vs o sc → IsBefore o (length vs)
  chain_before vs o sc NoLocal = tt
  chain_before vs o sc (Inner k v outer g b c) = item_within vs k v g

  before_less : (o : Option ℕ) (k d : ℕ) → IsBefore o k → k < suc d → IsBefore o d
  before_less None k d b h = tt
  before_less (Some j) k d b h = omega arith

  -- what a chain of scopes is seen as
  pub chain_within : (vs : List Variable) (d : ℕ) (o : Option ℕ) (sc : T.Scope) → Chain names vs o sc → IsBefore o d → scope_within names vs d o ≡ sc
  chain_within vs d o sc NoLocal b = refl
  chain_within vs zero o sc (Inner k v outer g h c) b = absurd (let i : k < 0 = b in omega arith)
  chain_within vs (suc d) o sc (Inner k v outer g h c) b =
      ap (scope_behind names (scope_within names vs d) k) g
      ∙ ap (λ s. local_seen names k v ∷ s) (chain_within vs d v.outer outer c (before_less v.outer k d h b))

  pub chain_seen : (vs : List Variable) (o : Option ℕ) (sc : T.Scope) → Chain names vs o sc → scope_seen names vs o ≡ sc
  chain_seen vs o sc c = chain_within vs (length vs) o sc c (chain_before vs o sc c)

  -- ---- points

  pub seen_more : (vs ws : List Variable) (bs : List B.BoxedPoint) (ps : List BoxedPoint) → AreSeen names vs bs ps → AreSeen names (vs ++ ws) bs ps
  seen_more vs ws [] [] a = tt
  seen_more vs ws [] (p ∷ ps) a = absurd a
  seen_more vs ws (b ∷ bs) [] a = absurd a
  seen_more vs ws (b ∷ bs) (p ∷ ps) a = (record { stood = a.0.stood; scope = chain_more vs ws b.scope p.scope a.0.scope; manner = a.0.manner }, seen_more vs ws bs ps a.1)

  pub seen_last : (vs : List Variable) (bs : List B.BoxedPoint) (ps : List BoxedPoint) (b : B.BoxedPoint) (p : BoxedPoint) → AreSeen names vs bs ps → IsSeen names vs b p → AreSeen names vs (bs ++ b ∷ []) (ps ++ p ∷ [])
  seen_last vs [] [] b p a i = (i, tt)
  seen_last vs [] (q ∷ ps) b p a i = absurd a
  seen_last vs (c ∷ bs) [] b p a i = absurd a
  seen_last vs (c ∷ bs) (q ∷ ps) b p a i = (a.0, seen_last vs bs ps b p a.1 i)

  abbrev point : A.Stood → T.Scope → W.Manner → BoxedPoint
  point stood scope manner = record { stood = stood; scope = scope; manner = manner }

  -- points one by one, as a list
  pub all_seen : (vs : List Variable) (bs : List B.BoxedPoint) (ps : List BoxedPoint) → AreSeen names vs bs ps → map (point_seen names vs) bs ≡ ps
  all_seen vs [] [] a = refl
  all_seen vs [] (p ∷ ps) a = absurd a
  all_seen vs (b ∷ bs) [] a = absurd a
  all_seen vs (b ∷ bs) (p ∷ ps) a =
      ap (λ q. q ∷ map (point_seen names vs) bs)
      (ap (λ x. point x (scope_seen names vs b.scope) (manner_seen b.manner)) a.0.stood ∙ (ap (λ s. point p.stood s (manner_seen b.manner)) (chain_seen vs b.scope p.scope a.0.scope) ∙ ap (point p.stood p.scope) a.0.manner))
      ∙ ap (λ qs. p ∷ qs) (all_seen vs bs ps a.1)
