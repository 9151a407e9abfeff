-- What holds of the states of one system, along another that makes a step where it makes one.
use Rattle.std.proofs.Common.{◌≡◌, Option, Some, None, refl, subst}
use Rattle.cpc_meaning_matching.specs.Steps.{or_stay}
use Rattle.cpc_meaning.proofs.Meeting.{BothSome, SomeBoth, NoneBoth}

-- a state that is related to the state y and of which it holds: what a proof about the other system may carry along
pub record Along {X Y : Type 0} (R : X → Y → Type 0) (H : X → Type 0) (y : Y) : Type 0 where
  pub state : X
  pub related : R state y
  pub holds : H state

module _ {X Y : Type 0} (R : X → Y → Type 0) (H : X → Type 0) (next : X → Option X) (other : Y → Option Y) (both : (x : X) (y : Y) → R x y → BothSome R (next x) (other y)) (keeps : (x t : X) → H x → next x ≡ Some t → H t) where
  goes : (x : X) (t : Y) (u : Option X) (w : Option Y) → next x ≡ u → w ≡ Some t → H x → BothSome R u w → Along R H t
  goes x t _ _ e f h NoneBoth = absurd (cc)
  goes x t _ _ e f h (SomeBoth a b r) = let same : b ≡ t = cc in record { state = a; related = subst (R a) same r; holds = keeps x a h e }

  -- each step of the other system keeps it
  pub along_goes : (y t : Y) → Along R H y → other y ≡ Some t → Along R H t
  along_goes y t h e = goes h.state t (next h.state) (other y) refl e h.holds (both h.state y h.related)

  pub along_stays : (y : Y) → Along R H y → Along R H (or_stay y (other y))
  along_stays y h = go (other y) refl
    where
      go : (o : Option Y) → other y ≡ o → Along R H (or_stay y o)
      go None e = h
      go (Some t) e = along_goes y t h e
