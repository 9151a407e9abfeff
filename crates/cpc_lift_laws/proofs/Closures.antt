-- Least closures: that they are closed, that they are least, and how they are found by a search.
use Rattle.std.proofs.Common.{◌<◌, ◌≡◌, ⊎_elim, ℕ, Bool, true, refl, sym, subst}
use Rattle.cpc_base.specs.Bytes.{Text}
use Rattle.cpc_tree.specs.Lists.{holds_number}
use Rattle.cpc_meaning.specs.Plain.{Code}
use Rattle.cpc_lift_laws.specs.Used.{used_at}
use Rattle.cpc_lift_laws.specs.Closed.{Stands, ClosedIn}
use Rattle.cpc_lift_laws.specs.Closures.{InClosure, Occurs, IsFreed, GoesOn, Arrives, UsedBy, HasName, HasBox, LeadsTo, ByWay, ByArrival, Reaches, Here, Further, KeepsAll, SplitIsClosed, ClosuresAreBelow, ClosuresAreClosed, ClosuresAreLeast, ClosuresAreReached}

pub closures_are_closed : (P O : Type 0) → ClosuresAreClosed P O
closures_are_closed P O code f box there owner kept stands exact = record {
  stands = stands;
  used = λ a k t e. exact.whole a k t (Occurs (owner a) k a t refl e);
  left = λ a k t e b. exact.whole a k t (IsFreed (owner a) k a t refl e b);
  along = λ a b h k t e g. exact.whole a k t (GoesOn (owner a) k a b h t refl e (exact.least b k (stands.goes a b h t e) g));
  over = λ a b k t e g. exact.whole a k t (Arrives (owner a) k a b t refl e (exact.least b k (stands.arrival a b t e) g));
}

-- all is enough
pub all_is_closed : {P : Type 0} (code : Code P) (f : Text) (box : ℕ → Bool) (there : P → Bool) (kept : P → ℕ → Bool) → Stands code f there → KeepsAll there kept → ClosedIn code f box there kept
all_is_closed code f box there kept stands all = record {
  stands = stands;
  used = λ a k t e. all a k t;
  left = λ a k t e b. all a k t;
  along = λ a b h k t e g. all a k t;
  over = λ a b k t e g. all a k t;
}

pub split_is_closed : (P O : Type 0) → SplitIsClosed P O
split_is_closed P O p box there owner kept stands keeps = record {
  inside = λ f.
      ⊎_elim
      (λ all. all_is_closed p.code f (box f) (there f) (kept f) (stands f) all)
      (λ exact. closures_are_closed P O p.code f (box f) (there f) (owner f) (kept f) (stands f) exact)
      (keeps f);
}

module _ {P O : Type 0} (code : Code P) (f : Text) (box : ℕ → Bool) (there : P → Bool) (owner : P → O) where
  abbrev In : O → ℕ → Type 0
  In = InClosure code f box there owner

  module _ (keeps : O → ℕ → Bool) (closed : ClosedIn code f box there (λ a. keeps (owner a))) where
    pub contains : (l : O) (k : ℕ) → In l k → keeps l k ≡ true
    contains _ _ (Occurs l k a t o e) = subst (λ m. keeps m k ≡ true) o (closed.used a k t e)
    contains _ _ (IsFreed l k a t o e b) = subst (λ m. keeps m k ≡ true) o (closed.left a k t e b)
    contains _ _ (GoesOn l k a b h t o e c) = subst (λ m. keeps m k ≡ true) o (closed.along a b h k t e (contains (owner b) k c))
    contains _ _ (Arrives l k a b t o e c) = subst (λ m. keeps m k ≡ true) o (closed.over a b k t e (contains (owner b) k c))

  -- ---- by a search

  abbrev Leads : O → O → Type 0
  Leads = LeadsTo code f box there owner

  abbrev Uses : O → ℕ → Type 0
  Uses = UsedBy code f box there owner

  pub found : (l : O) (k : ℕ) → In l k → (m : O) × Reaches Leads l m × Uses m k
  found _ _ (Occurs l k a t o e) = (l, Here l, HasName l k a t o e)
  found _ _ (IsFreed l k a t o e b) = (l, Here l, HasBox l k a t o e b)
  found _ _ (GoesOn l k a b h t o e c) = let r = found (owner b) k c in (r.0, Further l (owner b) r.0 (ByWay l (owner b) a b h t o e refl) r.1, r.2)
  found _ _ (Arrives l k a b t o e c) = let r = found (owner b) k c in (r.0, Further l (owner b) r.0 (ByArrival l (owner b) a b t o e refl) r.1, r.2)

  pub used_in_closure : (l : O) (k : ℕ) → Uses l k → In l k
  used_in_closure _ _ (HasName l k a t o e) = Occurs l k a t o e
  used_in_closure _ _ (HasBox l k a t o e b) = IsFreed l k a t o e b

  -- a step back
  pub leads_back : (l m : O) (k : ℕ) → Leads l m → In m k → In l k
  leads_back _ _ k (ByWay l m a b h t o e q) c = GoesOn l k a b h t o e (subst (λ n. In n k) (sym q) c)
  leads_back _ _ k (ByArrival l m a b t o e q) c = Arrives l k a b t o e (subst (λ n. In n k) (sym q) c)

  pub reached_in_closure : (l m : O) (k : ℕ) → Reaches Leads l m → Uses m k → In l k
  reached_in_closure _ _ k (Here l) u = used_in_closure l k u
  reached_in_closure _ _ k (Further l m n w r) u = leads_back l m k w (reached_in_closure m n k r u)

pub closures_are_least : (P O : Type 0) → ClosuresAreLeast P O
closures_are_least P O code f box there owner keeps closed l k c = contains code f box there owner keeps closed l k c

pub closures_are_reached : (P O : Type 0) → ClosuresAreReached P O
closures_are_reached P O code f box there owner l k = (found code f box there owner l k, λ r. reached_in_closure code f box there owner l r.0 k r.1 r.2)

-- ---- what is beyond

module _ {P O : Type 0} (code : Code P) (f : Text) (box : ℕ → Bool) (there : P → Bool) (owner : P → O) (n : ℕ) (used : (a : P) (k : ℕ) → there a ≡ true → holds_number (used_at (code.scope f a) (code.stood f a)) k ≡ true → k < n) (boxed : (k : ℕ) → box k ≡ true → k < n) where
  below : (l : O) (k : ℕ) → InClosure code f box there owner l k → k < n
  below _ _ (Occurs l k a t o e) = used a k t e
  below _ _ (IsFreed l k a t o e b) = boxed k b
  below _ _ (GoesOn l k a b h t o e c) = below (owner b) k c
  below _ _ (Arrives l k a b t o e c) = below (owner b) k c

pub closures_are_below : (P O : Type 0) → ClosuresAreBelow P O
closures_are_below P O code f box there owner n used boxed l k c = below code f box there owner n used boxed l k c
