-- What came, one after another.
use Rattle.std.proofs.Common.{◌≡◌, ℕ, inl, inr, List, [], ◌∷◌, ◌++◌, refl, sym, ap, subst, ◌∙◌, append_assoc, append-nil, Some, None, Result, Ok, Err}
use Rattle.std.specs.Prelude.{MatchResult}
use Rattle.std.proofs.lemmas.List.Elements.{All-append, All-cons, All-nil}
use Rattle.cpc_pool_ends.specs.declared.done.Done.{Done}
use Rattle.cpc_pool_ends.specs.declared.views.DoneView.{DoneView}
use Rattle.cpc_pool.specs.Acts.{Accepted, Taken}
use Rattle.cpc_pool.specs.Arrivals.{Answers, Came, Finished, Known, Unfinished, Waits}

-- what a list is empty with is empty
front_nil : {X : Type 0} (xs ys : List X) → [] ≡ xs ++ ys → xs ≡ []
front_nil [] ys e = refl
front_nil (x ∷ xs) ys e = cc

back_nil : {X : Type 0} (xs ys : List X) → [] ≡ xs ++ ys → ys ≡ []
back_nil [] ys e = sym e
back_nil (x ∷ xs) ys e = cc

-- what came, and then came more
pub came_on : {X : Type 0} (o l m p q r xs ys : List X) → Came o l p q xs → Came l m q r ys → Came o m p r (xs ++ ys)
came_on o l m p q r xs ys (inl a) (inl b) = inl (a.0 ∙ (ap (λ z. xs ++ z) b.0 ∙ sym (append_assoc xs ys m)), b.1 ∙ a.1)
came_on o l m p q r xs ys (inl a) (inr b) =
    inr (b.0, b.1, ap (λ z. xs ++ z) b.2 ∙ (sym (append_assoc xs l b.0) ∙ ap (λ z. z ++ b.0) (sym a.0)), b.3 ∙ ap (λ z. z ++ b.0) a.1)
came_on o l m p q r xs ys (inr a) (inl b) =
    let e : [] ≡ ys ++ m = sym a.1 ∙ b.0 in
    inr (a.0, back_nil ys m e, ap (λ z. xs ++ z) (front_nil ys m e) ∙ (append-nil xs ∙ a.2), b.1 ∙ a.3)
came_on o l m p q r xs ys (inr a) (inr b) =
    inr (
      a.0 ++ b.0,
      b.1,
      ap (λ z. xs ++ z) (b.2 ∙ ap (λ z. z ++ b.0) a.1) ∙ (ap (λ z. z ++ b.0) a.2 ∙ append_assoc o a.0 b.0),
      b.3 ∙ (ap (λ z. z ++ b.0) a.3 ∙ append_assoc p a.0 b.0),
    )

module _ {J E : Type 0} (ends : J → E → Type 0) where
  -- one was accepted
  pub came_one : (own left : List (Done J E)) (v w : DoneView J E) (d : Done J E) → Accepted ends own left v w (Some d) → Came own left v.popped w.popped (d ∷ [])
  came_one [] left v w d a = inr (d ∷ [], a.0, refl, ap (λ (u : DoneView J E). u.popped) a.1.0)
  came_one (x ∷ xs) left v w d a = inl (cc, ap (λ (u : DoneView J E). u.popped) a.2)

  -- none was accepted
  pub came_none : (own left : List (Done J E)) (v w : DoneView J E) → Accepted ends own left v w None → Came own left v.popped w.popped []
  came_none [] left v w a = inl (sym a.0, ap (λ (u : DoneView J E). u.popped) a.1.0)
  came_none (x ∷ xs) left v w a = absurd (let e : None ≡ Some x = a.0 in cc)

  -- none is accepted where the pool's own list is empty
  pub none_own : (own left : List (Done J E)) (v w : DoneView J E) → Accepted ends own left v w None → own ≡ []
  none_own [] left v w a = refl
  none_own (x ∷ xs) left v w a = absurd (let e : None ≡ Some x = a.0 in cc)

-- what is known, part by part
abbrev pub known : {J E : Type 0} → ℕ → (early own popped : List (Done J E)) → List ℕ → Known J E
known next early own popped sent = record { next = next; early = early; own = own; popped = popped; sent = sent }

module _ {J E : Type 0} (same : J → J → Type 0) (j : J) where
  -- nothing came
  pub waits_still : (early kept own left popped after : List (Done J E)) → kept ≡ early → left ≡ own → after ≡ popped → Waits same j early kept own left popped after
  waits_still early kept own left popped after k l a = ([], inl (sym l, a), All-nil (λ (d : Done J E). same d.job j → ⊥), k ∙ sym (append-nil early))

  -- one came that is of another job
  pub waits_one : (early kept own left popped after : List (Done J E)) (d : Done J E) → Came own left popped after (d ∷ []) → (same d.job j → ⊥) → kept ≡ early ++ d ∷ [] → Waits same j early kept own left popped after
  waits_one early kept own left popped after d c n k = (d ∷ [], c, All-cons (λ (x : Done J E). same x.job j → ⊥) d [] n (All-nil (λ (x : Done J E). same x.job j → ⊥)), k)

  -- one came that is of the same job
  pub answers_one : (early kept own left popped after : List (Done J E)) (d : Done J E) → Came own left popped after (d ∷ []) → same d.job j → kept ≡ early → Answers same j early kept own left popped after d.end
  answers_one early kept own left popped after d c s k = ([], d, c, All-nil (λ (x : Done J E). same x.job j → ⊥), k ∙ sym (append-nil early), s, refl)

  -- one waits on
  pub waits_on : (k l m o p q u v w : List (Done J E)) → Waits same j k l o p u v → Waits same j l m p q v w → Waits same j k m o q u w
  waits_on k l m o p q u v w a b = (
    a.0 ++ b.0,
    came_on o p q u v w a.0 b.0 a.1 b.1,
    All-append (λ (d : Done J E). same d.job j → ⊥) a.0 b.0 a.2 b.2,
    b.3 ∙ (ap (λ z. z ++ b.0) a.3 ∙ append_assoc k a.0 b.0),
  )

  -- one has waited, and then the end comes
  pub answers_on : (k l m o p q u v w : List (Done J E)) (e : E) → Waits same j k l o p u v → Answers same j l m p q v w e → Answers same j k m o q u w e
  answers_on k l m o p q u v w e a b = (
    a.0 ++ b.0,
    b.1,
    subst (λ z. Came o q u w z) (sym (append_assoc a.0 b.0 (b.1 ∷ []))) (came_on o p q u v w a.0 (b.0 ++ b.1 ∷ []) a.1 b.2),
    All-append (λ (d : Done J E). same d.job j → ⊥) a.0 b.0 a.2 b.3,
    b.4 ∙ (ap (λ z. z ++ b.0) a.3 ∙ append_assoc k a.0 b.0),
    b.5,
    b.6,
  )

  -- the job was not among those that are kept, and one waited
  pub finished_by : {A : Type 0} (old new : Known J E) (kept : List (Done J E)) (r : Result E A) → Taken same j old.early kept None → MatchResult r (λ e. Answers same j kept new.early old.own new.own old.popped new.popped e) (λ _. Waits same j kept new.early old.own new.own old.popped new.popped) → MatchResult r (λ e. Finished same j old new e) (λ _. Unfinished same j old new)
  finished_by old new kept (Ok e) t a =
      inr (t.0, subst (λ z. Answers same j z new.early old.own new.own old.popped new.popped e) t.1 a)
  finished_by old new kept (Err x) t a =
      (t.0, subst (λ z. Waits same j z new.early old.own new.own old.popped new.popped) t.1 a)
