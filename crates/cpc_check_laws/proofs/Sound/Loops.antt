-- In a body that breaks no rule of labels and loops control stays.
use Rattle.std.proofs.Common.{◌≡◌, ◌⊎◌, inl, inr, ◌||◌, not, Bool, true, false, cond, List, [], ◌∷◌, ◌++◌, Option, Some, None, bytes_eq, refl, sym, ap}
use Rattle.cpc_base.specs.Bytes.{Text}
use Rattle.cpc_tree.specs.Located.{Ident, LStmt, Block, Empty, Declare, Assign, Call, Detach, Spawn, If, While, DoWhile, For, Goto, Label, Break, Continue, Return, LStmts, NoLStmt, AndLStmt, MaybeLStmt, NoneLStmt, SomeLStmt, bare_stmt, bare_stmts, bare_maybe}
use Rattle.cpc_tree.specs.Points.{Part, Nth, TheTest, TheYes, TheNo, TheStep, TheBody, Path, enter, labelled, labelled_in, labelled_arm, path_under, path_later, or_else}
use Rattle.cpc_base.specs.declared.stop.Place.{Place}
use Rattle.cpc_base.proofs.Truth.{by_false_true}
use Rattle.cpc_check_rules.specs.declared.rule.Rule.{Rule}
use Rattle.cpc_check_rules.specs.declared.rule.Rule.TheVariants.{NoLabel, LabelTwice}
use Rattle.cpc_check_rules.specs.Rule.{at_if}
use Rattle.cpc_check_rules.specs.FunctionRules.{among, repeated, labels, labels_in, labels_maybe, gotos, gotos_in, gotos_maybe, missing, label_breaks, stray_breaks, stray_in, stray_maybe}
use Rattle.cpc_check_laws.specs.Sound.Control.{Controlled, AllControlled, ArmControlled, IsLabel, StaysIn}
use Rattle.cpc_check_laws.proofs.Sound.Answers.{no_some}
use Rattle.cpc_check_laws.proofs.Sound.Agendas.{Each}
use Rattle.cpc_check_laws.proofs.Sound.Unbroken.{split, not_broken, holds_then}
use Rattle.cpc_check_laws.proofs.Sound.Shapes.{IsFirst, AllFirst, StepWritten, Written, AllWritten, MaybeWritten}

-- ---- labels

abbrev Has : Option Path → Type 0
Has o = (p : Path) × (o ≡ Some p)

has_under : (n : Part) (o : Option Path) → Has o → Has (path_under n o)
has_under n o h = (n ∷ h.0, ap (path_under n) h.1)

has_later : (o : Option Path) → Has o → Has (path_later o)
has_later None h = no_some h.0 h.1
has_later (Some []) h = ([], refl)
has_later (Some (Nth n ∷ p)) h = (_, refl)
has_later (Some (TheTest ∷ p)) h = (_, refl)
has_later (Some (TheYes ∷ p)) h = (_, refl)
has_later (Some (TheNo ∷ p)) h = (_, refl)
has_later (Some (TheStep ∷ p)) h = (_, refl)
has_later (Some (TheBody ∷ p)) h = (_, refl)

has_first : (o u : Option Path) → Has o → Has (or_else o u)
has_first None u h = no_some h.0 h.1
has_first (Some p) u h = (p, refl)

has_second : (o u : Option Path) → Has u → Has (or_else o u)
has_second None u h = h
has_second (Some p) u h = (p, refl)

among_either : (x : Text) (xs ys : List Ident) → among x (xs ++ ys) ≡ true → (among x xs ≡ true) ⊎ (among x ys ≡ true)
among_either x [] ys h = inr h
among_either x (y ∷ xs) ys h = go (bytes_eq y.text x) h (among_either x xs ys)
  where
    go : (b : Bool) → (b || among x (xs ++ ys)) ≡ true → (among x (xs ++ ys) ≡ true → (among x xs ≡ true) ⊎ (among x ys ≡ true)) → ((b || among x xs) ≡ true) ⊎ (among x ys ≡ true)
    go true h rest = inl refl
    go false h rest = rest h

has_either : (o u : Option Path) (A B : Type 0) → A ⊎ B → (A → Has o) → (B → Has u) → Has (or_else o u)
has_either o u A B (inl a) f g = has_first o u (f a)
has_either o u A B (inr b) f g = has_second o u (g b)

has_label : (b c : Bool) (p : Path) (o : Option Path) → (b || c) ≡ true → (c ≡ true → Has o) → Has (cond b (Some p) o)
has_label true c p o h f = (p, refl)
has_label false c p o h f = f h

mutual
  label_there : (x : Text) (s : LStmt) → among x (labels s) ≡ true → Has (labelled x (bare_stmt s))
  label_there x (Block q ss) h = labels_there x ss h
  label_there x (If q c a r) h =
      has_either (path_under TheYes (labelled x (bare_stmt a))) (path_under TheNo (labelled_arm x (bare_maybe r))) (among x (labels a) ≡ true) (among x (labels_maybe r) ≡ true) (among_either x (labels a) (labels_maybe r) h)
      (λ k. has_under TheYes (labelled x (bare_stmt a)) (label_there x a k)) (λ k. has_under TheNo (labelled_arm x (bare_maybe r)) (maybe_there x r k))
  label_there x (While q c a) h = has_under TheBody (labelled x (bare_stmt a)) (label_there x a h)
  label_there x (DoWhile q a c) h = has_under TheBody (labelled x (bare_stmt a)) (label_there x a h)
  label_there x (For q ss c r a) h = has_under TheBody (labelled x (bare_stmt a)) (label_there x a h)
  label_there x (Label m a) h = has_label (bytes_eq m.text x) (among x (labels a)) (TheBody ∷ enter (bare_stmt a)) (path_under TheBody (labelled x (bare_stmt a))) h (λ k. has_under TheBody (labelled x (bare_stmt a)) (label_there x a k))
  label_there x _ h = by_false_true h

  labels_there : (x : Text) (ss : LStmts) → among x (labels_in ss) ≡ true → Has (labelled_in x (bare_stmts ss))
  labels_there x NoLStmt h = by_false_true h
  labels_there x (AndLStmt a ss) h =
      has_either (path_under (Nth 0) (labelled x (bare_stmt a))) (path_later (labelled_in x (bare_stmts ss))) (among x (labels a) ≡ true) (among x (labels_in ss) ≡ true) (among_either x (labels a) (labels_in ss) h)
      (λ k. has_under (Nth 0) (labelled x (bare_stmt a)) (label_there x a k)) (λ k. has_later (labelled_in x (bare_stmts ss)) (labels_there x ss k))

  maybe_there : (x : Text) (r : MaybeLStmt) → among x (labels_maybe r) ≡ true → Has (labelled_arm x (bare_maybe r))
  maybe_there x NoneLStmt h = by_false_true h
  maybe_there x (SomeLStmt a) h = label_there x a h

-- ---- bodies

each_left : {X : Type 0} (P : X → Type 0) (xs ys : List X) → Each P (xs ++ ys) → Each P xs
each_left P [] ys h = tt
each_left P (x ∷ xs) ys h = (h.0, each_left P xs ys h.1)

each_right : {X : Type 0} (P : X → Type 0) (xs ys : List X) → Each P (xs ++ ys) → Each P ys
each_right P [] ys h = h
each_right P (x ∷ xs) ys h = each_right P xs ys h.1

module _ (L : Text → Type 0) where
  abbrev Goes : Ident → Type 0
  Goes x = L x.text

  step_controlled : (b : Bool) (r : MaybeLStmt) → StepWritten r → ArmControlled L b (bare_maybe r)
  step_controlled b NoneLStmt h = tt
  step_controlled b (SomeLStmt (Assign q o v op e)) h = tt
  step_controlled b (SomeLStmt (Call q o to g es)) h = tt
  step_controlled b (SomeLStmt (Detach q o k to g es)) h = tt
  step_controlled b (SomeLStmt _) h = absurd h

  one_controlled : (b : Bool) (s : LStmt) → IsFirst s → Controlled L b (bare_stmt s)
  one_controlled b (Declare q x t start) h = tt
  one_controlled b (Assign q o v op e) h = tt
  one_controlled b (Call q o to g es) h = tt
  one_controlled b (Detach q o k to g es) h = tt
  one_controlled b _ h = absurd h

  first_controlled : (b : Bool) (ss : LStmts) → AllFirst ss → AllControlled L b (bare_stmts ss)
  first_controlled b NoLStmt h = tt
  first_controlled b (AndLStmt s ss) h = (one_controlled b s h.0, first_controlled b ss h.1)

  in_loop : (b : Bool) (q : Place × Rule) → (b ≡ false → q ∷ [] ≡ []) → b ≡ true
  in_loop true q h = refl
  in_loop false q h = not_broken q [] (h refl)

  mutual
    controlled : (b : Bool) (s : LStmt) → Written s → (b ≡ false → stray_breaks s ≡ []) → Each Goes (gotos s) → Controlled L b (bare_stmt s)
    controlled b (Block q ss) s h g = all_controlled b ss s h g
    controlled b (If q c a r) s h g = (
      controlled b a s.0 (λ e. (split (stray_breaks a) (stray_maybe r) (h e)).0) (each_left Goes (gotos a) (gotos_maybe r) g),
      arm_controlled b r s.1 (λ e. (split (stray_breaks a) (stray_maybe r) (h e)).1) (each_right Goes (gotos a) (gotos_maybe r) g),
    )
    controlled b (While q c a) s h g = controlled true a s (λ e. by_false_true (sym e)) g
    controlled b (DoWhile q a c) s h g = controlled true a s (λ e. by_false_true (sym e)) g
    controlled b (For q ss c r a) s h g = (first_controlled b ss s.0, step_controlled b r s.1, controlled true a s.2 (λ e. by_false_true (sym e)) g)
    controlled b (Label x a) s h g = controlled b a s h g
    controlled b (Goto q x) s h g = g.0
    controlled b (Break q) s h g = in_loop b _ h
    controlled b (Continue q) s h g = in_loop b _ h
    controlled b (Empty q) s h g = tt
    controlled b (Declare q x t start) s h g = tt
    controlled b (Assign q o v op e) s h g = tt
    controlled b (Call q o to c es) s h g = tt
    controlled b (Detach q o k to c es) s h g = tt
    controlled b (Spawn q c es) s h g = tt
    controlled b (Return q e) s h g = tt

    all_controlled : (b : Bool) (ss : LStmts) → AllWritten ss → (b ≡ false → stray_in ss ≡ []) → Each Goes (gotos_in ss) → AllControlled L b (bare_stmts ss)
    all_controlled b NoLStmt s h g = tt
    all_controlled b (AndLStmt a ss) s h g = (
      controlled b a s.0 (λ e. (split (stray_breaks a) (stray_in ss) (h e)).0) (each_left Goes (gotos a) (gotos_in ss) g),
      all_controlled b ss s.1 (λ e. (split (stray_breaks a) (stray_in ss) (h e)).1) (each_right Goes (gotos a) (gotos_in ss) g),
    )

    arm_controlled : (b : Bool) (r : MaybeLStmt) → MaybeWritten r → (b ≡ false → stray_maybe r ≡ []) → Each Goes (gotos_maybe r) → ArmControlled L b (bare_maybe r)
    arm_controlled b NoneLStmt s h g = tt
    arm_controlled b (SomeLStmt a) s h g = controlled b a s h g

known_labels : (body : LStmt) (xs : List Ident) → missing (labels body) xs ≡ [] → Each (λ (x : Ident). IsLabel (bare_stmt body) x.text) xs
known_labels body [] h = tt
known_labels body (x ∷ xs) h =
    let k = split (at_if (not (among x.text (labels body))) x.place NoLabel) (missing (labels body) xs) h in
    (label_there x.text body (holds_then (among x.text (labels body)) x.place NoLabel k.0), known_labels body xs k.1)

-- control stays in a body that breaks no rule
pub body_controlled : (body : LStmt) → Written body → label_breaks body ≡ [] → stray_breaks body ≡ [] → StaysIn (bare_stmt body)
body_controlled body s h k =
    controlled (IsLabel (bare_stmt body)) false body s (λ e. k) (known_labels body (gotos body) (split (repeated LabelTwice [] (labels body)) (missing (labels body) (gotos body)) h).1)
