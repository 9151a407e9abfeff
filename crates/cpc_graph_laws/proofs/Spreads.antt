-- How marks begin to be spread, what a turn keeps, and what is there at the end.
use Rattle.std.proofs.Common.{◌≡◌, ℕ, zero, suc, ◌+◌, ◌<◌, ◌≤◌, ◌==◌, ◌||◌, ◌⊎◌, inl, inr, ⊎_elim, Bool, true, false, List, [], ◌∷◌, ◌++◌, length, slice_get, Some, None, refl, sym, ◌∙◌, ap, subst, arith}
use Rattle.std.proofs.lemmas.List.{length-append}
use Rattle.std.proofs.lemmas.Option.{slice_get_past}
use Rattle.cpc_base.proofs.Truth.{eq_means, never_both}
use Rattle.cpc_tree.specs.Lists.{holds_number}
use Rattle.cpc_forms.specs.Flow.{Place, Start, At, Flow, Inside, goes_to, is_leader, owner_of, owner_by}
use Rattle.cpc_forms.specs.Marks.{Marks}
use Rattle.cpc_forms.specs.Spread.{Spread, known, mark_at, is_marked, visit_all, leader_mark, leader_marks, with_leaders, begun, IsSpread, left_to_do}
use Rattle.cpc_graph_laws.specs.Spreading.{SpreadBegins, SpreadGoesOn, SpreadEnds}
use Rattle.cpc_graph_laws.proofs.Formed.{in_either, in_left}
use Rattle.cpc_graph_laws.proofs.Leaders.{leader_below}
use Rattle.cpc_graph_laws.proofs.Marked.{marks_are_owners, owners_go_on, leaders_are_listed}
use Rattle.cpc_graph_laws.proofs.Spreading.{Grown, some_not_none, marked_some, some_marked, kept_marked, visited_all}

-- what is not known to be a leader is none
no_leader : (flow : Flow) (s : Spread) (n : ℕ) → ((m : ℕ) → is_leader flow m ≡ true → mark_at s m ≡ Some (At m)) → mark_at s n ≡ None → (b : Bool) → is_leader flow n ≡ b → b ≡ false
no_leader flow s n h none true e = absurd (some_not_none (At n) (sym (h n e) ∙ none))
no_leader flow s n h none false e = refl

same_some : (k l : Place) → Some k ≡ Some l → k ≡ l
same_some k l e = cc

-- ---- a turn

module _ (flow : Flow) (within : Inside flow) (s : Spread) (rest : List ℕ) (n : ℕ) (l : Place) (is : IsSpread flow s) (last : s.waiting ≡ rest ++ (n ∷ [])) (mark : mark_at s n ≡ Some l) where
  abbrev From : ℕ → Type 0
  From m = goes_to flow (At n) m ≡ true

  abbrev taken : Spread
  taken = record { owners = s.owners; waiting = rest }

  abbrev after : Spread
  after = visit_all (flow.leads (At n)) l taken

  turn : Grown From l taken after × ((m : ℕ) → From m → is_marked after m ≡ true)
  turn = visited_all From l (flow.leads (At n)) taken (λ m h. (subst (λ k. m < k) (sym is.long) (within.target (At n) m h), h))

  grown : Grown From l taken after
  grown = turn.0

  still_marked : (m : ℕ) → is_marked s m ≡ true → is_marked after m ≡ true
  still_marked m e = kept_marked From l taken after m (grown.kept m) e

  after_right : (m : ℕ) (k : Place) → mark_at after m ≡ Some k → owner_of flow m ≡ Some k
  after_right m k e = ⊎_elim (λ h. is.right m k h) (λ h. go h.0 h.1 h.2) (grown.fresh m k e)
    where
      go : mark_at s m ≡ None → k ≡ l → From m → owner_of flow m ≡ Some k
      go none same g =
          (owners_go_on flow within).2 n m l (is.right n l mark) g
          ∙ ap (λ b. Some (owner_by b l m)) (no_leader flow s m is.leaders none (is_leader flow m) refl)
          ∙ ap (λ x. Some x) (sym same)

  waited : (m : ℕ) → holds_number rest m ≡ true → holds_number s.waiting m ≡ true
  waited m e = subst (λ ms. holds_number ms m ≡ true) (sym last) (in_left m rest (n ∷ []) e)

  one_case : (a : ℕ) (b : Bool) → (n == a) ≡ b → (b || false) ≡ true → n ≡ a
  one_case a true i e = eq_means n a i
  one_case a false i e = absurd (cc)

  not_waiting : (a : ℕ) → (n ≡ a → ⊥) → holds_number after.waiting a ≡ false → (b : Bool) → holds_number s.waiting a ≡ b → b ≡ false
  not_waiting a other out true e =
      ⊎_elim (λ h. absurd (never_both (holds_number after.waiting a) (grown.still a h) out)) (λ h. absurd (other (one_case a (n == a) refl h)))
      (in_either a rest (n ∷ []) (subst (λ ms. holds_number ms a ≡ true) last e))
  not_waiting a other out false e = refl

  other_number : (a : ℕ) → (n == a) ≡ false → n ≡ a → ⊥
  other_number a e i = absurd (grind (arith, e, i))

  handed_case : (a m : ℕ) → is_marked s a ≡ true → holds_number after.waiting a ≡ false → goes_to flow (At a) m ≡ true → (b : Bool) → (n == a) ≡ b → is_marked after m ≡ true
  handed_case a m e out g true i = turn.1 m (subst (λ k. goes_to flow (At k) m ≡ true) (sym (eq_means n a i)) g)
  handed_case a m e out g false i = still_marked m (is.handed a m e (not_waiting a (other_number a i) out (holds_number s.waiting a) refl) g)

  after_spread : IsSpread flow after
  after_spread = record {
    long = grown.long ∙ is.long;
    leaders = λ m e. grown.kept m (At m) (is.leaders m e);
    entry = λ m e. still_marked m (is.entry m e);
    right = after_right;
    waits = λ m e. ⊎_elim (λ h. still_marked m (is.waits m (waited m h))) (λ h. h) (grown.waits m e);
    handed = λ a m e out g. ⊎_elim (λ h. handed_case a m h out g (n == a) refl) (λ h. absurd (never_both (holds_number after.waiting a) h out)) (grown.new a e);
  }

  less_to_do : left_to_do after < left_to_do s
  less_to_do =
      let a = grown.less in
      let b : length s.waiting ≡ length rest + 1 = ap (λ ms. length ms) last ∙ length-append rest (n ∷ []) in
      omega arith

pub spread_goes_on : SpreadGoesOn
spread_goes_on flow within s rest n l is last mark = (after_spread flow within s rest n l is last mark, less_to_do flow within s rest n l is last mark)

-- ---- the end

module _ (flow : Flow) (within : Inside flow) (s : Spread) (is : IsSpread flow s) (none : s.waiting ≡ []) where
  entry_mark : (n : ℕ) → goes_to flow Start n ≡ true → is_leader flow n ≡ false → mark_at s n ≡ Some Start
  entry_mark n g e =
      let x = marked_some (mark_at s n) (is.entry n g) in
      x.1 ∙ sym (is.right n x.0 x.1) ∙ (owners_go_on flow within).1 n g ∙ ap (λ b. Some (owner_by b Start n)) e

  onward_mark : (n m : ℕ) (l : Place) → mark_at s n ≡ Some l → goes_to flow (At n) m ≡ true → is_leader flow m ≡ false → mark_at s m ≡ Some l
  onward_mark n m l h g e =
      let x = marked_some (mark_at s m) (is.handed n m (some_marked (mark_at s n) l h) (ap (λ ms. holds_number ms n) none) g) in
      x.1 ∙ sym (is.right m x.0 x.1) ∙ (owners_go_on flow within).2 n m l (is.right n l h) g ∙ ap (λ b. Some (owner_by b l m)) e

  all_marks : Marks flow (mark_at s)
  all_marks = record { leaders = is.leaders; entry = entry_mark; onwards = onward_mark; right = is.right }

pub spread_ends : SpreadEnds
spread_ends flow s within is none n = marks_are_owners flow (mark_at s) (all_marks flow within s is none) n

-- ---- the beginning

marks_length : (flow : Flow) (k size : ℕ) → length (leader_marks flow k size) ≡ size
marks_length flow k zero = refl
marks_length flow k (suc size) = ap (λ j. suc j) (marks_length flow (suc k) size)

marks_at : (flow : Flow) (k size i : ℕ) → i < size → known (slice_get (leader_marks flow k size) i) ≡ leader_mark (is_leader flow (k + i)) (k + i)
marks_at flow k zero i h = absurd (omega arith)
marks_at flow k (suc size) zero h = let e : k ≡ k + 0 = omega arith in ap (λ j. leader_mark (is_leader flow j) j) e
marks_at flow k (suc size) (suc i) h = let e : suc k + i ≡ k + suc i = omega arith in marks_at flow (suc k) size i (omega arith) ∙ ap (λ j. leader_mark (is_leader flow j) j) e

leader_marked : (b : Bool) (n : ℕ) (k : Place) → leader_mark b n ≡ Some k → (b ≡ true) × (At n ≡ k)
leader_marked true n k e = (refl, cc)
leader_marked false n k e = absurd (cc)

below_or_not : (n m : ℕ) → (n < m) ⊎ (m ≤ n)
below_or_not n m = grind arith

module _ (flow : Flow) (within : Inside flow) where
  abbrev first : Spread
  first = with_leaders flow

  abbrev FromStart : ℕ → Type 0
  FromStart m = goes_to flow Start m ≡ true

  first_at : (n : ℕ) → n < flow.size → mark_at first n ≡ leader_mark (is_leader flow n) n
  first_at n h = let e : 0 + n ≡ n = omega arith in marks_at flow 0 flow.size n h ∙ ap (λ j. leader_mark (is_leader flow j) j) e

  first_leader : (n : ℕ) → is_leader flow n ≡ true → mark_at first n ≡ Some (At n)
  first_leader n e = first_at n (leader_below flow within n e) ∙ ap (λ b. leader_mark b n) e

  inside_first : (n : ℕ) (k : Place) → mark_at first n ≡ Some k → (n < flow.size) ⊎ (flow.size ≤ n) → n < flow.size
  inside_first n k e (inl h) = h
  inside_first n k e (inr h) = absurd (some_not_none k (sym e ∙ ap known (slice_get_past first.owners n (subst (λ j. j ≤ n) (sym (marks_length flow 0 flow.size)) h))))

  first_is_leader : (n : ℕ) (k : Place) → mark_at first n ≡ Some k → (is_leader flow n ≡ true) × (At n ≡ k)
  first_is_leader n k e = leader_marked (is_leader flow n) n k (sym (first_at n (inside_first n k e (below_or_not n flow.size))) ∙ e)

  starts : Grown FromStart Start first (begun flow) × ((m : ℕ) → FromStart m → is_marked (begun flow) m ≡ true)
  starts = visited_all FromStart Start (flow.leads Start) first (λ m h. (subst (λ k. m < k) (sym (marks_length flow 0 flow.size)) (within.target Start m h), h))

  begun_right : (n : ℕ) (k : Place) → mark_at (begun flow) n ≡ Some k → owner_of flow n ≡ Some k
  begun_right n k e = ⊎_elim (λ h. let x = first_is_leader n k h in (owners_go_on flow within).0 n x.0 ∙ ap (λ j. Some j) x.1) (λ h. go h.0 h.1 h.2) (starts.0.fresh n k e)
    where
      go : mark_at first n ≡ None → k ≡ Start → FromStart n → owner_of flow n ≡ Some k
      go none same w =
          (owners_go_on flow within).1 n w
          ∙ ap (λ b. Some (owner_by b Start n)) (no_leader flow first n first_leader none (is_leader flow n) refl)
          ∙ ap (λ j. Some j) (sym same)

  waits_leader : (n : ℕ) → holds_number first.waiting n ≡ true → is_marked (begun flow) n ≡ true
  waits_leader n e = some_marked (mark_at (begun flow) n) (At n) (starts.0.kept n (At n) (first_leader n (sym (leaders_are_listed flow within n) ∙ e)))

  begun_handed : (a : ℕ) → is_marked first a ≡ true → holds_number (begun flow).waiting a ≡ false → ⊥
  begun_handed a e out =
      let x = marked_some (mark_at first a) e in
      never_both (holds_number (begun flow).waiting a) (starts.0.still a (leaders_are_listed flow within a ∙ (first_is_leader a x.0 x.1).0)) out

  begun_spread : IsSpread flow (begun flow)
  begun_spread = record {
    long = starts.0.long ∙ marks_length flow 0 flow.size;
    leaders = λ n e. starts.0.kept n (At n) (first_leader n e);
    entry = λ n e. starts.1 n e;
    right = begun_right;
    waits = λ n e. ⊎_elim (λ h. waits_leader n h) (λ h. h) (starts.0.waits n e);
    handed = λ a m e out w. ⊎_elim (λ h. absurd (begun_handed a h out)) (λ h. absurd (never_both (holds_number (begun flow).waiting a) h out)) (starts.0.new a e);
  }

pub spread_begins : SpreadBegins
spread_begins flow within = begun_spread flow within
