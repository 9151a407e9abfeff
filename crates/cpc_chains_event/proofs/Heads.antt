-- Where pieces begin: with their first nodes, or with the way to the leader that is the first node.
use Rattle.std.proofs.Common.{◌≡◌, ◌⊎◌, inl, inr, ⊎_elim, ℕ, zero, suc, ◌+◌, ◌<◌, ◌≤◌, Bool, true, false, not, ◌&&◌, ◌||◌, ◌==◌, cond, List, [], ◌∷◌, ◌++◌, length, slice_get, nat_le, nat_lt, Option, Some, None, refl, sym, ◌∙◌, ap, subst, arith}
use Rattle.cpc_base.proofs.Truth.{eq_reflexive, and_both, or_by_second, false_unless_true, eq_means, le_reflexive}
use Rattle.cpc_tree.specs.Lists.{holds_number}
use Rattle.cpc_tree.specs.Syntax.{Function, Program}
use Rattle.cpc_forms.specs.Graph.{graph_of}
use Rattle.cpc_forms.specs.Flow.{Place, Start, At, Flow, flow_of, goes_to, kept_if, coming, places, sources, is_leader, is_owner, owner_step, owner_within, owner_of}
use Rattle.cpc_forms.specs.Flow as Flow
use Rattle.cpc_forms.specs.Split.{Split, number_if, owners_from, leaders_from, split_of}
use Rattle.cpc_forms.specs.Pieces.{is_owned_by, owned_from, without, fronted, first_of, piece_nodes, Once, NoNumber, AndOther}
use Rattle.cpc_graph_laws.proofs.Formed.{formed_graph}
use Rattle.cpc_graph_laws.proofs.Owning.{pieces_hold_theirs}
use Rattle.cpc_convert_routines.specs.Routines.{Routine, routine_of, number_before, chosen}
use Rattle.cpc_chains_event.specs.Rows.{owner_at, onwards_all, reached, stubs_of, numbers_from, completed, numbers_of}
use Rattle.cpc_convert_routines.specs.Nodes.{is_own, has_row, turned, rows_nodes}
use Rattle.cpc_chains_event.specs.HeadLaws.{PieceBegins, PiecesBegin}
use Rattle.cpc_convert_routines.proofs.Numbers.{chosen_is, chosen_has, chosen_out, rises_once}
use Rattle.cpc_chains_event.proofs.Labels.{leaders_rise}

-- ---- a first node of its own

owned_has : (l : Place) (k : ℕ) (os : List (Option Place)) (j : ℕ) → is_owned_by l (owner_at (slice_get os j)) ≡ true → holds_number (owned_from l k os) (k + j) ≡ true
owned_has l k [] j h = absurd (cc)
owned_has l k (o ∷ os) zero h =
    subst (λ b. holds_number (number_if b k (owned_from l (suc k) os)) (k + 0) ≡ true) (sym h)
    (ap (λ b. b || holds_number (owned_from l (suc k) os) (k + 0)) (ap (λ n. k == n) (let z : k + 0 ≡ k = omega arith in z) ∙ eq_reflexive k))
owned_has l k (o ∷ os) (suc j) h = go (is_owned_by l o) (ap (holds_number (owned_from l (suc k) os)) (let z : k + suc j ≡ suc k + j = omega arith in z) ∙ owned_has l (suc k) os j h)
  where
    go : (b : Bool) → holds_number (owned_from l (suc k) os) (k + suc j) ≡ true → holds_number (number_if b k (owned_from l (suc k) os)) (k + suc j) ≡ true
    go true i = or_by_second (k == (k + suc j)) (holds_number (owned_from l (suc k) os) (k + suc j)) i
    go false i = i

-- the first of some numbers stays the first
head_chosen : (test : ℕ → Bool) (n : ℕ) (ns : List ℕ) → test n ≡ true → chosen test (n ∷ ns) ≡ n ∷ chosen test ns
head_chosen test n ns e = ap (λ b. number_before b n (chosen test ns)) e

module _ (p : Program) (f : Function) where
  abbrev r : Routine
  r = routine_of p f

  abbrev s : Split
  s = r.split

  own_nodes : (l : Place) → is_own s l (first_of s l) ≡ true → piece_nodes s l ≡ first_of s l ∷ without (first_of s l) (owned_from l 0 s.owners)
  own_nodes l h =
      let n = first_of s l in
      let held : holds_number (owned_from l 0 s.owners) n ≡ true = ap (holds_number (owned_from l 0 s.owners)) (let z : n ≡ 0 + n = omega arith in z) ∙ owned_has l 0 s.owners n h in
      ap (λ b. cond b (n ∷ without n (owned_from l 0 s.owners)) (owned_from l 0 s.owners)) held

  begins_own : (l : Place) → is_own s l (first_of s l) ≡ true → has_row s (first_of s l) ≡ true → (ns : List ℕ) × (numbers_of p r l ≡ first_of s l ∷ ns)
  begins_own l h row =
      let n = first_of s l in
      let rest = without n (owned_from l 0 s.owners) in
      let nodes : rows_nodes s l ≡ n ∷ (chosen (λ k. nat_le n k) (chosen (has_row s) rest) ++ chosen (λ k. nat_lt k n) (n ∷ chosen (has_row s) rest)) =
      ap (λ ns. turned n (chosen (has_row s) ns)) (own_nodes l h)
      ∙ (ap (turned n) (head_chosen (has_row s) n rest row) ∙ ap (λ ns. ns ++ chosen (λ k. nat_lt k n) (n ∷ chosen (has_row s) rest)) (head_chosen (λ k. nat_le n k) n (chosen (has_row s) rest) (le_reflexive n))) in
      first_listed n _ nodes
    where
      first_listed : (n : ℕ) (ns : List ℕ) → rows_nodes s l ≡ n ∷ ns → (ms : List ℕ) × (numbers_of p r l ≡ n ∷ ms)
      first_listed n ns e = (_, ap (λ ms. completed (stubs_of r l) (numbers_from p r l (stubs_of r l) [] ms)) e)

-- ---- a first node that leads

-- what comes to a node goes to it
first_comes : (flow : Flow) (n : ℕ) (ps : List Place) → Flow.first_or (At n) (coming flow n ps) ≡ Start → goes_to flow Start n ≡ true
first_comes flow n [] e = absurd (cc)
first_comes flow n (a ∷ ps) e = go (goes_to flow a n) refl e (λ i. first_comes flow n ps i)
  where
    go : (b : Bool) → goes_to flow a n ≡ b → Flow.first_or (At n) (kept_if b a (coming flow n ps)) ≡ Start → (Flow.first_or (At n) (coming flow n ps) ≡ Start → goes_to flow Start n ≡ true) → goes_to flow Start n ≡ true
    go true g i deeper = ap (λ a. goes_to flow a n) (sym i) ∙ g
    go false g i deeper = deeper i

-- no node is the start's, where each to which it goes leads
none_started : (flow : Flow) → ((n : ℕ) → goes_to flow Start n ≡ true → is_leader flow n ≡ true) → (d n : ℕ) → owner_within flow d (At n) ≡ Some Start → ⊥
none_started flow leads zero n e = absurd (cc)
none_started flow leads (suc d) n e = go (is_leader flow n) refl e (λ m i. none_started flow leads d m i)
  where
    back : (a : Place) → Flow.first_or (At n) (sources flow n) ≡ a → is_leader flow n ≡ false → owner_within flow d a ≡ Some Start → ((m : ℕ) → owner_within flow d (At m) ≡ Some Start → ⊥) → ⊥
    back Start g is i deeper = let z : true ≡ false = sym (leads n (first_comes flow n (places flow) g)) ∙ is in absurd (cc)
    back (At m) g is i deeper = deeper m i

    go : (b : Bool) → is_leader flow n ≡ b → owner_step flow (owner_within flow d) b (At n) ≡ Some Start → ((m : ℕ) → owner_within flow d (At m) ≡ Some Start → ⊥) → ⊥
    go true is i deeper = absurd (cc)
    go false is i deeper = back (Flow.first_or (At n) (sources flow n)) refl is i deeper

nothing_held : (ns : List ℕ) → ((n : ℕ) → holds_number ns n ≡ true → ⊥) → ns ≡ []
nothing_held [] h = refl
nothing_held (n ∷ ns) h = absurd (h n (ap (λ b. b || holds_number ns n) (eq_reflexive n)))

-- the one number of these of which a test holds
the_one : (test : ℕ → Bool) (x : ℕ) (ns : List ℕ) → Once ns → ((n : ℕ) → test n ≡ true → n ≡ x) → test x ≡ true → holds_number ns x ≡ true → chosen test ns ≡ x ∷ []
the_one test x _ NoNumber only is h = absurd (cc)
the_one test x _ (AndOther n ns e o) only is h = go (n == x) refl h (λ i. the_one test x ns o only is i)
  where
    out : (m : ℕ) → holds_number (chosen test ns) m ≡ true → m ≡ x
    out m i = only m (chosen_is test ns m i).1

    none : n ≡ x → chosen test ns ≡ []
    none g = nothing_held (chosen test ns) (λ m i. let z : true ≡ false = sym (chosen_is test ns m i).0 ∙ (ap (holds_number ns) (out m i ∙ sym g) ∙ e) in absurd (cc))

    go : (b : Bool) → (n == x) ≡ b → (b || holds_number ns x) ≡ true → (holds_number ns x ≡ true → chosen test ns ≡ x ∷ []) → chosen test (n ∷ ns) ≡ x ∷ []
    go true g i deeper =
        let same = eq_means n x g in
        head_chosen test n ns (ap test same ∙ is) ∙ (ap (λ ms. n ∷ ms) (none same) ∙ ap (λ m. m ∷ []) same)
    go false g i deeper = ap (λ b. number_before b n (chosen test ns)) (false_unless_true (test n) (λ t. let z : true ≡ false = sym (ap (λ m. m == x) (only n t) ∙ eq_reflexive x) ∙ g in absurd (cc))) ∙ deeper i

leaders_has : (flow : Flow) (k n m : ℕ) → k ≤ m → m < k + n → is_leader flow m ≡ true → holds_number (leaders_from flow k n) m ≡ true
leaders_has flow k zero m low high is = absurd (omega arith)
leaders_has flow k (suc n) m low high is = go (k == m) refl (is_leader flow k) refl (λ d. leaders_has flow (suc k) n m (let z : suc k ≤ m = omega (arith, low, d) in z) (omega arith) is)
  where
    go : (b : Bool) → (k == m) ≡ b → (c : Bool) → is_leader flow k ≡ c → ((k ≡ m → ⊥) → holds_number (leaders_from flow (suc k) n) m ≡ true) → holds_number (number_if c k (leaders_from flow (suc k) n)) m ≡ true
    go true e true i deeper = ap (λ b. b || holds_number (leaders_from flow (suc k) n) m) e
    go true e false i deeper = let z : false ≡ true = sym i ∙ (ap (is_leader flow) (eq_means k m e) ∙ is) in absurd (cc)
    go false e true i deeper = or_by_second (k == m) (holds_number (leaders_from flow (suc k) n) m) (deeper (λ g. let z : true ≡ false = sym (eq_reflexive m) ∙ (ap (λ j. j == m) (sym g) ∙ e) in absurd (cc)))
    go false e false i deeper = deeper (λ g. let z : true ≡ false = sym (eq_reflexive m) ∙ (ap (λ j. j == m) (sym g) ∙ e) in absurd (cc))

module _ (p : Program) (f : Function) (leads : is_leader (flow_of (graph_of p f)) (graph_of p f).entry ≡ true) where
  abbrev entry : ℕ
  entry = (graph_of p f).entry

  abbrev flow : Flow
  flow = flow_of (graph_of p f)

  -- the entry alone
  entry_only : (n : ℕ) → ((entry == n) || false) ≡ true → entry ≡ n
  entry_only n h = go (entry == n) refl h
    where
      go : (b : Bool) → (entry == n) ≡ b → (b || false) ≡ true → entry ≡ n
      go true e i = eq_means entry n e
      go false e i = absurd (cc)

  no_nodes : piece_nodes (routine_of p f).split Start ≡ []
  no_nodes = nothing_held (piece_nodes (routine_of p f).split Start) (λ n h. none_started flow (λ m g. ap (is_leader flow) (sym (entry_only m g)) ∙ leads) (suc flow.size) n ((pieces_hold_theirs p f Start n).0 h))

  no_rows : rows_nodes (routine_of p f).split Start ≡ []
  no_rows = ap (λ ns. turned entry (chosen (has_row (routine_of p f).split) ns)) no_nodes

  not_own : is_own (routine_of p f).split Start entry ≡ false
  not_own = false_unless_true (is_own (routine_of p f).split Start entry) (λ h. let z = sym no_nodes ∙ own_nodes p f Start h in absurd (cc))

  abbrev wanted : ℕ → Bool
  wanted n = holds_number (reached (routine_of p f) Start) n && not (is_own (routine_of p f).split Start n)

  reached_is : reached (routine_of p f) Start ≡ entry ∷ []
  reached_is = ap (λ ns. entry ∷ onwards_all (routine_of p f) ns) no_rows

  one_stub : stubs_of (routine_of p f) Start ≡ entry ∷ []
  one_stub =
      the_one wanted entry (routine_of p f).split.leaders (rises_once (0 + flow.size) 0 (routine_of p f).split.leaders (leaders_rise flow 0 flow.size))
      (λ n h. sym (entry_only n (ap (λ ns. holds_number ns n) (sym reached_is) ∙ (and_both _ _ h).0)))
      (ap (λ ns. holds_number ns entry && not (is_own (routine_of p f).split Start entry)) reached_is ∙ (ap (λ b. (b || false) && not (is_own (routine_of p f).split Start entry)) (eq_reflexive entry) ∙ ap not not_own))
      (leaders_has flow 0 flow.size entry (omega arith) (let b = (formed_graph p f).entry in let z : entry < 0 + flow.size = omega (arith, b) in z) leads)

  begins_way : numbers_of p (routine_of p f) Start ≡ entry ∷ []
  begins_way =
      ap (λ ns. completed (stubs_of (routine_of p f) Start) (numbers_from p (routine_of p f) Start (stubs_of (routine_of p f) Start) [] ns)) no_rows
      ∙ ap (λ ns. completed ns []) one_stub

pub pieces_begin : PiecesBegin
pieces_begin p f = record { own = begins_own p f; way = begins_way p f }
