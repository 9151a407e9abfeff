-- What a piece keeps, begins and goes over are variables and nodes of its function.
use Rattle.std.proofs.Common.{◌≡◌, ℕ, suc, ◌+◌, ◌<◌, ◌≤◌, ◌==◌, ◌||◌, ◌&&◌, not, if◌then◌else◌, nat_le, nat_lt, Bool, true, false, List, [], ◌∷◌, ◌++◌, length, slice_get, All, Option, Some, None, refl, subst, arith}
use Rattle.std.proofs.lemmas.List.Elements.{All-nil, All-cons, All-append}
use Rattle.cpc_base.proofs.Truth.{eq_means, and_first}
use Rattle.cpc_tree.specs.Lists.{holds_number}
use Rattle.cpc_tree.specs.Syntax.{Program}
use Rattle.cpc_forms.specs.Flow.{Place, Start, At}
use Rattle.cpc_forms.specs.Pieces.{is_owned_by, owned_from, without, fronted, piece_nodes, first_of}
use Rattle.cpc_forms.specs.Split.{Split, number_if}
use Rattle.cpc_forms_code.specs.declared.boxed.Variable as V
use Rattle.cpc_convert_routines.specs.Routines.{Routine, closure_of, is_parameter, is_plain, number_before, chosen}
use Rattle.cpc_chains_event.specs.Pieces.{loaded, begun}
use Rattle.cpc_chains_event.specs.Rows.{owner_at, reached, stubs_of, row_of, falls, number_where, stub_behind, numbers_from, numbers_of}
use Rattle.cpc_convert_routines.specs.Nodes.{is_own, has_row, turned, rows_nodes}
use Rattle.cpc_forms_code.specs.Lifts.{unless}
use Rattle.cpc_chains_lines.specs.Known.{boxes_among}

module _ (Q : ℕ → Type 0) where
  rest_all : (k : ℕ) (ks : List ℕ) → All Q (k ∷ ks) → All Q ks
  rest_all k ks all = λ i d lt. all (suc i) d (omega (arith, lt))

  first_all : (k : ℕ) (ks : List ℕ) → All Q (k ∷ ks) → Q k
  first_all k ks all = all 0 k (omega arith)

  before_all : (b : Bool) (k : ℕ) (ks : List ℕ) → Q k → All Q ks → All Q (number_before b k ks)
  before_all true k ks q all = All-cons Q k ks q all
  before_all false k ks q all = all

  pub chosen_all : (test : ℕ → Bool) (ks : List ℕ) → All Q ks → All Q (chosen test ks)
  chosen_all test [] all = all
  chosen_all test (k ∷ ks) all = before_all (test k) k (chosen test ks) (first_all k ks all) (chosen_all test ks (rest_all k ks all))

  -- what is held is one of them
  held_all : (ns : List ℕ) (k : ℕ) → All Q ns → holds_number ns k ≡ true → Q k
  held_all [] k all e = absurd (cc)
  held_all (n ∷ ns) k all e = go (n == k) refl e (λ h. held_all ns k (rest_all n ns all) h)
    where
      go : (b : Bool) → (n == k) ≡ b → (b || holds_number ns k) ≡ true → (holds_number ns k ≡ true → Q k) → Q k
      go true i h rest = subst Q (eq_means n k i) (first_all n ns all)
      go false i h rest = rest h

  -- ---- nodes

  if_all : (b : Bool) (k : ℕ) (ks : List ℕ) → (b ≡ true → Q k) → All Q ks → All Q (number_if b k ks)
  if_all true k ks q all = All-cons Q k ks (q refl) all
  if_all false k ks q all = all

  without_all : (m : ℕ) (ns : List ℕ) → All Q ns → All Q (without m ns)
  without_all m [] all = all
  without_all m (n ∷ ns) all = if_all (not (n == m)) n (without m ns) (λ e. first_all n ns all) (without_all m ns (rest_all n ns all))

  fronted_all : (m : ℕ) (ns : List ℕ) → All Q ns → All Q (fronted m ns)
  fronted_all m ns all = go (holds_number ns m) refl
    where
      go : (b : Bool) → holds_number ns m ≡ b → All Q (if b then m ∷ without m ns else ns)
      go true e = All-cons Q m (without m ns) (held_all ns m all e) (without_all m ns all)
      go false e = all

  turned_all : (m : ℕ) (ns : List ℕ) → All Q ns → All Q (turned m ns)
  turned_all m ns all = All-append Q (chosen (λ n. nat_le m n) ns) (chosen (λ n. nat_lt n m) ns) (chosen_all (λ n. nat_le m n) ns all) (chosen_all (λ n. nat_lt n m) ns all)

  owned_all : (l : Place) (n : ℕ) (os : List (Option Place)) → ((k m : ℕ) → m ≡ n + k → is_owned_by l (owner_at (slice_get os k)) ≡ true → Q m) → All Q (owned_from l n os)
  owned_all l n [] q = All-nil Q
  owned_all l n (o ∷ os) q = if_all (is_owned_by l o) n (owned_from l (suc n) os) (λ e. q 0 n (omega arith) e) (owned_all l (suc n) os (λ k m e. q (suc k) m (omega (arith, e))))

  -- the nodes of a piece, where each node that its owner owns is so
  pub rows_all : (s : Split) (l : Place) → ((n : ℕ) → is_own s l n ≡ true → Q n) → All Q (rows_nodes s l)
  rows_all s l q =
      turned_all (first_of s l) (chosen (has_row s) (piece_nodes s l))
      (chosen_all (has_row s) (piece_nodes s l) (fronted_all (first_of s l) (owned_from l 0 s.owners) (owned_all l 0 s.owners (λ k m e o. let same : k ≡ m = omega (arith, e) in q m (subst (λ i. is_own s l i ≡ true) same o)))))

  -- the leaders to which it goes
  pub stubs_all : (r : Routine) (l : Place) → All Q r.split.leaders → All Q (stubs_of r l)
  stubs_all r l all = chosen_all (λ n. holds_number (reached r l) n && not (is_own r.split l n)) r.split.leaders all

  where_all : (b : Bool) (n : ℕ) → (b ≡ true → Q n) → All Q (number_where b n)
  where_all true n q = All-cons Q n [] (q refl) (All-nil Q)
  where_all false n q = All-nil Q

  behind_all : (stubs placed : List ℕ) (o : Option ℕ) → All Q stubs → All Q (stub_behind stubs placed o)
  behind_all stubs placed None all = All-nil Q
  behind_all stubs placed (Some n) all =
      where_all (holds_number stubs n && not (holds_number placed n)) n (λ e. held_all stubs n all (and_first (holds_number stubs n) (not (holds_number placed n)) e))

  from_all : (p : Program) (r : Routine) (l : Place) (stubs placed ns : List ℕ) → All Q stubs → All Q ns → All Q (numbers_from p r l stubs placed ns)
  from_all p r l stubs placed [] led all = All-nil Q
  from_all p r l stubs placed (n ∷ ns) led all =
      let s = stub_behind stubs placed (falls (row_of p r l n).lines) in
      All-cons Q n (s ++ numbers_from p r l stubs (s ++ placed) ns) (first_all n ns all)
      (All-append Q s (numbers_from p r l stubs (s ++ placed) ns) (behind_all stubs placed (falls (row_of p r l n).lines) led) (from_all p r l stubs (s ++ placed) ns led (rest_all n ns all)))

  -- the numbers of its rows
  pub numbers_all : (p : Program) (r : Routine) (l : Place) → All Q (rows_nodes r.split l) → All Q (stubs_of r l) → All Q (numbers_of p r l)
  numbers_all p r l all led =
      let ns = numbers_from p r l (stubs_of r l) [] (rows_nodes r.split l) in
      All-append Q ns (chosen (λ n. not (holds_number ns n)) (stubs_of r l)) (from_all p r l (stubs_of r l) [] (rows_nodes r.split l) led all) (chosen_all (λ n. not (holds_number ns n)) (stubs_of r l) led)

  -- ---- variables

  -- what it loads, where what it keeps is so
  pub loaded_all : (r : Routine) (l : Place) → All Q (closure_of r l) → All Q (loaded r l)
  loaded_all r Start all = chosen_all (λ k. is_parameter r.function k && is_plain r k) (closure_of r Start) all
  loaded_all r (At n) all = all

  -- what it begins, where all boxes are so too
  pub begun_all : (r : Routine) (l : Place) → All Q (closure_of r l) → All Q r.boxes → All Q (begun r l)
  begun_all r Start all boxes = All-append Q (chosen (λ k. not (is_parameter r.function k) && is_plain r k) (closure_of r Start)) r.boxes (chosen_all (λ k. not (is_parameter r.function k) && is_plain r k) (closure_of r Start) all) boxes
  begun_all r (At n) all boxes = All-nil Q

  unless_all : (b : Bool) (k : ℕ) (ks : List ℕ) → Q k → All Q ks → All Q (unless b k ks)
  unless_all true k ks q all = all
  unless_all false k ks q all = All-cons Q k ks q all

-- boxes are variables
pub boxes_within : (n k : ℕ) (vs : List V.Variable) → k + length vs ≤ n → All (λ i. i < n) (boxes_among k vs)
boxes_within n k [] le = All-nil (λ i. i < n)
boxes_within n k (v ∷ vs) le = unless_all (λ i. i < n) v.is_register k (boxes_among (suc k) vs) (omega (arith, le)) (boxes_within n (suc k) vs (omega (arith, le)))
