-- The numbers of a piece's rows, where leaders that have a place are told by what is there.
use Rattle.std.proofs.Common.{◌≡◌, ℕ, zero, suc, ◌+◌, ◌<◌, ◌≤◌, ◌==◌, ◌||◌, ◌&&◌, not, Bool, true, false, List, [], ◌∷◌, ◌++◌, length, drop, slice_get, get_or, All, Option, Some, None, refl, sym, ◌∙◌, ap, subst, arith}
use Rattle.std.proofs.lemmas.List.{append_assoc, drop_all}
use Rattle.std.proofs.Math.Seq.{drop-cons}
use Rattle.cpc_base.proofs.Truth.{eq_means, eq_reflexive, or_by_first, or_by_second, not_holds, and_second, or_exchanged, false_unless_true, true_not_false}
use Rattle.cpc_base.proofs.Lists.{append_empty}
use Rattle.cpc_tree.specs.Lists.{holds_number}
use Rattle.cpc_tree.specs.Syntax.{Program}
use Rattle.cpc_tree.proofs.Holding.{holds_both}
use Rattle.cpc_forms.specs.Graph.{Node, at_node}
use Rattle.cpc_forms.specs.Flow.{Place}
use Rattle.cpc_forms.specs.Pieces.{owned_from, piece_nodes, first_of}
use Rattle.cpc_forms.specs.Split.{Split}
use Rattle.cpc_convert_routines.specs.Routines.{Routine, number_before, chosen}
use Rattle.cpc_chains_event.specs.Lines.{node_lines}
use Rattle.cpc_convert_routines.specs.Nodes.{is_own, has_row, rows_nodes}
use Rattle.cpc_chains_event.specs.Rows.{reached, stubs_of, row_of, lines_by, falls, number_where, stub_behind, numbers_from, completed, numbers_of}
use Rattle.cpc_chains_event.proofs.Labels.{fronted_is, turned_is}
use Rattle.cpc_convert_rows.specs.declared.stepped.Stepped.{Stepped}
use Rattle.cpc_convert_rows.specs.Numbers.{AreLeaders}
use Rattle.cpc_convert_rows.specs.Steps.{step_at, no_step, step_of, IsStepped}
use Rattle.cpc_convert_rows.proofs.Led.{node_falls}
use Rattle.cpc_convert_rows.proofs.Marking.{holds_before}
use Rattle.cpc_convert_rows.proofs.Turned.{owned_are}

-- ---- what a list holds

or_case : {P : Type 0} (a b : Bool) → (a || b) ≡ true → (a ≡ true → P) → (b ≡ true → P) → P
or_case true b e f g = f refl
or_case false b e f g = g e

pub holds_at : (ns : List ℕ) (i : ℕ) → i < length ns → holds_number ns (get_or ns i 0) ≡ true
holds_at [] i lt = absurd (omega arith)
holds_at (n ∷ ns) zero lt = or_by_first (n == n) (holds_number ns n) (eq_reflexive n)
holds_at (n ∷ ns) (suc i) lt = or_by_second (n == get_or ns i 0) (holds_number ns (get_or ns i 0)) (holds_at ns i (omega arith))

holds_chosen : (test : ℕ → Bool) (ns : List ℕ) (k : ℕ) → holds_number (chosen test ns) k ≡ true → (test k ≡ true) × (holds_number ns k ≡ true)
holds_chosen test [] k e = absurd (cc)
holds_chosen test (n ∷ ns) k e = go (test n) refl e (λ h. holds_chosen test ns k h)
  where
    later : (test k ≡ true) × (holds_number ns k ≡ true) → (test k ≡ true) × (((n == k) || holds_number ns k) ≡ true)
    later p = (p.0, or_by_second (n == k) (holds_number ns k) p.1)

    go : (b : Bool) → test n ≡ b → holds_number (number_before b n (chosen test ns)) k ≡ true → (holds_number (chosen test ns) k ≡ true → (test k ≡ true) × (holds_number ns k ≡ true)) → (test k ≡ true) × (((n == k) || holds_number ns k) ≡ true)
    go true t h rest = or_case (n == k) (holds_number (chosen test ns) k) h (λ i. (ap test (sym (eq_means n k i)) ∙ t, or_by_first (n == k) (holds_number ns k) i)) (λ i. later (rest i))
    go false t h rest = later (rest h)

-- nodes that have rows are the piece's own
pub rows_own : (s : Split) (l : Place) (k : ℕ) → holds_number (rows_nodes s l) k ≡ true → is_own s l k ≡ true
rows_own s l k e =
    sym (owned_are l s.owners k)
    ∙ fronted_is (first_of s l) (owned_from l 0 s.owners) k (holds_chosen (has_row s) (piece_nodes s l) k (turned_is (first_of s l) (chosen (has_row s) (piece_nodes s l)) k e)).1

-- the leaders to which it goes are not
pub leaders_not_own : (r : Routine) (l : Place) (k : ℕ) → holds_number (stubs_of r l) k ≡ true → is_own r.split l k ≡ false
leaders_not_own r l k e = not_holds (is_own r.split l k) (and_second (holds_number (reached r l) k) (not (is_own r.split l k)) (holds_chosen (λ n. holds_number (reached r l) n && not (is_own r.split l n)) r.split.leaders k e).0)

pub leaders_led : (r : Routine) (l : Place) (k : ℕ) → holds_number (stubs_of r l) k ≡ true → holds_number r.split.leaders k ≡ true
leaders_led r l k e = (holds_chosen (λ n. holds_number (reached r l) n && not (is_own r.split l n)) r.split.leaders k e).1

-- ---- places of leaders

-- where control falls behind a row of the piece's own
pub row_falls : (p : Program) (r : Routine) (l : Place) (n : ℕ) → is_own r.split l n ≡ true → falls (row_of p r l n).lines ≡ (step_at r n).falls
row_falls p r l n e = ap (λ b. falls (lines_by b p r n)) e ∙ go (slice_get r.split.graph.nodes n)
  where
    go : (o : Option Node) → falls (at_node [] (node_lines p r) o) ≡ (at_node no_step (step_of r) o).falls
    go None = refl
    go (Some node) = node_falls p r node

-- lists that hold the same of these leaders
abbrev Same : (stubs a b : List ℕ) → Type 0
Same stubs a b = (k : ℕ) → holds_number stubs k ≡ true → holds_number a k ≡ holds_number b k

behind_same : (stubs a b : List ℕ) (o : Option ℕ) → Same stubs a b → stub_behind stubs a o ≡ stub_behind stubs b o
behind_same stubs a b None same = refl
behind_same stubs a b (Some n) same = go (holds_number stubs n) refl
  where
    go : (x : Bool) → holds_number stubs n ≡ x → number_where (x && not (holds_number a n)) n ≡ number_where (x && not (holds_number b n)) n
    go true e = ap (λ y. number_where (not y) n) (same n e)
    go false e = refl

from_same : (p : Program) (r : Routine) (l : Place) (stubs ns a b : List ℕ) → Same stubs a b → numbers_from p r l stubs a ns ≡ numbers_from p r l stubs b ns
from_same p r l stubs [] a b same = refl
from_same p r l stubs (n ∷ ns) a b same =
    let s = stub_behind stubs b (falls (row_of p r l n).lines) in
    ap (λ x. n ∷ (x ++ numbers_from p r l stubs (x ++ a) ns)) (behind_same stubs a b (falls (row_of p r l n).lines) same)
    ∙ ap (λ x. n ∷ (s ++ x)) (from_same p r l stubs ns (s ++ a) (s ++ b) (λ k h. holds_both s a k ∙ (ap (λ x. holds_number s k || x) (same k h) ∙ sym (holds_both s b k))))

-- a node and the leader behind it
node_more : (p : Program) (r : Routine) (l : Place) (stubs all new ns : List ℕ) (n : ℕ) (o : Option ℕ) → holds_number stubs n ≡ false → falls (row_of p r l n).lines ≡ o
    → new ≡ (all ++ n ∷ []) ++ stub_behind stubs (all ++ n ∷ []) o → new ++ numbers_from p r l stubs new ns ≡ all ++ numbers_from p r l stubs all (n ∷ ns)
node_more p r l stubs all new ns n o absent fe e =
    let s = stub_behind stubs all (falls (row_of p r l n).lines) in
    let rest = numbers_from p r l stubs (s ++ all) ns in
    let differs : (k : ℕ) → holds_number stubs k ≡ true → ¬ (n ≡ k) = λ k h i. no (sym h ∙ (ap (holds_number stubs) (sym i) ∙ absent)) in
    let same : Same stubs (all ++ n ∷ []) all = λ k h. holds_before all n k (differs k h) in
    let is : new ≡ (all ++ n ∷ []) ++ s = e ∙ ap (λ x. (all ++ n ∷ []) ++ x) (behind_same stubs (all ++ n ∷ []) all o same ∙ ap (stub_behind stubs all) (sym fe)) in
    ap (λ x. new ++ x) (ap (λ x. numbers_from p r l stubs x ns) is
    ∙ from_same p r l stubs ns ((all ++ n ∷ []) ++ s) (s ++ all) (λ k h. holds_both (all ++ n ∷ []) s k ∙ (ap (λ b. b || holds_number s k) (same k h) ∙ (or_exchanged (holds_number all k) (holds_number s k) ∙ sym (holds_both s all k)))))
    ∙ (ap (λ x. x ++ rest) is ∙ (append_assoc (all ++ n ∷ []) s rest ∙ append_assoc all (n ∷ []) (s ++ rest)))
  where
    no : true ≡ false → ⊥
    no e = absurd (cc)

-- one node more of the piece
pub one_more : (p : Program) (r : Routine) (l : Place) (nodes all new total : List ℕ) (i : ℕ) → i < length nodes → nodes ≡ rows_nodes r.split l
    → new ≡ (all ++ get_or nodes i 0 ∷ []) ++ stub_behind (stubs_of r l) (all ++ get_or nodes i 0 ∷ []) (step_at r (get_or nodes i 0)).falls
    → all ++ numbers_from p r l (stubs_of r l) all (drop i nodes) ≡ total
    → new ++ numbers_from p r l (stubs_of r l) new (drop (i + 1) nodes) ≡ total
one_more p r l nodes all new total i lt are e before =
    let n = get_or nodes i 0 in
    let own : is_own r.split l n ≡ true = rows_own r.split l n (subst (λ ns. holds_number ns n ≡ true) are (holds_at nodes i lt)) in
    let absent : holds_number (stubs_of r l) n ≡ false = false_unless_true (holds_number (stubs_of r l) n) (λ h. true_not_false (sym own ∙ leaders_not_own r l n h)) in
    let step : suc i ≡ i + 1 = omega arith in
    node_more p r l (stubs_of r l) all new (drop (i + 1) nodes) n (step_at r n).falls absent (row_falls p r l n own) e
    ∙ (ap (λ x. all ++ numbers_from p r l (stubs_of r l) all (n ∷ drop x nodes)) (sym step) ∙ (ap (λ x. all ++ numbers_from p r l (stubs_of r l) all x) (sym (drop-cons nodes i 0 lt)) ∙ before))

all_holds : (count : ℕ) (ns : List ℕ) → All (λ n. n < count) ns → (k : ℕ) → holds_number ns k ≡ true → k < count
all_holds count [] all k e = absurd (cc)
all_holds count (n ∷ ns) all k e =
    or_case (n == k) (holds_number ns k) e (λ i. subst (λ m. m < count) (eq_means n k i) (all 0 0 (omega arith)))
    (λ i. all_holds count ns (λ j d lt. all (suc j) d (omega arith)) k i)

-- the leaders to which a piece goes are nodes
pub leaders_below : (r : Routine) (l : Place) (s : Stepped) → IsStepped r s → AreLeaders (length s.steps.items) (stubs_of r l)
leaders_below r l s is = λ k e. all_holds (length s.steps.items) s.split.now.leaders.items is.led k (ap (λ ns. holds_number ns k) (sym is.leaders) ∙ leaders_led r l k e)

-- when no node is left
pub all_placed : (p : Program) (r : Routine) (l : Place) (nodes leaders all x : List ℕ) (i : ℕ) → length nodes ≤ i → nodes ≡ rows_nodes r.split l → leaders ≡ stubs_of r l
    → all ++ numbers_from p r l (stubs_of r l) all (drop i nodes) ≡ numbers_from p r l (stubs_of r l) [] nodes → x ≡ completed leaders all → x ≡ numbers_of p r l
all_placed p r l nodes leaders all x i past are led is e =
    let found : all ≡ numbers_from p r l (stubs_of r l) [] (rows_nodes r.split l) =
    sym (append_empty all) ∙ (ap (λ ns. all ++ numbers_from p r l (stubs_of r l) all ns) (sym (drop_all i nodes past)) ∙ (is ∙ ap (numbers_from p r l (stubs_of r l) []) are)) in
    e ∙ (ap (λ s. completed s all) led ∙ ap (completed (stubs_of r l)) found)
