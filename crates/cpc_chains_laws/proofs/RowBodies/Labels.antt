-- No two rows of a piece have one label, and each goto leads to the label of a row.
use Rattle.std.proofs.Common.{◌≡◌, ◌⊎◌, inl, inr, ⊎_elim, ℕ, ◌+◌, ◌<◌, ◌^◌, Bool, true, false, ◌==◌, List, [], ◌∷◌, ◌++◌, map, length, refl, sym, ◌∙◌, ap, subst, arith, append_assoc}
use Rattle.cpc_base.specs.Bytes.{Text}
use Rattle.cpc_base.proofs.Truth.{eq_reflexive, or_neither}
use Rattle.cpc_tree.specs.Lists.{holds_number}
use Rattle.cpc_tree.specs.Syntax.{Stmt, Label, Function, Program}
use Rattle.cpc_chains_laws.specs.Complete.Flat.{NoneOf, NoText, AndOther, Distinct, NoneDistinct, AndDistinct, line_labels, labels_of}
use Rattle.cpc_forms.specs.Flow.{Place, flow_of}
use Rattle.cpc_forms.specs.Graph.{graph_of}
use Rattle.cpc_forms.specs.Pieces as P
use Rattle.cpc_forms.proofs.Owners.{owners_long}
use Rattle.cpc_convert_routines.specs.Names.{node_label}
use Rattle.cpc_convert_routines.specs.Routines.{Routine, routine_of}
use Rattle.cpc_convert_routines.specs.Nodes.{is_own}
use Rattle.cpc_chains_event.specs.Rows.{row_of, PutRow, numbers_of, first_number, put_statement, is_wanted, label_if, row_statements, rows_statements, piece_statements}
use Rattle.cpc_chains_event.proofs.Lines.{is_bare, AreBare, lines_done, puts_done}
use Rattle.cpc_chains_event.proofs.Labels.{leaders_rise, rows_stand_once, numbers, labels_apart}
use Rattle.cpc_convert_routines.proofs.Numbers.{AllBelow, NoneBelow, OneBelow, Rises, rises_below}
use Rattle.cpc_chains_laws.proofs.Accepted.Below.{below_numbers}
use Rattle.cpc_chains_laws.proofs.Piece.Rows.{rows, rows_numbers}
use Rattle.cpc_chains_laws.specs.RowBodies.Laws.{LabelsStandOnce}

-- ---- labels of statements

pub labels_append : (xs ys : List Stmt) → labels_of (xs ++ ys) ≡ labels_of xs ++ labels_of ys
labels_append [] ys = refl
labels_append (x ∷ xs) ys = ap (λ ls. line_labels x ++ ls) (labels_append xs ys) ∙ sym (append_assoc (line_labels x) (labels_of xs) (labels_of ys))

bare_has : (s : Stmt) → is_bare s ≡ true → line_labels s ≡ []
bare_has (Label m s) e = absurd (cc)
bare_has s e = refl

bare_labels : (ss : List Stmt) → AreBare ss → labels_of ss ≡ []
bare_labels [] h = refl
bare_labels (s ∷ ss) h = ap (λ ls. ls ++ labels_of ss) (bare_has s h.0) ∙ bare_labels ss h.1

-- a row has its label, or none
pub row_labels : (b : Bool) (l : Text) (ss : List Stmt) → AreBare ss → (labels_of (label_if b l ss) ≡ []) ⊎ (labels_of (label_if b l ss) ≡ l ∷ [])
row_labels true l [] h = inl refl
row_labels true l (s ∷ ss) h = inr (ap (λ ls. l ∷ (ls ++ labels_of ss)) (bare_has s h.0) ∙ ap (λ ls. l ∷ ls) (bare_labels ss h.1))
row_labels false l ss h = inl (bare_labels ss h)

-- ---- rows

-- the lines of rows have no labels, and their numbers are small
abbrev pub Plainly : List PutRow → Type 0
Plainly [] = Unit {0}
Plainly (r ∷ rs) = AreBare (map put_statement r.puts) × ((r.number < 2 ^ 63) × Plainly rs)

module _ (all : List PutRow) where
  none_of : (rs : List PutRow) (n : ℕ) → n < 2 ^ 63 → Plainly rs → holds_number (numbers rs) n ≡ false → NoneOf (node_label n) (labels_of (rows_statements all rs))
  none_of [] n small h e = NoText
  none_of (r ∷ rs) n small h e =
      let parts = or_neither (r.number == n) (holds_number (numbers rs) n) e in
      let rest = none_of rs n small h.1.1 parts.1 in
      let apart = labels_apart r.number n h.1.0 small (λ (i : r.number ≡ n). let z : true ≡ false = sym (eq_reflexive n) ∙ (ap (λ m. m == n) (sym i) ∙ parts.0) in absurd (cc)) in
      subst (NoneOf (node_label n)) (sym (labels_append (row_statements all r) (rows_statements all rs))) (⊎_elim
      (λ i. subst (λ ls. NoneOf (node_label n) (ls ++ labels_of (rows_statements all rs))) (sym i) rest)
      (λ i. subst (λ ls. NoneOf (node_label n) (ls ++ labels_of (rows_statements all rs))) (sym i) (AndOther (node_label r.number) _ apart rest))
      (row_labels (is_wanted r.number all) (node_label r.number) (map put_statement r.puts) h.0))

  distinct : (rs : List PutRow) → P.Once (numbers rs) → Plainly rs → Distinct (labels_of (rows_statements all rs))
  distinct [] o h = NoneDistinct
  distinct (r ∷ rs) (P.AndOther _ _ e o) h =
      subst Distinct (sym (labels_append (row_statements all r) (rows_statements all rs))) (⊎_elim
      (λ i. subst (λ ls. Distinct (ls ++ labels_of (rows_statements all rs))) (sym i) (distinct rs o h.1.1))
      (λ i. subst (λ ls. Distinct (ls ++ labels_of (rows_statements all rs))) (sym i) (AndDistinct (node_label r.number) _ (none_of rs r.number h.1.0 h.1.1 e) (distinct rs o h.1.1)))
      (row_labels (is_wanted r.number all) (node_label r.number) (map put_statement r.puts) h.0))

-- ---- the rows of a piece

module _ (p : Program) (f : Function) (l : Place) (few : length (graph_of p f).nodes < 2 ^ 63) where
  abbrev r : Routine
  r = routine_of p f

  abbrev size : ℕ
  size = length (graph_of p f).nodes

  numbers_below : AllBelow size (numbers_of p r l)
  numbers_below =
      let e = owners_long (flow_of (graph_of p f)) 0 size in
      below_numbers p r l size (omega (arith, e)) (rises_below size 0 r.split.leaders (subst (λ k. Rises k 0 r.split.leaders) (let z : 0 + size ≡ size = omega arith in z) (leaders_rise (flow_of (graph_of p f)) 0 size)))

  plainly : (ns : List ℕ) → AllBelow size ns → Plainly (rows p r l ns)
  plainly _ NoneBelow = tt
  plainly _ (OneBelow n ns less more) =
      (puts_done (first_number (map (row_of p r l) ns)) (row_of p r l n).lines (lines_done (is_own r.split l n) p r n), ((let z : n < 2 ^ 63 = omega (arith, less, few) in z), plainly ns more))

  stand_once : Distinct (labels_of (piece_statements p r l))
  stand_once = distinct (rows p r l (numbers_of p r l)) (rows p r l (numbers_of p r l)) (subst P.Once (sym (rows_numbers p r l (numbers_of p r l))) (rows_stand_once p f l).once) (plainly (numbers_of p r l) numbers_below)

pub labels_stand_once : LabelsStandOnce
labels_stand_once p f l few = stand_once p f l few
