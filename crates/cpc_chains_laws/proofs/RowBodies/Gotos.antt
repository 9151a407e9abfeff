-- Each goto of a piece leads to the label of a row: where a node goes a row stands, which has a line before which the label can stand.
use Rattle.std.proofs.Common.{◌≡◌, ℕ, Bool, true, false, ◌||◌, ◌==◌, List, [], ◌∷◌, ◌++◌, map, Option, Some, None, refl, sym, ◌∙◌, ap, subst, append_assoc}
use Rattle.cpc_base.specs.Bytes.{Text}
use Rattle.cpc_base.proofs.Truth.{eq_reflexive, or_by_second}
use Rattle.cpc_base.proofs.Lists.{found_within}
use Rattle.cpc_tree.specs.Lists.{holds_number}
use Rattle.cpc_tree.specs.Syntax.{Stmt, Function, Program}
use Rattle.cpc_tree.specs.Points.{Found, Simple}
use Rattle.cpc_meaning.specs.Act.{AtStatement}
use Rattle.cpc_meaning.specs.Ways.{ByFrame}
use Rattle.cpc_meaning.proofs.Functions.{text_same}
use Rattle.cpc_chains_laws.specs.Complete.Flat.{OneOf, IsFirst, IsLater, AllOf, NoneAsked, AndKnown, line_labels, labels_of, line_gotos, gotos_of}
use Rattle.cpc_forms.specs.Flow.{Place, Flow, owner_of, as_list}
use Rattle.cpc_forms.specs.Graph.{graph_of, way, at_node}
use Rattle.cpc_graph_laws.specs.Laws.{flow_in}
use Rattle.cpc_graph_laws.proofs.Formed.{in_right, that_is}
use Rattle.cpc_graph_laws.proofs.Splits.{owner_there}
use Rattle.cpc_chains_event.specs.Lines.{behind_arrival, node_lines}
use Rattle.cpc_chains_event.specs.LabelLaws.{put_in}
use Rattle.cpc_convert_routines.specs.Named.{IsOwner}
use Rattle.cpc_convert_routines.specs.Names.{node_label}
use Rattle.cpc_convert_routines.specs.Routines.{Routine, routine_of, readings_of}
use Rattle.cpc_convert_routines.specs.Nodes.{is_own, has_row}
use Rattle.cpc_chains_event.specs.Rows.{behind_call, onwards, lines_by, row_of, numbers_of, first_number, Put, Plain, Jump, JumpIf, put_lines, PutRow, put_rows, put_statement, any_leads, is_wanted, label_if, row_statements, rows_statements, piece_statements}
use Rattle.cpc_chains_laws.specs.Piece.Rows.{put_row, RowAt}
use Rattle.cpc_chains_laws.specs.Piece.Stood.{NodeAt}
use Rattle.cpc_chains_laws.proofs.Piece.Filled.{row_filled}
use Rattle.cpc_chains_laws.proofs.Piece.Places.{IsFilled, wanted_in}
use Rattle.cpc_chains_laws.proofs.Piece.Ways.{Next, way_next, onwards_way, owner_is, row_for}
use Rattle.cpc_chains_laws.proofs.Call.Framed.{framed_calls_arrive}
use Rattle.cpc_chains_laws.proofs.Shape.Declared.{keeps}
use Rattle.cpc_chains_laws.proofs.Shape.Numbers.{own_row, owned_below}
use Rattle.cpc_chains_laws.specs.RowBodies.Laws.{GotosLead}
use Rattle.cpc_chains_laws.proofs.RowBodies.Labels.{labels_append}
use Rattle.cpc_chains_laws.proofs.RowBodies.Ways.{AllGo, WayIf, AllPut, stood_goes, stub_goes, puts_go}

-- ---- texts in lists

one_left : (x : Text) (xs ys : List Text) → OneOf x xs → OneOf x (xs ++ ys)
one_left x _ ys (IsFirst y xs e) = IsFirst y (xs ++ ys) e
one_left x _ ys (IsLater y xs h) = IsLater y (xs ++ ys) (one_left x xs ys h)

one_right : (x : Text) (xs ys : List Text) → OneOf x ys → OneOf x (xs ++ ys)
one_right x [] ys h = h
one_right x (y ∷ xs) ys h = IsLater y (xs ++ ys) (one_right x xs ys h)

all_both : (known xs ys : List Text) → AllOf known xs → AllOf known ys → AllOf known (xs ++ ys)
all_both known _ ys NoneAsked h = h
all_both known _ ys (AndKnown x xs o a) h = AndKnown x (xs ++ ys) o (all_both known xs ys a h)

gotos_append : (xs ys : List Stmt) → gotos_of (xs ++ ys) ≡ gotos_of xs ++ gotos_of ys
gotos_append [] ys = refl
gotos_append (x ∷ xs) ys = ap (λ ls. line_gotos x ++ ls) (gotos_append xs ys) ∙ sym (append_assoc (line_gotos x) (gotos_of xs) (gotos_of ys))

-- a label stands where its number was met
gotos_labelled : (b : Bool) (l : Text) (ss : List Stmt) → gotos_of (label_if b l ss) ≡ gotos_of ss
gotos_labelled true l [] = refl
gotos_labelled true l (s ∷ ss) = refl
gotos_labelled false l ss = refl

-- ---- the label of a row that is wanted

label_first : (b : Bool) (l : Text) (x : Put) (xs : List Put) → b ≡ true → OneOf l (labels_of (label_if b l (map put_statement (x ∷ xs))))
label_first true l x xs e = IsFirst l (line_labels (put_statement x) ++ labels_of (map put_statement xs)) (text_same l)
label_first false l x xs e = absurd (cc)

row_label : (all front back : List PutRow) (row : PutRow) (l : Text) → OneOf l (labels_of (row_statements all row)) → OneOf l (labels_of (rows_statements all (front ++ row ∷ back)))
row_label all [] back row l h = subst (OneOf l) (sym (labels_append (row_statements all row) (rows_statements all back))) (one_left l (labels_of (row_statements all row)) (labels_of (rows_statements all back)) h)
row_label all (f ∷ front) back row l h =
    subst (OneOf l) (sym (labels_append (row_statements all f) (rows_statements all (front ++ row ∷ back))))
    (one_right l (labels_of (row_statements all f)) (labels_of (rows_statements all (front ++ row ∷ back))) (row_label all front back row l h))

module _ (p : Program) (f : Function) (l : Place) (owner : IsOwner (routine_of p f) l) where
  abbrev r : Routine
  r = routine_of p f

  abbrev flow : Flow
  flow = flow_in p f

  abbrev all : List PutRow
  all = put_in p r l

  -- a node that the owner owns
  pub node_at : (n : ℕ) → owner_of flow n ≡ Some l → NodeAt p f l n
  node_at n e =
      let node = found_within (graph_of p f).nodes n (owned_below p f l n l e) in
      record { owner = owner; keeps = keeps p f l n e; owned = owner_there (graph_of p f) n node.0 node.1 ∙ ap (λ o. Some o) e; node = node.0; is_node = node.1 }

  -- ---- where rows go

  -- a number that has a row with a line
  pub record HasRow (m : ℕ) : Type 0 where
    pub row : RowAt p r l m
    pub filled : IsFilled p f l m row

  module _ (n : ℕ) (at : NodeAt p f l n) (has : has_row r.split n ≡ true) where
    next_row : (m : ℕ) → holds_number (onwards r at.node) m ≡ true → Next p f l m → HasRow m
    next_row m goes next = let b = row_for p f l n at has m goes next in record { row = b; filled = row_filled p f l m next.node next.is_node b }

    way_row : (h : Bool) (o : Option ℕ) → way at.node h ≡ o → WayIf HasRow o
    way_row h None e = tt
    way_row h (Some m) e = next_row m (onwards_way p f at.node h m e) (way_next p f l n at h m e)

    -- behind a call that is left over a frame: where control goes on from its arrival
    behind_row : (x : Found) → at.node.stood ≡ AtStatement x → at.node.manner ≡ ByFrame → (o : Option ℕ) → behind_arrival r at.node.arrival ≡ o → WayIf HasRow o
    behind_row x e framed None i = tt
    behind_row x e framed (Some m) i =
        let fr = framed_calls_arrive p f n at.node x at.is_node e framed in
        let there = node_at fr.arrival (fr.owner ∙ owner_is p f l n at) in
        let is_yes : way there.node true ≡ Some m = sym (ap (behind_arrival r) fr.is_arrival ∙ ap (at_node None (λ node. node.yes)) there.is_node) ∙ i in
        next_row m
        (in_right m (as_list at.node.yes) _ (in_right m (as_list at.node.no) _ (that_is m (behind_call r at.node.manner at.node.arrival) (ap (λ w. behind_call r w at.node.arrival) framed ∙ i))))
        (way_next p f l fr.arrival there true m is_yes)

    node_goes : AllGo HasRow (node_lines p r at.node)
    node_goes = stood_goes HasRow p r (readings_of r at.node.scope) at.node.manner at.node.stood at.node.yes at.node.no at.node.arrival (way_row true at.node.yes refl) (way_row false at.node.no refl)
        (λ framed x e. behind_row (Simple x) e framed (behind_arrival r at.node.arrival) refl)

  row_goes : (n : ℕ) → holds_number (numbers_of p r l) n ≡ true → AllGo HasRow (row_of p r l n).lines
  row_goes n h = go (is_own r.split l n) refl
    where
      go : (b : Bool) → is_own r.split l n ≡ b → AllGo HasRow (lines_by b p r n)
      go true e =
          let own = own_row p f l n h e in
          let at = node_at n own.0 in
          subst (λ o. AllGo HasRow (at_node [] (node_lines p r) o)) (sym at.is_node) (node_goes n at own.1)
      go false e = stub_goes HasRow r n

  -- ---- gotos

  abbrev known : List Text
  known = labels_of (rows_statements all all)

  wanted_known : (m : ℕ) → HasRow m → is_wanted m all ≡ true → OneOf (node_label m) known
  wanted_known m h wanted =
      let b = h.row in
      subst (λ rs. OneOf (node_label m) (labels_of (rows_statements all rs))) (sym b.is_split)
      (row_label all b.front b.back (put_row p r l m b.back) (node_label m)
      (subst (λ xs. OneOf (node_label m) (labels_of (label_if (is_wanted m all) (node_label m) (map put_statement xs)))) (sym h.filled.2) (label_first (is_wanted m all) (node_label m) h.filled.0 h.filled.1 wanted)))

  puts_known : (xs : List Put) → AllPut HasRow xs → ((m : ℕ) → any_leads m xs ≡ true → is_wanted m all ≡ true) → AllOf known (gotos_of (map put_statement xs))
  puts_known [] h w = NoneAsked
  puts_known (Plain s ∷ xs) h w = subst (λ ls. AllOf known (ls ++ gotos_of (map put_statement xs))) (sym h.0) (puts_known xs h.1 (λ m i. w m i))
  puts_known (Jump n ∷ xs) h w = AndKnown (node_label n) _ (wanted_known n h.0 (w n (ap (λ b. b || any_leads n xs) (eq_reflexive n)))) (puts_known xs h.1 (λ m i. w m (or_by_second (n == m) (any_leads m xs) i)))
  puts_known (JumpIf e n ∷ xs) h w = AndKnown (node_label n) _ (wanted_known n h.0 (w n (ap (λ b. b || any_leads n xs) (eq_reflexive n)))) (puts_known xs h.1 (λ m i. w m (or_by_second (n == m) (any_leads m xs) i)))

  -- the rows of these numbers, behind others
  rows_known : (ns : List ℕ) (front : List PutRow) → all ≡ front ++ put_rows (map (row_of p r l) ns) → ((n : ℕ) → holds_number ns n ≡ true → AllGo HasRow (row_of p r l n).lines) → AllOf known (gotos_of (rows_statements all (put_rows (map (row_of p r l) ns))))
  rows_known [] front e h = NoneAsked
  rows_known (n ∷ ns) front e h =
      subst (AllOf known) (sym (gotos_append (row_statements all this) (rows_statements all rest)))
      (all_both known (gotos_of (row_statements all this)) (gotos_of (rows_statements all rest))
      (subst (AllOf known) (sym (gotos_labelled (is_wanted n all) (node_label n) (map put_statement this.puts)))
      (puts_known this.puts (puts_go HasRow (first_number (map (row_of p r l) ns)) (row_of p r l n).lines (h n (ap (λ b. b || holds_number ns n) (eq_reflexive n)))) (λ m i. ap (is_wanted m) e ∙ wanted_in m front rest this i)))
      (rows_known ns (front ++ this ∷ []) (e ∙ sym (assoc front (this ∷ []) rest)) (λ m i. h m (or_by_second (n == m) (holds_number ns m) i))))
    where
      this : PutRow
      this = record { number = n; puts = put_lines (first_number (map (row_of p r l) ns)) (row_of p r l n).lines }

      rest : List PutRow
      rest = put_rows (map (row_of p r l) ns)

      assoc : (us vs ws : List PutRow) → (us ++ vs) ++ ws ≡ us ++ (vs ++ ws)
      assoc [] vs ws = refl
      assoc (u ∷ us) vs ws = ap (λ xs. u ∷ xs) (assoc us vs ws)

  gotos_known : AllOf (labels_of (piece_statements p r l)) (gotos_of (piece_statements p r l))
  gotos_known = rows_known (numbers_of p r l) [] refl row_goes

pub gotos_lead : GotosLead
gotos_lead p f l owner = gotos_known p f l owner
