-- Each number of a piece has one row, and its label leads to it.
use Rattle.std.proofs.Common.{◌≡◌, ◌⊎◌, inl, inr, ⊎_elim, ℕ, zero, suc, ◌+◌, ◌<◌, ◌^◌, Bool, true, false, not, ◌&&◌, ◌||◌, ◌==◌, cond, List, [], ◌∷◌, ◌++◌, map, reverse, length, decimal, slice_get, nat_le, nat_lt, bytes_eq, Option, Some, None, refl, sym, ◌∙◌, ap, subst, codes, arith}
use Rattle.std.proofs.lemmas.Bool.Decides.{nat_tests}
use Rattle.std.proofs.lemmas.List.{reverse-append, reverse-reverse}
use Rattle.cpc_base.specs.Bytes.{Text}
use Rattle.cpc_base.proofs.Truth.{eq_reflexive, and_both, or_by_second, false_unless_true, or_neither, or_both_fail, eq_means, eq_fails, or_with_false, not_holds}
use Rattle.cpc_base.proofs.Lists.{length_of_map}
use Rattle.cpc_tree.specs.Lists.{holds_number}
use Rattle.cpc_tree.specs.Syntax.{TyPointer, TyStruct, ENamed, Stmt, Block, Empty, Declare, Assign, Call, Detach, Spawn, If, While, DoWhile, For, Goto, Label, Break, Continue, Return, Stmts, NoStmt, AndStmt, Function, Program}
use Rattle.cpc_tree.proofs.Holding.{holds_both}
use Rattle.cpc_meaning.proofs.Functions.{text_same, texts_differ}
use Rattle.cpc_convert_common.specs.Converted.{marked}
use Rattle.cpc_convert_common.proofs.Marks.{decimal_is}
use Rattle.cpc_forms.specs.Graph.{graph_of}
use Rattle.cpc_forms.specs.Flow.{Place, Flow, flow_of, is_leader}
use Rattle.cpc_forms.specs.Split.{Split, number_if, leaders_from}
use Rattle.cpc_forms.specs.Pieces.{is_owned_by, owned_from, without, fronted, first_of, piece_nodes, Once, NoNumber, AndOther}
use Rattle.cpc_forms.proofs.Owners.{owners_long}
use Rattle.cpc_graph_laws.proofs.Owning.{pieces_hold_once}
use Rattle.cpc_convert_flat_laws.specs.Flat.{before, has_label, label_in}
use Rattle.cpc_convert_flat_laws.specs.Locals.{loads_one, declares_one}
use Rattle.cpc_chains_store_laws.specs.Frames.{frees_frame}
use Rattle.cpc_convert_flat_laws.proofs.Labels.{NoLabel, NoneLeft, NotHere, label_behind, label_first}
use Rattle.cpc_convert_flat_laws.proofs.Rows.{before_append}
use Rattle.cpc_convert_routines.specs.Names.{piece_name, node_label, pointer_name, frame_name}
use Rattle.cpc_convert_routines.specs.Routines.{Routine, routine_of, chosen}
use Rattle.cpc_chains_event.specs.Rows.{owner_at, reached, stubs_of, Row, row_of, falls, number_where, stub_behind, numbers_from, numbers_of, rows_of, Put, first_number, PutRow, put_rows, put_statement, is_wanted, label_if, row_statements, rows_statements, piece_statements}
use Rattle.cpc_convert_routines.specs.Nodes.{is_own, has_row, turned, rows_nodes}
use Rattle.cpc_chains_event.specs.Pieces.{loads_of, declares_of, boxing_of, piece_body}
use Rattle.cpc_chains_event.specs.FlatLaws.{opening}
use Rattle.cpc_chains_event.specs.LabelLaws.{put_in, AllRowsStandOnce, LabelsLead}
use Rattle.cpc_chains_event.proofs.Lines.{is_bare, AreBare, AllRows, rows_map, lines_done, puts_done}
use Rattle.cpc_chains_event.proofs.Flat.{boxes_done}
use Rattle.cpc_convert_routines.proofs.Numbers.{held_either, not_in_append, once_append, chosen_is, chosen_has, chosen_out, once_chosen, Rises, NoneRise, OneRise, rises_lower, rises_once}

-- ---- nodes and leaders of a piece

module _ (l : Place) where
  -- what is owned is owned, and is a number of the list
  owned_is : (k : ℕ) (os : List (Option Place)) (n : ℕ) → holds_number (owned_from l k os) n ≡ true → (j : ℕ) × (n ≡ k + j) × (j < length os) × (is_owned_by l (owner_at (slice_get os j)) ≡ true)
  owned_is k [] n h = absurd (cc)
  owned_is k (o ∷ os) n h = go (is_owned_by l o) refl h (λ i. later_one (owned_is (suc k) os n i))
    where
      later_one : ((j : ℕ) × (n ≡ suc k + j) × (j < length os) × (is_owned_by l (owner_at (slice_get os j)) ≡ true)) → (j : ℕ) × (n ≡ k + j) × (j < suc (length os)) × (is_owned_by l (owner_at (slice_get (o ∷ os) j)) ≡ true)
      later_one d = (suc d.0, (let e = d.1 in let z : n ≡ k + suc d.0 = omega (arith, e) in z), (let e = d.2 in let z : suc d.0 < suc (length os) = omega (arith, e) in z), d.3)

      here : (b : Bool) → (k == n) ≡ b → (b || holds_number (owned_from l (suc k) os) n) ≡ true → is_owned_by l o ≡ true → (holds_number (owned_from l (suc k) os) n ≡ true → (j : ℕ) × (n ≡ k + j) × (j < suc (length os)) × (is_owned_by l (owner_at (slice_get (o ∷ os) j)) ≡ true))
          → (j : ℕ) × (n ≡ k + j) × (j < suc (length os)) × (is_owned_by l (owner_at (slice_get (o ∷ os) j)) ≡ true)
      here true e i is deeper = (0, (let z = eq_means k n e in let y : n ≡ k + 0 = omega (arith, z) in y), (let z : 0 < suc (length os) = omega arith in z), is)
      here false e i is deeper = deeper i

      go : (b : Bool) → is_owned_by l o ≡ b → holds_number (number_if b k (owned_from l (suc k) os)) n ≡ true → (holds_number (owned_from l (suc k) os) n ≡ true → (j : ℕ) × (n ≡ k + j) × (j < suc (length os)) × (is_owned_by l (owner_at (slice_get (o ∷ os) j)) ≡ true))
          → (j : ℕ) × (n ≡ k + j) × (j < suc (length os)) × (is_owned_by l (owner_at (slice_get (o ∷ os) j)) ≡ true)
      go true e i deeper = here (k == n) refl i e deeper
      go false e i deeper = deeper i

without_is : (m : ℕ) (ns : List ℕ) (n : ℕ) → holds_number (without m ns) n ≡ true → holds_number ns n ≡ true
without_is m [] n h = h
without_is m (k ∷ ns) n h = go (not (k == m)) h (λ i. without_is m ns n i)
  where
    go : (b : Bool) → holds_number (number_if b k (without m ns)) n ≡ true → (holds_number (without m ns) n ≡ true → holds_number ns n ≡ true) → ((k == n) || holds_number ns n) ≡ true
    go true i deeper = first (k == n) i deeper
      where
        first : (c : Bool) → (c || holds_number (without m ns) n) ≡ true → (holds_number (without m ns) n ≡ true → holds_number ns n ≡ true) → (c || holds_number ns n) ≡ true
        first true j deeper = refl
        first false j deeper = deeper j
    go false i deeper = or_by_second (k == n) (holds_number ns n) (deeper i)

pub fronted_is : (m : ℕ) (ns : List ℕ) (n : ℕ) → holds_number (fronted m ns) n ≡ true → holds_number ns n ≡ true
fronted_is m ns n h = go (holds_number ns m) refl h
  where
    first : holds_number ns m ≡ true → (b : Bool) → (m == n) ≡ b → (b || holds_number (without m ns) n) ≡ true → holds_number ns n ≡ true
    first e true i j = ap (holds_number ns) (sym (eq_means m n i)) ∙ e
    first e false i j = without_is m ns n j

    go : (b : Bool) → holds_number ns m ≡ b → holds_number (cond b (m ∷ without m ns) ns) n ≡ true → holds_number ns n ≡ true
    go true e i = first e (m == n) refl i
    go false e i = i

-- a node of a piece is its owner's, and one of the graph
own_is : (s : Split) (l : Place) (n : ℕ) → holds_number (piece_nodes s l) n ≡ true → (is_own s l n ≡ true) × (n < length s.owners)
own_is s l n h =
    let d = owned_is l 0 s.owners n (fronted_is (first_of s l) (owned_from l 0 s.owners) n h) in
    let e : n ≡ d.0 = let z = d.1 in let y : n ≡ d.0 = omega (arith, z) in y in
    (ap (λ m. is_owned_by l (owner_at (slice_get s.owners m))) e ∙ d.3, let z = d.2 in let y : n < length s.owners = omega (arith, e, z) in y)

le_lt : (m n : ℕ) → nat_le m n ≡ true → nat_lt n m ≡ false
le_lt m n h = false_unless_true (nat_lt n m) (λ g. absurd (grind (arith, nat_tests)))

pub turned_is : (m : ℕ) (ns : List ℕ) (n : ℕ) → holds_number (turned m ns) n ≡ true → holds_number ns n ≡ true
turned_is m ns n h = held_either (chosen (λ k. nat_le m k) ns) (chosen (λ k. nat_lt k m) ns) n (holds_number ns n ≡ true) h (λ i. (chosen_is (λ k. nat_le m k) ns n i).0) (λ i. (chosen_is (λ k. nat_lt k m) ns n i).0)

once_turned : (m : ℕ) (ns : List ℕ) → Once ns → Once (turned m ns)
once_turned m ns o =
    once_append (chosen (λ k. nat_le m k) ns) (chosen (λ k. nat_lt k m) ns) (once_chosen (λ k. nat_le m k) ns o) (once_chosen (λ k. nat_lt k m) ns o)
    (λ n h. chosen_out (λ k. nat_lt k m) ns n (le_lt m n (chosen_is (λ k. nat_le m k) ns n h).1))

-- a node with a row is one of the piece
rows_node_is : (s : Split) (l : Place) (n : ℕ) → holds_number (rows_nodes s l) n ≡ true → holds_number (piece_nodes s l) n ≡ true
rows_node_is s l n h = (chosen_is (has_row s) (piece_nodes s l) n (turned_is (first_of s l) (chosen (has_row s) (piece_nodes s l)) n h)).0

-- ---- the order of rows

where_is : (b : Bool) (n m : ℕ) → holds_number (number_where b n) m ≡ true → (b ≡ true) × (n ≡ m)
where_is true n m h = (refl, eq_means n m (sym (or_with_false (n == m)) ∙ h))
where_is false n m h = absurd (cc)

-- a stub is one of the leaders that has no place yet
pub behind_is : (stubs placed : List ℕ) (o : Option ℕ) (m : ℕ) → holds_number (stub_behind stubs placed o) m ≡ true → (holds_number stubs m ≡ true) × (holds_number placed m ≡ false)
behind_is stubs placed None m h = absurd (cc)
behind_is stubs placed (Some n) m h =
    let w = where_is (holds_number stubs n && not (holds_number placed n)) n m h in
    let t = and_both (holds_number stubs n) (not (holds_number placed n)) w.0 in
    (ap (holds_number stubs) (sym w.1) ∙ t.0, ap (holds_number placed) (sym w.1) ∙ not_holds (holds_number placed n) t.1)

behind_once : (stubs placed : List ℕ) (o : Option ℕ) → Once (stub_behind stubs placed o)
behind_once stubs placed None = NoNumber
behind_once stubs placed (Some n) = go (holds_number stubs n && not (holds_number placed n))
  where
    go : (b : Bool) → Once (number_where b n)
    go true = AndOther n [] refl NoNumber
    go false = NoNumber

module _ (p : Program) (r : Routine) (l : Place) (stubs : List ℕ) where
  -- what is listed is a node, or a leader that had no place
  from_is : (placed ns : List ℕ) (m : ℕ) → holds_number (numbers_from p r l stubs placed ns) m ≡ true → (holds_number ns m ≡ true) ⊎ ((holds_number stubs m ≡ true) × (holds_number placed m ≡ false))
  from_is placed [] m h = absurd (cc)
  from_is placed (n ∷ ns) m h = go (n == m) refl h (λ i. from_is (b ++ placed) ns m i)
    where
      b : List ℕ
      b = stub_behind stubs placed (falls (row_of p r l n).lines)

      rest : (holds_number (numbers_from p r l stubs (b ++ placed) ns) m ≡ true → (holds_number ns m ≡ true) ⊎ ((holds_number stubs m ≡ true) × (holds_number (b ++ placed) m ≡ false)))
          → holds_number (numbers_from p r l stubs (b ++ placed) ns) m ≡ true → (holds_number ns m ≡ true) ⊎ ((holds_number stubs m ≡ true) × (holds_number placed m ≡ false))
      rest deeper i = ⊎_elim (λ a. inl a) (λ a. inr (a.0, (or_neither (holds_number b m) (holds_number placed m) (sym (holds_both b placed m) ∙ a.1)).1)) (deeper i)

      go : (c : Bool) → (n == m) ≡ c → (c || holds_number (b ++ numbers_from p r l stubs (b ++ placed) ns) m) ≡ true
          → (holds_number (numbers_from p r l stubs (b ++ placed) ns) m ≡ true → (holds_number ns m ≡ true) ⊎ ((holds_number stubs m ≡ true) × (holds_number (b ++ placed) m ≡ false)))
          → ((c || holds_number ns m) ≡ true) ⊎ ((holds_number stubs m ≡ true) × (holds_number placed m ≡ false))
      go true e i deeper = inl refl
      go false e i deeper =
          held_either b (numbers_from p r l stubs (b ++ placed) ns) m ((holds_number ns m ≡ true) ⊎ ((holds_number stubs m ≡ true) × (holds_number placed m ≡ false))) i
          (λ j. inr (behind_is stubs placed (falls (row_of p r l n).lines) m j)) (λ j. rest deeper j)

  -- each once, where no node is among the leaders
  from_once : (placed ns : List ℕ) → Once ns → ((m : ℕ) → holds_number stubs m ≡ true → holds_number ns m ≡ false) → Once (numbers_from p r l stubs placed ns)
  from_once placed _ NoNumber apart = NoNumber
  from_once placed _ (AndOther n ns e o) apart =
      AndOther n (b ++ xs) (not_in_append b xs n (false_unless_true (holds_number b n) (λ h. not_stub (behind_is stubs placed o' n h).0)) (false_unless_true (holds_number xs n) (λ h. not_later h)))
      (once_append b xs (behind_once stubs placed o') (from_once (b ++ placed) ns o (λ m h. (or_neither (n == m) (holds_number ns m) (apart m h)).1)) (λ m h. false_unless_true (holds_number xs m) (λ i. not_twice m h i)))
    where
      o' : Option ℕ
      o' = falls (row_of p r l n).lines

      b : List ℕ
      b = stub_behind stubs placed o'

      xs : List ℕ
      xs = numbers_from p r l stubs (b ++ placed) ns

      not_stub : holds_number stubs n ≡ true → ⊥
      not_stub h = let z : true ≡ false = sym (eq_reflexive n) ∙ (or_neither (n == n) (holds_number ns n) (apart n h)).0 in absurd (cc)

      not_later : holds_number xs n ≡ true → ⊥
      not_later h = ⊎_elim (λ a. let z : true ≡ false = sym a ∙ e in absurd (cc)) (λ a. not_stub a.0) (from_is (b ++ placed) ns n h)

      not_twice : (m : ℕ) → holds_number b m ≡ true → holds_number xs m ≡ true → ⊥
      not_twice m h i =
          ⊎_elim (λ a. let z : true ≡ false = sym a ∙ (or_neither (n == m) (holds_number ns m) (apart m (behind_is stubs placed o' m h).0)).1 in absurd (cc))
          (λ a. let z : true ≡ false = sym h ∙ (or_neither (holds_number b m) (holds_number placed m) (sym (holds_both b placed m) ∙ a.1)).0 in absurd (cc))
          (from_is (b ++ placed) ns m i)

  -- the nodes are listed
  from_has : (placed ns : List ℕ) (m : ℕ) → holds_number ns m ≡ true → holds_number (numbers_from p r l stubs placed ns) m ≡ true
  from_has placed [] m h = absurd (cc)
  from_has placed (n ∷ ns) m h = go (n == m) h (λ i. from_has (b ++ placed) ns m i)
    where
      b : List ℕ
      b = stub_behind stubs placed (falls (row_of p r l n).lines)

      go : (c : Bool) → (c || holds_number ns m) ≡ true → (holds_number ns m ≡ true → holds_number (numbers_from p r l stubs (b ++ placed) ns) m ≡ true) → (c || holds_number (b ++ numbers_from p r l stubs (b ++ placed) ns) m) ≡ true
      go true i deeper = refl
      go false i deeper = holds_both b _ m ∙ or_by_second (holds_number b m) _ (deeper i)

not_own : (a b : Bool) → (a && not b) ≡ true → b ≡ false
not_own a true e = absurd (let z = and_both a false e in cc)
not_own a false e = refl

pub leaders_rise : (flow : Flow) (k n : ℕ) → Rises (k + n) k (leaders_from flow k n)
leaders_rise flow k zero = NoneRise k
leaders_rise flow k (suc n) = go (is_leader flow k) (subst (λ m. Rises m (suc k) (leaders_from flow (suc k) n)) (let z : suc k + n ≡ k + suc n = omega arith in z) (leaders_rise flow (suc k) n))
  where
    go : (b : Bool) → Rises (k + suc n) (suc k) (leaders_from flow (suc k) n) → Rises (k + suc n) k (number_if b k (leaders_from flow (suc k) n))
    go true h = OneRise k k _ (omega arith) (omega arith) h
    go false h = rises_lower (k + suc n) k (suc k) _ (omega arith) h

held_below : (high low m : ℕ) (ns : List ℕ) → Rises high low ns → holds_number ns m ≡ true → m < high
held_below high low m _ (NoneRise _) h = absurd (cc)
held_below high low m _ (OneRise _ n ns a b more) h = go (n == m) refl h (λ i. held_below high (suc n) m ns more i)
  where
    go : (c : Bool) → (n == m) ≡ c → (c || holds_number ns m) ≡ true → (holds_number ns m ≡ true → m < high) → m < high
    go true e i deeper = let z = eq_means n m e in omega (arith, z, b)
    go false e i deeper = deeper i

module _ (p : Program) (f : Function) (l : Place) where
  abbrev r : Routine
  r = routine_of p f

  abbrev size : ℕ
  size = length (graph_of p f).nodes

  abbrev listed : List ℕ
  listed = numbers_from p r l (stubs_of r l) [] (rows_nodes r.split l)

  -- a leader to which the piece goes is not its own
  stub_is : (n : ℕ) → holds_number (stubs_of r l) n ≡ true → (is_own r.split l n ≡ false) × (n < size)
  stub_is n h =
      let t = chosen_is (λ m. holds_number (reached r l) m && not (is_own r.split l m)) r.split.leaders n h in
      (not_own (holds_number (reached r l) n) (is_own r.split l n) t.1, let z = held_below (0 + size) 0 n r.split.leaders (leaders_rise (flow_of (graph_of p f)) 0 size) t.0 in let y : n < size = omega (arith, z) in y)

  node_is : (n : ℕ) → holds_number (rows_nodes r.split l) n ≡ true → (is_own r.split l n ≡ true) × (n < size)
  node_is n h =
      let d = own_is r.split l n (rows_node_is r.split l n h) in
      let e = owners_long (flow_of (graph_of p f)) 0 size in
      let b = d.1 in
      (d.0, omega (arith, b, e))

  apart : (m : ℕ) → holds_number (stubs_of r l) m ≡ true → holds_number (rows_nodes r.split l) m ≡ false
  apart m h = false_unless_true (holds_number (rows_nodes r.split l) m) (λ i. let z : true ≡ false = sym (node_is m i).0 ∙ (stub_is m h).0 in absurd (cc))

  listed_once : Once listed
  listed_once = from_once p r l (stubs_of r l) [] (rows_nodes r.split l) (once_turned (first_of r.split l) _ (once_chosen (has_row r.split) (piece_nodes r.split l) (pieces_hold_once p f l))) apart

  numbers_once : Once (numbers_of p r l)
  numbers_once =
      once_append listed (chosen (λ n. not (holds_number listed n)) (stubs_of r l)) listed_once
      (once_chosen (λ n. not (holds_number listed n)) (stubs_of r l) (once_chosen (λ m. holds_number (reached r l) m && not (is_own r.split l m)) r.split.leaders (rises_once (0 + size) 0 r.split.leaders (leaders_rise (flow_of (graph_of p f)) 0 size))))
      (λ n h. chosen_out (λ n. not (holds_number listed n)) (stubs_of r l) n (ap not h))

  numbers_below : (n : ℕ) → holds_number (numbers_of p r l) n ≡ true → n < size
  numbers_below n h =
      held_either listed (chosen (λ n. not (holds_number listed n)) (stubs_of r l)) n (n < size) h
      (λ i. ⊎_elim (λ a. (node_is n a).1) (λ a. (stub_is n a.0).1) (from_is p r l (stubs_of r l) [] (rows_nodes r.split l) n i))
      (λ i. (stub_is n (chosen_is (λ n. not (holds_number listed n)) (stubs_of r l) n i).0).1)

  numbers_nodes : (n : ℕ) → holds_number (rows_nodes r.split l) n ≡ true → holds_number (numbers_of p r l) n ≡ true
  numbers_nodes n h = holds_both listed _ n ∙ ap (λ b. b || holds_number (chosen (λ n. not (holds_number listed n)) (stubs_of r l)) n) (from_has p r l (stubs_of r l) [] (rows_nodes r.split l) n h)

  numbers_leaders : (n : ℕ) → holds_number (stubs_of r l) n ≡ true → holds_number (numbers_of p r l) n ≡ true
  numbers_leaders n h = holds_both listed _ n ∙ go (holds_number listed n) refl
    where
      go : (b : Bool) → holds_number listed n ≡ b → (b || holds_number (chosen (λ n. not (holds_number listed n)) (stubs_of r l)) n) ≡ true
      go true e = refl
      go false e = chosen_has (λ n. not (holds_number listed n)) (stubs_of r l) n h (ap not e)

pub rows_stand_once : AllRowsStandOnce
rows_stand_once p f l = record { once = numbers_once p f l; nodes = numbers_nodes p f l; leaders = numbers_leaders p f l }

-- ---- labels

-- a statement without a label has none
bare_has : (l : Text) (s : Stmt) → is_bare s ≡ true → has_label l s ≡ false
bare_has l (Label m s) e = absurd (cc)
bare_has l (Block ss) e = refl
bare_has l Empty e = refl
bare_has l (Declare x t v) e = refl
bare_has l (Assign x op v) e = refl
bare_has l (Call x g es) e = refl
bare_has l (Detach x g es) e = refl
bare_has l (Spawn g es) e = refl
bare_has l (If t a b) e = refl
bare_has l (While t s) e = refl
bare_has l (DoWhile s t) e = refl
bare_has l (For a t b s) e = refl
bare_has l (Goto m) e = refl
bare_has l Break e = refl
bare_has l Continue e = refl
bare_has l (Return v) e = refl

none_bare : (l : Text) (ss : List Stmt) → AreBare ss → NoLabel l ss
none_bare l [] h = NoneLeft
none_bare l (s ∷ ss) h = NotHere s ss (bare_has l s h.0) (none_bare l ss h.1)

none_join : (l : Text) (xs ys : List Stmt) → NoLabel l xs → NoLabel l ys → NoLabel l (xs ++ ys)
none_join l _ ys NoneLeft h = h
none_join l _ ys (NotHere s ss e g) h = NotHere s (ss ++ ys) e (none_join l ss ys g h)

none_map : {X : Type 0} (l : Text) (F : X → Stmt) → ((x : X) → has_label l (F x) ≡ false) → (xs : List X) → NoLabel l (map F xs)
none_map l F h [] = NoneLeft
none_map l F h (x ∷ xs) = NotHere (F x) (map F xs) (h x) (none_map l F h xs)

label_is : (n : ℕ) → node_label n ≡ marked (codes "at" ++ decimal n) (codes "")
unfolding node_label
label_is n = refl

behind_label : (x y : Text) → x ++ codes "__" ≡ y ++ codes "__" → x ≡ y
behind_label x y e =
    let back : codes "__" ++ reverse x ≡ codes "__" ++ reverse y = sym (reverse-append x (codes "__")) ∙ (ap reverse e ∙ reverse-append y (codes "__")) in
    let same : reverse x ≡ reverse y = cc in
    sym (reverse-reverse x) ∙ (ap reverse same ∙ reverse-reverse y)

-- labels of different numbers
pub labels_apart : (m n : ℕ) → m < 2 ^ 63 → n < 2 ^ 63 → (m ≡ n → ⊥) → bytes_eq (node_label m) (node_label n) ≡ false
labels_apart m n hm hn d =
    texts_differ (node_label m) (node_label n)
    (λ (e : node_label m ≡ node_label n).
    let whole : codes "at" ++ decimal m ≡ codes "at" ++ decimal n = behind_label (codes "at" ++ decimal m) (codes "at" ++ decimal n) (sym (label_is m) ∙ (e ∙ label_is n)) in
    let digits : decimal m ≡ decimal n = cc in d (decimal_is m n hm hn digits))

-- the numbers of rows
abbrev pub numbers : List PutRow → List ℕ
numbers rs = map (λ (r : PutRow). r.number) rs

row_numbers : (rs : List Row) → numbers (put_rows rs) ≡ map (λ (r : Row). r.number) rs
row_numbers [] = refl
row_numbers (r ∷ rs) = ap (λ ns. r.number ∷ ns) (row_numbers rs)

same_numbers : (p : Program) (r : Routine) (l : Place) (ns : List ℕ) → map (λ (x : Row). x.number) (map (row_of p r l) ns) ≡ ns
same_numbers p r l [] = refl
same_numbers p r l (n ∷ ns) = ap (λ ms. n ∷ ms) (same_numbers p r l ns)

numbers_append : (xs ys : List PutRow) → numbers (xs ++ ys) ≡ numbers xs ++ numbers ys
numbers_append [] ys = refl
numbers_append (x ∷ xs) ys = ap (λ ns. x.number ∷ ns) (numbers_append xs ys)

once_middle : (xs : List ℕ) (n : ℕ) (ys : List ℕ) → Once (xs ++ n ∷ ys) → holds_number xs n ≡ false
once_middle [] n ys o = refl
once_middle (x ∷ xs) n ys (AndOther _ _ e o) = or_both_fail (x == n) (holds_number xs n) (eq_fails x n (λ (i : x ≡ n). let z : true ≡ false = sym (holds_both xs (n ∷ ys) x ∙ or_by_second (holds_number xs x) _ (ap (λ b. b || holds_number ys x) (ap (λ m. m == x) (sym i) ∙ eq_reflexive x))) ∙ e in absurd (cc))) (once_middle xs n ys o)

-- the lines of rows have no labels
abbrev BarePuts : List PutRow → Type 0
BarePuts [] = Unit {0}
BarePuts (r ∷ rs) = AreBare (map put_statement r.puts) × BarePuts rs

bare_puts : (rs : List Row) → AllRows rs → BarePuts (put_rows rs)
bare_puts [] h = tt
bare_puts (r ∷ rs) h = (puts_done (first_number rs) r.lines h.0, bare_puts rs h.1)

bare_front : (front back : List PutRow) → BarePuts (front ++ back) → BarePuts front
bare_front [] back h = tt
bare_front (r ∷ front) back h = (h.0, bare_front front back h.1)

none_labelled : (l m : Text) (b : Bool) (ss : List Stmt) → bytes_eq m l ≡ false → AreBare ss → NoLabel l (label_if b m ss)
none_labelled l m true [] e h = NoneLeft
none_labelled l m true (s ∷ ss) e h = NotHere (Label m s) ss (or_both_fail (bytes_eq m l) (has_label l s) e (bare_has l s h.0)) (none_bare l ss h.1)
none_labelled l m false ss e h = none_bare l ss h

none_front : (all front : List PutRow) (n : ℕ) → n < 2 ^ 63 → BarePuts front → holds_number (numbers front) n ≡ false → ((m : ℕ) → holds_number (numbers front) m ≡ true → m < 2 ^ 63) → NoLabel (node_label n) (rows_statements all front)
none_front all [] n small h e below = NoneLeft
none_front all (r ∷ front) n small h e below =
    let d = or_neither (r.number == n) (holds_number (numbers front) n) e in
    none_join (node_label n) (row_statements all r) (rows_statements all front)
    (none_labelled (node_label n) (node_label r.number) (is_wanted r.number all) (map put_statement r.puts)
    (labels_apart r.number n (below r.number (ap (λ b. b || holds_number (numbers front) r.number) (eq_reflexive r.number))) small (λ (i : r.number ≡ n). let z : true ≡ false = sym (eq_reflexive n) ∙ (ap (λ m. m == n) (sym i) ∙ d.0) in absurd (cc))) h.0)
    (none_front all front n small h.1 d.1 (λ m i. below m (or_by_second (r.number == m) (holds_number (numbers front) m) i)))

append_assoc : (xs ys zs : List Stmt) → (xs ++ ys) ++ zs ≡ xs ++ (ys ++ zs)
append_assoc [] ys zs = refl
append_assoc (x ∷ xs) ys zs = ap (λ us. x ∷ us) (append_assoc xs ys zs)

pub rows_apart : (all front back : List PutRow) → rows_statements all (front ++ back) ≡ rows_statements all front ++ rows_statements all back
rows_apart all [] back = refl
rows_apart all (r ∷ front) back = ap (λ ss. row_statements all r ++ ss) (rows_apart all front back) ∙ sym (append_assoc (row_statements all r) (rows_statements all front) (rows_statements all back))

-- the label of a row that is wanted
wanted_label : (b : Bool) (l : Text) (x : Put) (xs : List Put) (rest : Stmts) → b ≡ true → label_in l (before (label_if b l (map put_statement (x ∷ xs))) rest) ≡ Some 0
wanted_label true l x xs rest e = label_first l (Label l (put_statement x)) (before (map put_statement xs) rest) (ap (λ b. b || has_label l (put_statement x)) (text_same l))
wanted_label false l x xs rest e = absurd (cc)

module _ (p : Program) (f : Function) (l : Place) (few : length (graph_of p f).nodes < 2 ^ 63) (front back : List PutRow) (n : ℕ) (x : Put) (xs : List Put) where
  abbrev row : PutRow
  row = record { number = n; puts = x ∷ xs }

  abbrev all : List PutRow
  all = put_in p (routine_of p f) l

  abbrev before_it : List Stmt
  before_it = rows_statements all front

  -- what stands in the piece before the row
  numbers_are : all ≡ front ++ row ∷ back → numbers_of p (routine_of p f) l ≡ numbers front ++ n ∷ numbers back
  numbers_are e = sym (row_numbers (rows_of p (routine_of p f) l) ∙ same_numbers p (routine_of p f) l (numbers_of p (routine_of p f) l)) ∙ (ap numbers e ∙ numbers_append front (row ∷ back))

  held_front : all ≡ front ++ row ∷ back → (m : ℕ) → holds_number (numbers front ++ n ∷ numbers back) m ≡ true → m < 2 ^ 63
  held_front e m h = let b = numbers_below p f l m (ap (λ ns. holds_number ns m) (numbers_are e) ∙ h) in omega (arith, b, few)

  front_none : all ≡ front ++ row ∷ back → NoLabel (node_label n) before_it
  front_none e =
      none_front all front n (held_front e n (holds_both (numbers front) (n ∷ numbers back) n ∙ or_by_second (holds_number (numbers front) n) _ (ap (λ b. b || holds_number (numbers back) n) (eq_reflexive n))))
      (bare_front front (row ∷ back) (subst BarePuts e (bare_puts (rows_of p (routine_of p f) l) (rows_map (row_of p (routine_of p f) l) (λ m. lines_done (is_own (routine_of p f).split l m) p (routine_of p f) m) (numbers_of p (routine_of p f) l)))))
      (once_middle (numbers front) n (numbers back) (subst Once (numbers_are e) (numbers_once p f l)))
      (λ m h. held_front e m (holds_both (numbers front) (n ∷ numbers back) m ∙ ap (λ b. b || holds_number (n ∷ numbers back) m) h))

  pub label_leads : all ≡ front ++ row ∷ back → is_wanted n all ≡ true → label_in (node_label n) (piece_body p (routine_of p f) l) ≡ Some (opening p (routine_of p f) l + length before_it)
  label_leads e wanted =
      let r = routine_of p f in
      let key = node_label n in
      let after = before (rows_statements all back) NoStmt in
      let its = row_statements all row in
      let statements : piece_statements p r l ≡ before_it ++ (its ++ rows_statements all back) = ap (rows_statements all) e ∙ rows_apart all front (row ∷ back) in
      let whole : before (piece_statements p r l) NoStmt ≡ before before_it (before its after) = ap (λ ss. before ss NoStmt) statements ∙ (before_append before_it (its ++ rows_statements all back) NoStmt ∙ ap (before before_it) (before_append its (rows_statements all back) NoStmt)) in
      let ls = map (loads_one frame_name) (loads_of p r l) in
      let ds = map declares_one (declares_of p r l) in
      let bs = boxing_of r l in
      let lines = before (piece_statements p r l) NoStmt in
      let freed = AndStmt (frees_frame pointer_name) lines in
      let tag = piece_name r.function.called l in
      let first = Declare frame_name (TyPointer (TyStruct tag)) (Some (ENamed pointer_name)) in
      let at_row : label_in key lines ≡ Some (length before_it + 0) = ap (label_in key) whole ∙ label_behind key before_it (before its after) 0 (front_none e) (wanted_label (is_wanted n all) key x xs after wanted) in
      let at_freed = label_behind key (frees_frame pointer_name ∷ []) lines _ (NotHere _ [] refl NoneLeft) at_row in
      let at_boxes = label_behind key bs freed _ (none_bare key bs (boxes_done r l)) at_freed in
      let at_declares = label_behind key ds (before bs freed) _ (none_map key declares_one (λ d. refl) (declares_of p r l)) at_boxes in
      let at_loads = label_behind key ls (before ds (before bs freed)) _ (none_map key (loads_one frame_name) (λ d. refl) (loads_of p r l)) at_declares in
      let at_first = label_behind key (first ∷ []) (before ls (before ds (before bs freed))) _ (NotHere _ [] refl NoneLeft) at_loads in
      let el = length_of_map (loads_one frame_name) (loads_of p r l) in
      let ed = length_of_map declares_one (declares_of p r l) in
      at_first ∙ ap Some (let z : 1 + (length ls + (length ds + (length bs + (1 + (length before_it + 0))))) ≡ opening p r l + length before_it = omega (arith, el, ed) in z)

pub labels_lead : LabelsLead
labels_lead p f l few front back n x xs e wanted = label_leads p f l few front back n x xs e wanted
