-- The rows of a piece among its statements: where one stands, how control falls from one to the next, and where gotos lead.
use Rattle.std.proofs.Common.{◌≡◌, ℕ, suc, ◌+◌, ◌<◌, ◌≤◌, ◌^◌, Bool, true, false, ◌||◌, cond, List, [], ◌∷◌, ◌++◌, map, length, Option, Some, None, refl, sym, ◌∙◌, ap, subst, arith}
use Rattle.cpc_base.specs.Bytes.{Text}
use Rattle.cpc_base.proofs.Truth.{eq_means, or_by_second}
use Rattle.cpc_base.proofs.Lists.{append_grouped, length_of_append}
use Rattle.cpc_store.specs.Store.{Store}
use Rattle.cpc_tree.specs.Points.{Point}
use Rattle.cpc_tree.specs.Syntax.{Stmt, Goto, Label, Stmts, NoStmt, AndStmt, Function, Program}
use Rattle.cpc_tree.specs.Typing.{function_named}
use Rattle.cpc_meaning.specs.Eval.{Slot}
use Rattle.cpc_meaning.specs.Plain.{Frame}
use Rattle.cpc_forms.specs.Flow.{Place}
use Rattle.cpc_forms.specs.Graph.{graph_of}
use Rattle.cpc_convert_flat_laws.specs.Flat.{before, point_at, bare, is_line, label_in, Stands, LineAt}
use Rattle.cpc_convert_flat_laws.proofs.Walks.{stay}
use Rattle.cpc_convert_flat_laws.specs.Walks.{World, Walk, at_line, running, frame_at}
use Rattle.cpc_convert_flat_laws.proofs.Jumps.{goto_step}
use Rattle.cpc_convert_flat_laws.proofs.Rows.{before_append}
use Rattle.cpc_convert_routines.specs.Names.{piece_name, node_label}
use Rattle.cpc_convert_routines.specs.Routines.{Routine, routine_of}
use Rattle.cpc_chains_event.specs.Lines.{Goes}
use Rattle.cpc_chains_event.specs.Rows.{Put, Jump, is_next, put_line, PutRow, any_leads, is_wanted, put_statement, label_if, row_statements, rows_statements}
use Rattle.cpc_chains_event.specs.Pieces.{piece_body, piece_function}
use Rattle.cpc_chains_event.specs.FlatLaws.{opening, piece_scope, piece_count}
use Rattle.cpc_chains_event.specs.LabelLaws.{put_in}
use Rattle.cpc_chains_event.proofs.Flat.{statements_stand}
use Rattle.cpc_chains_event.proofs.Labels.{labels_lead, rows_apart}
use Rattle.cpc_chains_laws.specs.Piece.Rows.{next_number, put_row, RowAt, row_index, row_rest, row_point}
use Rattle.cpc_chains_laws.proofs.Piece.Rows.{rows_stand, only_row}

-- behind the same rows stand the same
same_behind : {X : Type 0} (xs : List X) (ys zs : List X) → xs ++ ys ≡ xs ++ zs → ys ≡ zs
same_behind [] ys zs e = e
same_behind (x ∷ xs) ys zs e = same_behind xs ys zs (cc)

pub wanted_in : (n : ℕ) (front back : List PutRow) (r : PutRow) → any_leads n r.puts ≡ true → is_wanted n (front ++ r ∷ back) ≡ true
wanted_in n [] back r e = ap (λ b. b || is_wanted n back) e
wanted_in n (x ∷ front) back r e = or_by_second (any_leads n x.puts) (is_wanted n (front ++ r ∷ back)) (wanted_in n front back r e)

module _ (p : Program) (f : Function) (l : Place) where
  abbrev r : Routine
  r = routine_of p f

  abbrev all : List PutRow
  all = put_in p r l

  abbrev name : Text
  name = piece_name f.called l

  abbrev code : Function
  code = piece_function p r l

  abbrev body : Stmts
  body = piece_body p r l

  -- so many statements stand behind the opening of the piece, and these are left
  abbrev pub Before : ℕ → Stmts → Type 0
  Before k left = Stands code body k (piece_scope p r l) (piece_count p r l) left

  -- before a row
  pub row_stands : (n : ℕ) (at : RowAt p r l n) → Before (row_index p r l n at) (row_rest p r l n at)
  row_stands n at =
      statements_stand p r l (rows_statements all at.front) (rows_statements all (put_row p r l n at.back ∷ at.back))
      (ap (rows_statements all) at.is_split ∙ rows_apart all at.front (put_row p r l n at.back ∷ at.back))

  -- two rows of one number stand at one point
  pub same_rest : (n : ℕ) (a b : RowAt p r l n) → (row_index p r l n a ≡ row_index p r l n b) × (row_rest p r l n a ≡ row_rest p r l n b)
  same_rest n a b =
      let e = (rows_stand p f l).one n a b in
      (ap (λ rs. opening p r l + length (rows_statements all rs)) e.0, ap (λ bs. before (rows_statements all (put_row p r l n bs ∷ bs)) NoStmt) e.1)

  -- what is left behind a row begins with the next one
  pub next_row : (n : ℕ) (at : RowAt p r l n) (m : ℕ) (b : RowAt p r l m) → next_number at.back ≡ Some m
      → (row_index p r l m b ≡ row_index p r l n at + length (row_statements all (put_row p r l n at.back))) × (row_rest p r l m b ≡ before (rows_statements all at.back) NoStmt)
  next_row n at m b e = go at.back refl e
    where
      this : PutRow
      this = put_row p r l n at.back

      go : (back : List PutRow) → at.back ≡ back → next_number back ≡ Some m
          → (row_index p r l m b ≡ row_index p r l n at + length (row_statements all this)) × (row_rest p r l m b ≡ before (rows_statements all at.back) NoStmt)
      go [] i h = absurd (cc)
      go (x ∷ back) i h =
          let is_m : x.number ≡ m = cc in
          let split : all ≡ (at.front ++ this ∷ []) ++ x ∷ back = at.is_split ∙ (ap (λ bs. at.front ++ this ∷ bs) i ∙ sym (append_grouped at.front (this ∷ []) (x ∷ back))) in
          let one = (only_row p f l m b (at.front ++ this ∷ []) back x split is_m).0 in
          let behind : at.back ≡ put_row p r l m b.back ∷ b.back = i ∙ same_behind (at.front ++ this ∷ []) (x ∷ back) (put_row p r l m b.back ∷ b.back) (sym split ∙ (b.is_split ∙ ap (λ fs. fs ++ put_row p r l m b.back ∷ b.back) one)) in
          let counted : length (rows_statements all (at.front ++ this ∷ [])) ≡ length (rows_statements all at.front) + length (row_statements all this) =
          ap length (rows_apart all at.front (this ∷ [])) ∙ (length_of_append (rows_statements all at.front) (row_statements all this ++ []) ∙ ap (λ k. length (rows_statements all at.front) + k) (length_of_append (row_statements all this) [] ∙ (let z : length (row_statements all this) + 0 ≡ length (row_statements all this) = omega arith in z))) in
          let counted_b : length (rows_statements all b.front) ≡ length (rows_statements all at.front) + length (row_statements all this) = ap (λ fs. length (rows_statements all fs)) one ∙ counted in
          ((let z : opening p r l + length (rows_statements all b.front) ≡ (opening p r l + length (rows_statements all at.front)) + length (row_statements all this) = omega (arith, counted_b) in z), ap (λ bs. before (rows_statements all bs) NoStmt) (sym behind))

  -- the row of a number has a line
  abbrev pub IsFilled : (m : ℕ) → RowAt p r l m → Type 0
  IsFilled m b = (x : Put) × (xs : List Put) × ((put_row p r l m b.back).puts ≡ x ∷ xs)

  -- its label leads to it
  pub row_label : (few : length (graph_of p f).nodes < 2 ^ 63) (m : ℕ) (b : RowAt p r l m) → IsFilled m b → is_wanted m all ≡ true → label_in (node_label m) body ≡ Some (row_index p r l m b)
  row_label few m b filled wanted = labels_lead p f l few b.front b.back m filled.0 filled.1 (b.is_split ∙ ap (λ xs. b.front ++ record { number = m; puts = xs } ∷ b.back) filled.2) wanted

  -- the first line of a row, which may have its label
  pub record FirstLine (n : ℕ) (at : RowAt p r l n) (s : Stmt) (ss : List Stmt) (rest : Stmts) : Type 0 where
    pub line : LineAt code body (row_index p r l n at) (piece_scope p r l) (piece_count p r l) s rest
    pub is_rest : row_rest p r l n at ≡ AndStmt line.statement rest
    pub counted : length (row_statements all (put_row p r l n at.back)) ≡ suc (length ss)

  pub first_line : (n : ℕ) (at : RowAt p r l n) (s : Stmt) (ss : List Stmt) (rest : Stmts) → map put_statement (put_row p r l n at.back).puts ≡ s ∷ ss → before ss (before (rows_statements all at.back) NoStmt) ≡ rest
      → bare s ≡ s → is_line s ≡ true → FirstLine n at s ss rest
  first_line n at s ss rest e same is_bare lined = go (is_wanted n all) refl
    where
      this : PutRow
      this = put_row p r l n at.back

      with_line : (x : Stmt) → row_statements all this ≡ x ∷ ss → bare x ≡ s → is_line x ≡ true → FirstLine n at s ss rest
      with_line x i bared is =
          let whole : row_rest p r l n at ≡ AndStmt x rest =
          before_append (row_statements all this) (rows_statements all at.back) NoStmt ∙ (ap (λ xs. before xs (before (rows_statements all at.back) NoStmt)) i ∙ ap (AndStmt x) same) in
          record { line = record { statement = x; stands = subst (Before (row_index p r l n at)) whole (row_stands n at); is_bare = bared; is_line = is }; is_rest = whole; counted = ap length i }

      go : (b : Bool) → is_wanted n all ≡ b → FirstLine n at s ss rest
      go true i = with_line (Label (node_label n) s) (ap (λ b. label_if b (node_label n) (map put_statement this.puts)) i ∙ ap (label_if true (node_label n)) e) is_bare lined
      go false i = with_line s (ap (λ b. label_if b (node_label n) (map put_statement this.puts)) i ∙ ap (label_if false (node_label n)) e) is_bare lined

  pub next_is : (m : ℕ) (o : Option ℕ) → is_next m o ≡ true → o ≡ Some m
  next_is m None e = absurd (cc)
  next_is m (Some k) e = ap Some (eq_means k m e)

  module _ (q : Program) (is_code : function_named q name ≡ Some code) (few : length (graph_of p f).nodes < 2 ^ 63) where
    -- some steps from a point of the piece to the row of a number
    pub record ToRow (m : ℕ) (b : RowAt p r l m) (most : ℕ) (from : Point) : Type 0 where
      pub steps : ℕ
      pub within : steps ≤ most
      pub walk : (w : World) (below : List (Frame Point)) (slots : List Slot) (s : Store) → Walk q w.trace steps (running w s (frame_at name from slots ∷ below) None) (running w s (frame_at name (row_point p r l m b) slots ∷ below) None)

    -- a goto leads there
    pub jumps_row : (m : ℕ) (b : RowAt p r l m) → IsFilled m b → is_wanted m all ≡ true → (k : ℕ) (rest : Stmts) (line : LineAt code body k (piece_scope p r l) (piece_count p r l) (Goto (node_label m)) rest) → ToRow m b 1 (point_at k (AndStmt line.statement rest))
    jumps_row m b filled wanted k rest line = record {
      steps = 1;
      within = omega arith;
      walk = λ w below slots s. subst (λ ss. Walk q w.trace 1 (at_line w name below k (AndStmt line.statement rest) slots s) (at_line w name below (row_index p r l m b) ss slots s)) (row_stands m b).is_left
          (goto_step q w name code body below is_code k (piece_scope p r l) (piece_count p r l) rest slots s (node_label m) line (row_index p r l m b) (row_label few m b filled wanted));
    }

    -- where the row stands next, it is there
    pub falls_row : (m : ℕ) (b : RowAt p r l m) (k : ℕ) (left : Stmts) → row_index p r l m b ≡ k → row_rest p r l m b ≡ left → ToRow m b 0 (point_at k left)
    falls_row m b k left e i = record {
      steps = 0;
      within = omega arith;
      walk = λ w below slots s. subst (λ x. Walk q w.trace 0 (at_line w name below k left slots s) (running w s (frame_at name x slots ∷ below) None)) (sym (ap (λ j. point_at j (row_rest p r l m b)) e ∙ ap (point_at k) i)) (stay _);
    }

    -- behind the other lines of a row, control falls to the next one, or goes to another
    pub goes_row : (n : ℕ) (at : RowAt p r l n) (m : ℕ) (b : RowAt p r l m) → IsFilled m b → (is_next m (next_number at.back) ≡ false → is_wanted m all ≡ true)
        → (k : ℕ) → Before k (before (map put_statement (put_line (next_number at.back) (Goes m))) (before (rows_statements all at.back) NoStmt))
        → k + length (map put_statement (put_line (next_number at.back) (Goes m))) ≡ row_index p r l n at + length (row_statements all (put_row p r l n at.back))
        → ToRow m b 1 (point_at k (before (map put_statement (put_line (next_number at.back) (Goes m))) (before (rows_statements all at.back) NoStmt)))
    goes_row n at m b filled wanted k st ends = go (is_next m (next_number at.back)) refl wanted st ends
      where
        go : (d : Bool) → is_next m (next_number at.back) ≡ d → (d ≡ false → is_wanted m all ≡ true) → Before k (before (map put_statement (cond d [] (Jump m ∷ []))) (before (rows_statements all at.back) NoStmt))
            → k + length (map put_statement (cond d [] (Jump m ∷ []))) ≡ row_index p r l n at + length (row_statements all (put_row p r l n at.back))
            → ToRow m b 1 (point_at k (before (map put_statement (cond d [] (Jump m ∷ []))) (before (rows_statements all at.back) NoStmt)))
        go true e w st i =
            let there = next_row n at m b (next_is m (next_number at.back) e) in
            let x = there.0 in
            let t = falls_row m b k (before (rows_statements all at.back) NoStmt) (let z : row_index p r l m b ≡ k = omega (arith, x, i) in z) there.1 in
            record { steps = t.steps; within = (let h = t.within in omega (arith, h)); walk = t.walk }
        go false e w st i = jumps_row m b filled (w refl) k (before (rows_statements all at.back) NoStmt) (record { statement = Goto (node_label m); stands = st; is_bare = refl; is_line = refl })
