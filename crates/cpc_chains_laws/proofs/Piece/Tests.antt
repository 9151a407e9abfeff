-- Tests: where the test holds a goto leads on, and else control goes on behind it.
use Rattle.std.proofs.Common.{◌≡◌, ℕ, suc, ◌+◌, ◌<◌, ◌≤◌, Bool, true, false, ◌||◌, List, ◌∷◌, length, Option, Some, None, option_map, refl, sym, ◌∙◌, ap, subst, arith}
use Rattle.std.specs.List.{All}
use Rattle.cpc_base.specs.Bytes.{Text}
use Rattle.cpc_base.proofs.Truth.{eq_reflexive}
use Rattle.cpc_tree.specs.Points.{Point, Here, Nth, Simple, Test}
use Rattle.cpc_tree.specs.Registers.{variables}
use Rattle.cpc_tree.specs.Syntax.{Ty, Expr, Stmt, Stmts, If, Goto, Absent, Function, Program}
use Rattle.cpc_store.specs.Store.{Value, Blocks, Store}
use Rattle.cpc_meaning.specs.Act.{AtStatement, Act, GoesOn, act, test_act}
use Rattle.cpc_meaning.specs.Agenda.{Agenda}
use Rattle.cpc_meaning.specs.Answer.{Answer, Gives, Faults, NoAnswer, ◌>>=◌}
use Rattle.cpc_meaning.specs.Eval.{Slot, Context, value, holds}
use Rattle.cpc_meaning.specs.Events.{Callback}
use Rattle.cpc_meaning.specs.Plain.{Frame as CallFrame, context}
use Rattle.cpc_meaning.specs.Start.{before_underscores}
use Rattle.cpc_meaning.specs.Threads.{shown_in}
use Rattle.cpc_convert_image_laws.specs.Held.{IsHeldSlot, IsHeldStore, BoxesLive, beside}
use Rattle.cpc_convert_image_laws.specs.Images.{image}
use Rattle.cpc_convert_image_laws.specs.Relations.{Meets, BothGive, BothFault, Stuck, SameAct, BothGo, BothEnter, BothLeave, BothAsk}
use Rattle.cpc_convert_image_laws.specs.Stacks.{frame_of}
use Rattle.cpc_convert_image_laws.proofs.Acts.{test_alike}
use Rattle.cpc_convert_image_laws.proofs.Live.{read_live}
use Rattle.cpc_forms.specs.Flow.{Place, is_leader, owner_by}
use Rattle.cpc_forms.specs.Graph.{way}
use Rattle.cpc_forms.specs.Split.{Position, InGraph, split_form}
use Rattle.cpc_graph_laws.specs.Laws.{flow_in}
use Rattle.cpc_convert_flat_laws.specs.Flat.{point_at, dropped, arm}
use Rattle.cpc_convert_flat_laws.specs.Locals.{at as Here_at}
use Rattle.cpc_convert_flat_laws.specs.Walks.{Walk, running, frame_at}
use Rattle.cpc_convert_flat_laws.proofs.AtLine.{line_scope, test_holds, test_fails, arm_found, arm_goes}
use Rattle.cpc_convert_flat_laws.proofs.Steps.{step_on}
use Rattle.cpc_convert_flat_laws.proofs.Walks.{stay, walk_one}
use Rattle.cpc_chains_event.specs.FlatLaws.{piece_count}
use Rattle.cpc_chains_event.specs.LabelLaws.{put_in}
use Rattle.cpc_chains_event.specs.Lines.{Tests, goes, test_lines, node_lines}
use Rattle.cpc_convert_routines.specs.Named.{IsOwner}
use Rattle.cpc_convert_routines.specs.Names.{piece_name, node_label}
use Rattle.cpc_convert_routines.specs.Routines.{Routine, routine_of, readings_of}
use Rattle.cpc_convert_routines.specs.Nodes.{has_row}
use Rattle.cpc_chains_event.specs.Rows.{Put, JumpIf, put_lines, any_leads, is_wanted}
use Rattle.cpc_lifted_laws.specs.Accepted.Known.{Stays}
use Rattle.cpc_lifted_laws.specs.Accepted.Points.{UsedName}
use Rattle.cpc_lifted_laws.specs.Related.Bounds.{Bounds}
use Rattle.cpc_chains_laws.proofs.Related.Inside.{Onward, Sticks, Breaks, Moves}
use Rattle.cpc_chains_laws.proofs.Related.Relation.{Shared, world_of}
use Rattle.cpc_lifted_laws.specs.Native.Instance.{StaysAs}
use Rattle.cpc_lifted_laws.specs.Piece.Known.{CpsKnown}
use Rattle.cpc_chains_laws.specs.Piece.Known.{ProgramKnown}
use Rattle.cpc_chains_laws.specs.Piece.Rows.{next_number, put_row, RowAt, row_index}
use Rattle.cpc_chains_laws.specs.Piece.Stood.{NodeAt, LocalsStand}
use Rattle.cpc_chains_laws.proofs.Piece.Acting.{found_known, kept_here, source_act, lines_are}
use Rattle.cpc_chains_laws.proofs.Piece.Environment.{InLocal, Used, names_mean, changed_stand}
use Rattle.cpc_chains_laws.proofs.Piece.Filled.{row_filled}
use Rattle.cpc_chains_laws.proofs.Piece.Frames.{same_registers, Target, code, body, scope, is_code}
use Rattle.cpc_chains_laws.proofs.Piece.Onwards.{z, goes_onward}
use Rattle.cpc_chains_laws.proofs.Piece.Places.{FirstLine, wanted_in, row_stands, row_label, ToRow}
use Rattle.cpc_chains_laws.proofs.Piece.Rowed.{row_puts, DoesHere, others, rest, first, first_step, first_fault, behind}
use Rattle.cpc_chains_laws.proofs.Piece.Uses.{names_kept, use_kept, IsKept}
use Rattle.cpc_chains_laws.proofs.Piece.Ways.{way_next, onwards_way, row_for, goes_is}

-- a test goes on, or gives nothing
tests_only : (c : Context) (e : Expr) (a : Act) → test_act c (Some e) ≡ Gives a → (h : Bool) × (t : Store) × (changed : List Slot) × (a ≡ GoesOn h t changed)
tests_only c e = go (value c e)
  where
    last : (u : Answer Bool) (a : Act) → (u >>= λ h. Gives (GoesOn h c.store c.slots)) ≡ Gives a → (h : Bool) × (t : Store) × (changed : List Slot) × (a ≡ GoesOn h t changed)
    last (Gives h) a i = (h, c.store, c.slots, (cc))
    last (Faults fault) a i = absurd (cc)
    last NoAnswer a i = absurd (cc)

    go : (u : Answer Value) (a : Act) → (u >>= λ v. holds v >>= λ h. Gives (GoesOn h c.store c.slots)) ≡ Gives a → (h : Bool) × (t : Store) × (changed : List Slot) × (a ≡ GoesOn h t changed)
    go (Gives v) a i = last (holds v) a i
    go (Faults fault) a i = absurd (cc)
    go NoAnswer a i = absurd (cc)

module _ (p : Program) (facts : ProgramKnown p) (fine : CallFrame Position → Option Value → Type 0) (given : Text → List Value → Type 0) (bounds : Bounds) (f : Function) (known : CpsKnown p f) (enough : 5 + length (variables f) ≤ bounds.onward) (begins : 0 < bounds.leads) (l : Place) (owner : IsOwner (routine_of p f) l)
    (shown : before_underscores (piece_name f.called l) ≡ shown_in p f.called) (lower pointer result frame : Value)
    (n : ℕ) (at : NodeAt p f l n) (has : has_row (routine_of p f).split n ≡ true) (row : RowAt p (routine_of p f) l n)
    (w : Shared) (bs : Blocks) (c : Agenda Callback) (slots slots' : List Slot) (stands : LocalsStand p (routine_of p f) l slots slots' lower) (o : Option Value)
    (store : IsHeldStore (Stays p) w.store) (held : All (IsHeldSlot (Stays p)) slots) (live : BoxesLive w.store slots)
    (e : Expr) (stood : at.node.stood ≡ AtStatement (Test (Some e))) (m : ℕ) (is_yes : at.node.yes ≡ Some m) where
  abbrev r : Routine
  r = routine_of p f

  abbrev q : Program
  q = Target p f known l owner

  abbrev test : Expr
  test = image (readings_of r at.node.scope) e

  abbrev jump : Stmt
  jump = Goto (node_label m)

  abbrev y : Put
  y = JumpIf test m

  abbrev k : ℕ
  k = row_index p r l n row

  abbrev following : Option ℕ
  following = next_number row.back

  lines : node_lines p r at.node ≡ Tests test m ∷ goes at.node.no
  lines = lines_are p facts f known l owner n at slots slots' lower stands at.node.manner (AtStatement (Test (Some e))) refl stood ∙ ap (λ i. test_lines (readings_of r at.node.scope) (Some e) i at.node.no) is_yes

  puts : (put_row p r l n row.back).puts ≡ y ∷ put_lines following (goes (way at.node false))
  puts = row_puts p fine given bounds f known enough begins l owner shown lower pointer result frame n at has row (Tests test m ∷ goes at.node.no) lines

  abbrev after : Stmts
  after = rest p fine given bounds f known enough begins l owner shown lower pointer result frame n at has row y (goes at.node.no)

  abbrev behind_it : List Stmt
  behind_it = others p fine given bounds f known enough begins l owner shown lower pointer result frame n at has row y (goes at.node.no)

  line : FirstLine p f l n row (If test jump Absent) behind_it after
  line = first p fine given bounds f known enough begins l owner shown lower pointer result frame n at has row y (goes at.node.no) puts refl refl

  there : RowAt p r l m
  there = row_for p f l n at has m (onwards_way p f at.node true m is_yes) (way_next p f l n at true m is_yes)

  -- the goto behind the test
  abbrev at_jump : Point
  at_jump = Here (Nth k ∷ arm line.line.statement)

  jumps : ToRow p f l q (is_code p f known l owner) known.few_nodes m there 1 at_jump
  jumps =
      let next = way_next p f l n at true m is_yes in
      let wanted : is_wanted m (put_in p r l) ≡ true = ap (is_wanted m) row.is_split ∙ wanted_in m row.front row.back (put_row p r l n row.back) (ap (any_leads m) puts ∙ ap (λ d. d || any_leads m (put_lines following (goes at.node.no))) (eq_reflexive m)) in
      let j = row_index p r l m there in
      let label = row_label p f l known.few_nodes m there (row_filled p f l m next.node next.is_node there) wanted in
      let g = code p f known l owner in
      let bd = body p f known l owner in
      let sc = scope p f known l owner in
      let count = piece_count p r l in
      record {
        steps = 1;
        within = omega arith;
        walk = λ w below slots s.
            subst (λ left. Walk q w.trace 1 (running w s (frame_at (piece_name f.called l) at_jump slots ∷ below) None) (running w s (frame_at (piece_name f.called l) (point_at j left) slots ∷ below) None)) (row_stands p f l m there).is_left
            (walk_one _ _
            (step_on q w (piece_name f.called l) g below (is_code p f known l owner) slots s (Nth k ∷ arm line.line.statement) sc (line_scope g bd k sc count (If test jump Absent) after line.line (arm line.line.statement)) (Simple jump)
            (arm_found g bd k sc count (If test jump Absent) after line.line test jump refl) true s slots (point_at j (dropped j bd)) refl (arm_goes g bd k sc count (If test jump Absent) after line.line test jump true (node_label m) j refl refl label))
            (record { is_trace = refl; goes = refl; runs = refl }) (omega arith));
      }

  abbrev Doing : Answer Act → Type 0
  Doing u = DoesHere p fine given bounds f known enough begins l owner shown lower pointer result frame n at has row w bs c slots slots' o u

  abbrev acts : Answer Act
  acts = test_act (Here_at q (scope p f known l owner) slots' (beside bs w.store)) (Some test)

  abbrev Names : Text → Type 0
  Names = Used p f known l owner n at slots slots' lower stands

  holds_on : (t : Store) (a b : List Slot) → LocalsStand p r l a b lower → acts ≡ Gives (GoesOn true (beside bs t) b) → Doing (Gives (GoesOn true t a))
  holds_on t a b then_stands is_act =
      Moves true t a
      (λ to g. record {
        from = frame_at (piece_name f.called l) at_jump b;
        first = first_step p fine given bounds f known enough begins l owner shown lower pointer result frame n at has row (If test jump Absent) behind_it after line (world_of w c) slots' (beside bs w.store) (Test (Some test)) refl true (beside bs t) b at_jump is_act
            (test_holds (code p f known l owner) (body p f known l owner) k (scope p f known l owner) (piece_count p r l) (If test jump Absent) after line.line test jump refl);
        same = same_registers p r l slots a slots' b lower stands then_stands;
        onward =
            let leads : Some (InGraph (owner_by (is_leader (flow_in p f) m) l m) m) ≡ Some to = ap (option_map (λ i. InGraph (owner_by (is_leader (flow_in p f) i) l i) i)) (sym is_yes) ∙ (sym (goes_is p f known l n at true) ∙ g) in
            let is : InGraph (owner_by (is_leader (flow_in p f) m) l m) m ≡ to = cc in
            subst (Onward (z p fine given bounds) bounds f.called l lower pointer result frame bs t a (frame_at (piece_name f.called l) at_jump b)) is
            (goes_onward p fine given bounds f known enough l owner lower pointer result frame n at has true m is_yes there at_jump jumps a b then_stands bs t);
      })

  fails_on : (t : Store) (a b : List Slot) → LocalsStand p r l a b lower → acts ≡ Gives (GoesOn false (beside bs t) b) → Doing (Gives (GoesOn false t a))
  fails_on t a b then_stands is_act =
      Moves false t a
      (λ to g. record {
        from = frame_at (piece_name f.called l) (point_at (suc k) after) b;
        first = first_step p fine given bounds f known enough begins l owner shown lower pointer result frame n at has row (If test jump Absent) behind_it after line (world_of w c) slots' (beside bs w.store) (Test (Some test)) refl false (beside bs t) b (point_at (suc k) after) is_act
            (test_fails (code p f known l owner) (body p f known l owner) k (scope p f known l owner) (piece_count p r l) (If test jump Absent) after line.line test jump refl);
        same = same_registers p r l slots a slots' b lower stands then_stands;
        onward = behind p fine given bounds f known enough begins l owner shown lower pointer result frame n at has row y false puts refl refl a b then_stands bs t to g;
      })

  goes_on : (h : Bool) (t : Store) (a b : List Slot) → LocalsStand p r l a b lower → acts ≡ Gives (GoesOn h (beside bs t) b) → Doing (Gives (GoesOn h t a))
  goes_on true = holds_on
  goes_on false = fails_on

  same : (x x' : Act) → SameAct (Stays p) (StaysAs p) (InLocal p f known l owner) bs slots slots' x x' → ((h : Bool) × (t : Store) × (changed : List Slot) × (x ≡ GoesOn h t changed)) → acts ≡ Gives x' → Doing (Gives x)
  same _ _ (BothGo h t a b _ _ changed) only is_act = goes_on h t a b (changed_stand p f known l owner slots slots' a b lower changed stands) is_act
  same _ _ (BothEnter g g' vs _ _ _) only is_act = absurd (let i = only.3 in cc)
  same _ _ (BothLeave v t _ _) only is_act = absurd (let i = only.3 in cc)
  same _ _ (BothAsk rq _) only is_act = absurd (let i = only.3 in cc)

  both : (u v : Answer Act) → ((x : Act) → u ≡ Gives x → (h : Bool) × (t : Store) × (changed : List Slot) × (x ≡ GoesOn h t changed)) → Meets (SameAct (Stays p) (StaysAs p) (InLocal p f known l owner) bs slots slots') u v → acts ≡ v → Doing u
  both _ _ only (BothGive x x' s) i = same x x' s (only x refl) i
  both _ _ only (BothFault fault) i =
      Breaks fault (piece_name f.called l) shown
      (record { steps = 0; grown = 0; last = _; leads = stay _; faults = first_fault p fine given bounds f known enough begins l owner shown lower pointer result frame n at has row (If test jump Absent) behind_it after line (world_of w c) slots' (beside bs w.store) (Test (Some test)) refl fault i }) begins (omega arith)
  both _ _ only (Stuck v) i = Sticks

  -- the test comes to the same, and control goes the same way
  pub tests_there : (result' : Ty) → DoesHere p fine given bounds f known enough begins l owner shown lower pointer result frame n at has row w bs c slots slots' o (act (context (split_form p) w.store (frame_of f.called (InGraph l n) slots)) result' o ((split_form p).code.stood f.called (InGraph l n)))
  tests_there result' =
      let names = found_known p facts f known l owner n at slots slots' lower stands (Test (Some e)) stood in
      let kept = kept_here p facts f known l owner n at slots slots' lower stands (AtStatement (Test (Some e))) stood in
      subst (DoesHere p fine given bounds f known enough begins l owner shown lower pointer result frame n at has row w bs c slots slots' o) (sym (source_act p facts f known l owner n at slots slots' lower stands w result' o (AtStatement (Test (Some e))) stood))
      (both (test_act (Here_at p at.node.scope slots w.store) (Some e)) acts (tests_only (Here_at p at.node.scope slots w.store) e)
      (test_alike (Stays p) (StaysAs p) (InLocal p f known l owner) p q facts.common Names (readings_of r at.node.scope) at.node.scope (scope p f known l owner) slots slots' (names_mean p f known l owner n at slots slots' lower stands) w.store store held (λ x. read_live w.store slots (readings_of r at.node.scope x) live) bs
      (Some e) (names_kept (UsedName p at.node.scope) Names at.node.scope (IsKept p f known l owner n at slots slots' lower stands) (use_kept p f known l owner n at slots slots' lower stands) e names kept)) refl)
