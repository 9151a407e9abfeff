-- The row of each node of a piece breaks no rule, whatever stands there.
use Rattle.std.proofs.Common.{◌≡◌, ℕ, true, false, ◌||◌, List, [], ◌++◌, length, slice_get, Option, Some, None, refl, sym, ◌∙◌, ap, subst}
use Rattle.cpc_base.specs.declared.stop.Dialect.TheVariants as D
use Rattle.cpc_num.specs.declared.kinds.Kind.TheVariants.{Int}
use Rattle.cpc_tree.specs.Lists.{holds_number}
use Rattle.cpc_tree.specs.Points.{Path, Point, Here, Arrival, End, Found, Simple, Test, Nothing, found}
use Rattle.cpc_tree.specs.Primitives.{Primitive, Yield, Sleep, IoWait, Wait}
use Rattle.cpc_tree.specs.Registers.{outer_scope, scope_in_function}
use Rattle.cpc_tree.specs.Syntax.{Ty, TyVoid, TyInt, Expr, ENamed, Stmt, Call, Detach, Return, Function, Program}
use Rattle.cpc_tree.specs.Typing as T
use Rattle.cpc_tree.specs.Typing.{ALocal, is_scalar, function_named}
use Rattle.cpc_check_rules.specs.Scopes as S
use Rattle.cpc_check_rules.specs.Scopes.{meant}
use Rattle.cpc_check_rules.specs.Calls.{gives}
use Rattle.cpc_check_rules.specs.Operators.{Where}
use Rattle.cpc_check_rules.specs.StmtRules.{stmt_breaks}
use Rattle.cpc_check_laws.proofs.Native.OnePlace.{stmt_here}
use Rattle.cpc_meaning.specs.Act.{AtStatement, AtArrival, target_of}
use Rattle.cpc_meaning.specs.Ways.{Manner, InPlace, ByFrame, AsCps, primitive_manner, manner_of, manner_at, is_cps_statement, ways}
use Rattle.cpc_check_laws.specs.Sound.Typed.{FoundTyped}
use Rattle.cpc_check_rules.specs.Scopes.{takes_value as assignable}
use Rattle.cpc_lifted_laws.specs.Complete.Sets.{Gives}
use Rattle.cpc_lifted_laws.specs.Complete.Standing.{simple_breaks, Tells, Standing, NothingStands, Stands}
use Rattle.cpc_lifted_laws.proofs.Complete.Parts.{section_parts}
use Rattle.cpc_chains_laws.proofs.Complete.Pieces.{arrival_fine, given_scalar}
use Rattle.cpc_convert_image_laws.specs.Images.{Readings, image}
use Rattle.cpc_forms.specs.Flow.{Place, At, Flow, is_leader, owner_of, owner_step, owner_within, resumes_at, two_or_more, sources}
use Rattle.cpc_forms.specs.Graph.{Node, node_of, at_node}
use Rattle.cpc_forms.specs.Split.{InGraph, split_form, position_stood, position_scope}
use Rattle.cpc_graph_laws.specs.Laws.{flow_in}
use Rattle.cpc_lift_laws.specs.Used.{used_if, used_at, is_left}
use Rattle.cpc_lift_laws.proofs.Lift.{boxes_exact}
use Rattle.cpc_convert_routines.specs.Arriving.{arriving_if, arriving_from, arriving_found, arriving_stood, arriving_type}
use Rattle.cpc_chains_event.specs.Lines.{Line, all_do, arrival_lines, cps_lines, stood_lines, node_lines}
use Rattle.cpc_chains_event.specs.LocalLaws.{piece_locals, StandsIn}
use Rattle.cpc_convert_routines.specs.Named.{IsOwner}
use Rattle.cpc_convert_routines.specs.Names.{value_name}
use Rattle.cpc_chains_event.specs.Pieces.{called_so, words_of, begun, loaded, is_wait, is_entry}
use Rattle.cpc_convert_routines.specs.Taken.{takes_value, has_place, takes_stood, is_result}
use Rattle.cpc_convert_routines.specs.Routines.{Routine, routine_of, closure_of, locals_of, readings_of, variable_if}
use Rattle.cpc_convert_routines.specs.Nodes.{has_row}
use Rattle.cpc_lifted_laws.proofs.Accepted.Lifted.{programs_are_closed}
use Rattle.cpc_lifted_laws.specs.Piece.Known.{CpsKnown}
use Rattle.cpc_chains_laws.specs.Piece.Stood.{NodeAt}
use Rattle.cpc_chains_laws.proofs.Piece.Ways.{is_split, kept_is, stands_there, owner_is}
use Rattle.cpc_chains_laws.proofs.Piece.Words.{wait_word, entry_word, value_word}
use Rattle.cpc_chains_laws.specs.Rules.Laws.{Knows}
use Rattle.cpc_chains_laws.proofs.Rules.KeptRows.{Source}
use Rattle.cpc_lifted_laws.proofs.Shape.Calls.{CpsTyped}
use Rattle.cpc_chains_laws.proofs.Shape.Points.{IsRow}
use Rattle.cpc_chains_laws.specs.Wait.Waiting.{Waiting, CallsCps, CallsWait, Submits}
use Rattle.cpc_chains_laws.proofs.Wait.Behind.{arrival_there, waiting}
use Rattle.cpc_chains_laws.proofs.RowBodies.InPlace.{v, w, leave_none, Returns, simple_run, framed_run, test_run, moved_gives}
use Rattle.cpc_chains_laws.proofs.RowBodies.Inside.{local}
use Rattle.cpc_chains_laws.proofs.RowBodies.Nodes.{IsFormed, source_at, standing}
use Rattle.cpc_chains_laws.proofs.RowBodies.Pausing.{cps_run, calls_parts, waits_parts, parameters_are}
use Rattle.cpc_chains_laws.proofs.RowBodies.Rowing.{LinesRun, passes_run, does_run, all_run}
use Rattle.cpc_lifted_laws.proofs.RowBodies.Starts.{InScope, started}

manners_apart : (m : Manner) → m ≡ InPlace → m ≡ AsCps → ⊥
manners_apart m e i = let z : InPlace ≡ AsCps = sym e ∙ i in absurd (cc)

framed_apart : (m : Manner) → m ≡ ByFrame → m ≡ AsCps → ⊥
framed_apart m e i = let z : ByFrame ≡ AsCps = sym e ∙ i in absurd (cc)

-- the value of a wait that goes somewhere is an int
waits_give : (prim : Primitive) → primitive_manner (Some prim) ≡ AsCps → (u : Ty) → assignable u false (gives prim) ≡ true → gives prim ≡ TyInt Int
waits_give Sleep e u h = refl
waits_give IoWait e u h = refl
waits_give Yield e u h = absurd (let z : false ≡ true = given_scalar u TyVoid h in cc)
waits_give Wait e u h = absurd (let z : false ≡ true = given_scalar u TyVoid h in cc)
waits_give prim e u h = absurd (cc)

module _ (p : Program) (source : Source p) (f : Function) (known : CpsKnown p f) (typed : CpsTyped p f) (formed : IsFormed f) (l : Place) (owner : IsOwner (routine_of p f) l) (all : Program) (k : Knows p all) where
  abbrev r : Routine
  r = routine_of p f

  abbrev pub at_piece : Where
  at_piece = v p source f known formed l owner all k

  abbrev Kept : List ℕ → Type 0
  Kept js = (j : ℕ) → holds_number js j ≡ true → holds_number (closure_of r l) j ≡ true

  module _ (n : ℕ) (at : NodeAt p f l n) (has : has_row r.split n ≡ true) where
    stood_is : (split_form p).code.stood f.called (InGraph l n) ≡ at.node.stood
    stood_is = ap (λ o. position_stood ((ways p).code.stood f.called) o (InGraph l n)) (is_split p f known) ∙ ap (at_node (AtStatement Nothing) (λ k. k.stood)) at.is_node

    scope_is : (split_form p).code.scope f.called (InGraph l n) ≡ at.node.scope
    scope_is = ap (λ o. position_scope ((ways p).code.scope f.called) o (InGraph l n)) (is_split p f known) ∙ ap (at_node [] (λ k. k.scope)) at.is_node

    -- what is used at a node is kept, and where the function is left all boxes are
    uses : Kept (used_at at.node.scope at.node.stood)
    uses j h =
        sym (kept_is p f known l at.keeps n j)
        ∙ ((programs_are_closed p).inside f.called).used (InGraph l n) j (stands_there p f known l n at)
        (ap (λ s. holds_number (used_at s ((split_form p).code.stood f.called (InGraph l n))) j) scope_is ∙ (ap (λ s. holds_number (used_at at.node.scope s) j) stood_is ∙ h))

    left : is_left at.node.stood ≡ true → Kept r.boxes
    left e j h =
        sym (kept_is p f known l at.keeps n j)
        ∙ ((programs_are_closed p).inside f.called).left (InGraph l n) j (stands_there p f known l n at) (ap is_left stood_is ∙ e) ((boxes_exact p f.called j).0 h)

    module _ (path : Path) where
      abbrev sc : T.Scope
      sc = scope_in_function f path

      abbrev names : Readings
      names = readings_of r sc

      -- ---- a statement

      module _ (is : at.node ≡ node_of p f (Here path)) where
        used_here : (x : Found) → found f.body path ≡ x → Kept (used_at sc (AtStatement x))
        used_here x e j h = uses j (ap (λ (d : Node). holds_number (used_at d.scope d.stood) j) is ∙ (ap (λ y. holds_number (used_at sc (AtStatement y)) j) e ∙ h))

        stands_here : (x : Found) → found f.body path ≡ x → at.node.stood ≡ AtStatement x
        stands_here x e = ap (λ (d : Node). d.stood) is ∙ ap (λ y. AtStatement y) e

        returns_of : (bs : List S.Block) (tells : Tells sc bs) (s : Stmt) → found f.body path ≡ Simple s → Returns p source f known formed l owner all k path bs tells s
        returns_of bs tells (Return None) e = left (ap is_left (stands_here (Simple (Return None)) e))
        returns_of bs tells (Return (Some x)) e = (left (ap is_left (stands_here (Simple (Return (Some x))) e)), value_word p f known l owner n at has (ap is_result (stands_here (Simple (Return (Some x))) e)))
        returns_of bs tells s e = tt

        in_scope : (x : Found) → found f.body path ≡ x → InScope sc x
        in_scope x e = subst (InScope sc) e (started (outer_scope f) (length f.parameters) f.body path (source.steps f known.found.cps.has))

        simple_is : (bs : List S.Block) (s : Stmt) → Waiting p sc s → simple_breaks (source_at p source f known formed l owner all k bs) s ≡ [] → stmt_breaks (source_at p source f known formed l owner all k bs) (stmt_here s) ≡ []
        simple_is bs _ (CallsCps to x es u ps g e i c gets) h = h
        simple_is bs _ (CallsWait to x es prim e i m none) h = h
        simple_is bs _ (Submits to x es d) h = h

        waits_here : (s : Stmt) → found f.body path ≡ Simple s → manner_at p f path ≡ AsCps → Waiting p sc s
        waits_here s e m = waiting p source.names f sc s (subst (FoundTyped D.Cpc p f sc) e (typed.typed path)) (ap (manner_of p sc) (sym e) ∙ m)

        cps_here : (bs : List S.Block) (tells : Tells sc bs) (s : Stmt) → found f.body path ≡ Simple s → manner_at p f path ≡ AsCps → simple_breaks (source_at p source f known formed l owner all k bs) s ≡ [] → LinesRun at_piece (all_do (cps_lines p r names s (node_of p f (Here path)).arrival))
        cps_here bs tells s e m h =
            let behind = arrival_there p f known l n at (Simple s) (stands_here (Simple s) e) (ap (λ (d : Node). d.manner) is ∙ m) in
            let waits = waits_here s e m in
            let word = wait_word p f known l owner n at has (ap (λ (d : Node). is_wait d.manner d.stood) is ∙ ap (λ c. is_wait c (AtStatement (found f.body path))) m) in
            let arrival : (node_of p f (Here path)).arrival ≡ Some behind.back = sym (ap (λ (d : Node). d.arrival) is) ∙ behind.is_arrival in
            subst (λ o. LinesRun at_piece (all_do (cps_lines p r names s o))) (sym arrival)
            (cps_run p source f known formed l owner all k path bs tells behind.back behind.leads behind.keeps word s waits (used_here (Simple s) e) (simple_is bs s waits h)
            (λ i. entry_word p f known l owner n at has (ap (is_entry p) (stands_here (Simple s) e) ∙ i)))

        abbrev lines : Manner → Found → List Line
        lines m x = stood_lines p r names m (AtStatement x) (node_of p f (Here path)).yes (node_of p f (Here path)).no (node_of p f (Here path)).arrival

        here_run : (m : Manner) → manner_at p f path ≡ m → (x : Found) → found f.body path ≡ x → Standing (source_at p source f known formed l owner all k) sc x → LinesRun at_piece (lines m x)
        here_run InPlace m _ e NothingStands = passes_run at_piece (node_of p f (Here path)).yes
        here_run ByFrame m _ e NothingStands = passes_run at_piece (node_of p f (Here path)).yes
        here_run AsCps m _ e NothingStands = passes_run at_piece (node_of p f (Here path)).yes
        here_run InPlace m _ e (Stands Nothing bs tells h) = passes_run at_piece (node_of p f (Here path)).yes
        here_run ByFrame m _ e (Stands Nothing bs tells h) = passes_run at_piece (node_of p f (Here path)).yes
        here_run AsCps m _ e (Stands Nothing bs tells h) = passes_run at_piece (node_of p f (Here path)).yes
        here_run InPlace m _ e (Stands (Test t) bs tells h) = test_run p source f known formed l owner all k path bs tells t h (used_here (Test t) e) (node_of p f (Here path)).yes (node_of p f (Here path)).no
        here_run ByFrame m _ e (Stands (Test t) bs tells h) = test_run p source f known formed l owner all k path bs tells t h (used_here (Test t) e) (node_of p f (Here path)).yes (node_of p f (Here path)).no
        here_run AsCps m _ e (Stands (Test t) bs tells h) = test_run p source f known formed l owner all k path bs tells t h (used_here (Test t) e) (node_of p f (Here path)).yes (node_of p f (Here path)).no
        here_run InPlace m _ e (Stands (Simple s) bs tells h) =
            simple_run p source f known formed l owner all k path bs tells s (λ c. manners_apart (manner_at p f path) m (ap (manner_of p sc) e ∙ c)) h (in_scope (Simple s) e) (used_here (Simple s) e) (returns_of bs tells s e) (node_of p f (Here path)).yes
        here_run ByFrame m _ e (Stands (Simple s) bs tells h) =
            framed_run p source f known formed l owner all k path bs tells s (λ c. framed_apart (manner_at p f path) m (ap (manner_of p sc) e ∙ c)) h (used_here (Simple s) e) (node_of p f (Here path)).arrival
        here_run AsCps m _ e (Stands (Simple s) bs tells h) = cps_here bs tells s e m h

      -- ---- an arrival

      module _ (is : at.node ≡ node_of p f (Arrival path)) (manner : manner_at p f path ≡ AsCps) where
        abbrev flow : Flow
        flow = flow_in p f

        -- it owns itself
        itself : l ≡ At n
        itself =
            let resumes : flow.resumes n ≡ true = ap (at_node false (λ (d : Node). resumes_at d.stood d.manner)) at.is_node ∙ (ap (λ (d : Node). resumes_at d.stood d.manner) is ∙ ap is_cps_statement manner) in
            let leads : is_leader flow n ≡ true = ap (λ b. b || two_or_more (sources flow n)) resumes in
            let own : owner_of flow n ≡ Some (At n) = ap (λ b. owner_step flow (owner_within flow flow.size) b (At n)) leads in
            let z : Some l ≡ Some (At n) = sym (owner_is p f l n at) ∙ own in cc

        node_is : slice_get r.split.graph.nodes n ≡ Some (node_of p f (Arrival path))
        node_is = at.is_node ∙ ap (λ (d : Node). Some d) is

        takes : (x : Found) → found f.body path ≡ x → has_place (target_of x) ≡ true → takes_value r l ≡ true
        takes x e h = ap (takes_value r) itself ∙ (ap (at_node false (λ (d : Node). takes_stood d.manner d.stood)) node_is ∙ (ap (λ m. takes_stood m (AtArrival (found f.body path))) manner ∙ (ap (λ y. has_place (target_of y)) e ∙ h)))

        arriving : (x : Found) → found f.body path ≡ x → arriving_type p r l ≡ arriving_found p x
        arriving x e = ap (arriving_type p r) itself ∙ (ap (at_node (TyInt Int) (λ (d : Node). arriving_stood p d.manner d.stood)) node_is ∙ (ap (λ m. arriving_stood p m (AtArrival (found f.body path))) manner ∙ ap (arriving_found p) e))

        value_there : takes_value r l ≡ true → StandsIn (called_so value_name (arriving_type p r l)) (piece_locals p r l)
        value_there e = (3, ap (λ b. slice_get (variable_if b (called_so value_name (arriving_type p r l)) (locals_of r (loaded r l) ++ (words_of p r l ++ locals_of r (begun r l)))) 0) e)

        arrival_used : (x : Found) → found f.body path ≡ x → Kept (used_at sc (AtArrival x))
        arrival_used x e j h = uses j (ap (λ (d : Node). holds_number (used_at d.scope d.stood) j) is ∙ (ap (λ y. holds_number (used_at sc (AtArrival y)) j) e ∙ h))

        -- a value goes to its place
        place_run : (bs : List S.Block) (tells : Tells sc bs) (x : Found) → found f.body path ≡ x → (e : Expr) (u : Ty) → target_of x ≡ Some (Some e) → arriving_found p x ≡ u → Gives (source_at p source f known formed l owner all k bs) (Some e) u → Kept (used_if sc (Some e)) → (m : Option ℕ)
            → LinesRun at_piece (arrival_lines names (Some (Some e)) m)
        place_run bs tells x i e u t a g h m =
            let there = local p f known l owner all k (called_so value_name (arriving_type p r l)) (value_there (takes x i (ap has_place t))) in
            let gives = moved_gives p source f known formed l owner all k path bs tells (Some e) u h g in
            does_run at_piece _ m refl (arrival_fine at_piece (image names e) value_name 0 u (there ∙ ap (λ y. ALocal 0 y) (arriving x i ∙ a)) gives)

        arrive_run : (bs : List S.Block) (tells : Tells sc bs) (s : Stmt) → found f.body path ≡ Simple s → Waiting p sc s → simple_breaks (source_at p source f known formed l owner all k bs) s ≡ [] → (m : Option ℕ) → LinesRun at_piece (arrival_lines names (target_of (Simple s)) m)
        arrive_run bs tells _ i (CallsCps None x es u ps g e q c gets) h m = passes_run at_piece m
        arrive_run bs tells _ i (CallsCps (Some y) x es u ps g e q c gets) h m =
            let parts = calls_parts p source f known formed l owner all k path bs tells (Some y) x es u ps e h in
            let same = parameters_are p source f known formed l owner all k path bs tells x u ps g e q in
            let result : g.result ≡ u = cc in
            let scalar : is_scalar g.result ≡ true = ap is_scalar result ∙ given_scalar parts.1.0 u parts.1.2 in
            place_run bs tells (Simple (Call (Some y) (ENamed x) es)) i y u refl (ap (arriving_from) q ∙ (ap (λ b. arriving_if b g.result) scalar ∙ result)) parts.1 (arrival_used (Simple (Call (Some y) (ENamed x) es)) i) m
        arrive_run bs tells _ i (CallsWait None x es prim e q w none) h m = passes_run at_piece m
        arrive_run bs tells _ i (CallsWait (Some y) x es prim e q w none) h m =
            let parts = waits_parts p source f known formed l owner all k path bs tells (Some y) x es prim e q w h in
            let int = waits_give prim w parts.1.0 parts.1.2 in
            place_run bs tells (Simple (Call (Some y) (ENamed x) es)) i y (gives prim) refl (ap arriving_from none ∙ sym int) parts.1 (arrival_used (Simple (Call (Some y) (ENamed x) es)) i) m
        arrive_run bs tells _ i (Submits None x es d) h m = passes_run at_piece m
        arrive_run bs tells _ i (Submits (Some y) x es d) h m =
            let parts = section_parts (source_at p source f known formed l owner all k bs) (Some y) x es h in
            place_run bs tells (Simple (Detach (Some y) x es)) i y (TyInt Int) refl refl parts.4 (arrival_used (Simple (Detach (Some y) x es)) i) m

        found_arrives : (x : Found) → found f.body path ≡ x → Standing (source_at p source f known formed l owner all k) sc x → (m : Option ℕ) → LinesRun at_piece (arrival_lines names (target_of x) m)
        found_arrives _ e NothingStands m = passes_run at_piece m
        found_arrives _ e (Stands Nothing bs tells h) m = passes_run at_piece m
        found_arrives _ e (Stands (Test t) bs tells h) m = passes_run at_piece m
        found_arrives _ e (Stands (Simple s) bs tells h) m =
            arrive_run bs tells s e (waiting p source.names f sc s (subst (FoundTyped D.Cpc p f sc) e (typed.typed path)) (ap (manner_of p sc) (sym e) ∙ manner)) h m

    -- ---- a node

    point_run : (point : Point) → at.node ≡ node_of p f point → IsRow p f point → LinesRun at_piece (node_lines p r (node_of p f point))
    point_run (Here path) is row = here_run path is (manner_at p f path) refl (found f.body path) refl (standing p source f known formed l owner all k path)
    point_run (Arrival path) is row = found_arrives path is row (found f.body path) refl (standing p source f known formed l owner all k path) (node_of p f (Arrival path)).yes
    point_run End is row = all_run at_piece _ (leave_none p source f known formed l owner all k (readings_of r (node_of p f End).scope) (left (ap (λ (d : Node). is_left d.stood) is)))

    pub node_run : (point : Point) → at.node ≡ node_of p f point → IsRow p f point → LinesRun at_piece (node_lines p r at.node)
    node_run point is row = subst (λ (d : Node). LinesRun at_piece (node_lines p r d)) (sym is) (point_run point is row)
