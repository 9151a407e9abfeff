-- Lifted functions are routines, and these are complete.
use Rattle.std.proofs.Common.{◌≡◌, ◌<◌, ℕ, suc, Bool, true, false, not, List, [], ◌∷◌, map, length, slice_get, get_or, is_some, Some, option_map, arith, refl, sym, ap, subst, ◌∙◌}
use Rattle.std.specs.List.{All}
use Rattle.std.proofs.lemmas.List.{length-map}
use Rattle.std.proofs.lemmas.Option.{slice_get-map}
use Rattle.std.proofs.Math.Logic.{∥∥₁_map}
use Rattle.cpc_base.specs.Bytes.{Text}
use Rattle.cpc_tree.specs.Erase.{Names, function_of, item_of, program_of}
use Rattle.cpc_tree.specs.Lists.{holds_number}
use Rattle.cpc_tree.specs.Registers as G
use Rattle.cpc_tree.specs.Syntax.{Function, Program}
use Rattle.cpc_tree.specs.Points.{Point}
use Rattle.cpc_tree.specs.Typing.{function_named}
use Rattle.cpc_tree.specs.declared.program.Function as GFunction
use Rattle.cpc_tree.specs.declared.program.Item as GItem
use Rattle.cpc_tree.specs.declared.program.Item.TheVariants as I
use Rattle.cpc_tree.specs.declared.program.Program as GProgram
use Rattle.cpc_meaning.specs.Threads.{is_cps, is_cps_mode}
use Rattle.cpc_meaning.specs.Ways as W
use Rattle.cpc_meaning.specs.Ways.{is_cps_statement}
use Rattle.cpc_lifted_laws.specs.Accepted.Names.{HasNames, IsFound}
use Rattle.cpc_forms.specs.Flow.{Place, Start, flow_of, is_leader}
use Rattle.cpc_forms.specs.Order.{points}
use Rattle.cpc_forms.specs.Graph as F
use Rattle.cpc_forms.specs.Graph.{graph_of, node_of, manner_from}
use Rattle.cpc_forms.specs.Split.{Split, split_of}
use Rattle.cpc_forms.proofs.Owners.{owners_long}
use Rattle.cpc_graph_laws.proofs.Formed.{formed_graph, node_comes, exits_way, exits_arrival}
use Rattle.cpc_graph_laws.proofs.MoreFacts.{entries_are_first}
use Rattle.cpc_lift_laws.specs.Lift.{boxes}
use Rattle.cpc_lift_laws.specs.Nodes.{ways_of_nodes, uses_of_nodes}
use Rattle.cpc_lift_laws.specs.Search.{closure}
use Rattle.cpc_forms_code.specs.Graphs.{node_seen, graph_seen}
use Rattle.cpc_forms_code.specs.Lifts as L
use Rattle.cpc_forms_code.specs.Programs.{program_by, function_if, cps_functions, IsSpelled}
use Rattle.cpc_forms_code.specs.Seen.{manner_seen, stood_seen}
use Rattle.cpc_forms_code.specs.Splits.{split_seen, places_of}
use Rattle.cpc_forms_code.specs.declared.boxed.Manner.TheVariants.{AsCps}
use Rattle.cpc_forms_code.specs.declared.boxed.Variable as V
use Rattle.cpc_forms_code.specs.declared.graph.Node.{Node}
use Rattle.cpc_forms_code.specs.declared.lifted.LiftedFunction.{LiftedFunction}
use Rattle.cpc_forms_code.specs.declared.lifted.LiftedProgram.{LiftedProgram}
use Rattle.cpc_convert_routines.specs.Kept.{routine_if, routines_in}
use Rattle.cpc_convert_routines.specs.Routines as R
use Rattle.cpc_convert_routines.specs.Routines.{Routine, is_plain, routine_of, keeper, closure_of}
use Rattle.cpc_convert_routines.specs.Nodes.{is_own}
use Rattle.cpc_convert_names.specs.Called.{function_in, variables_in, nodes_in}
use Rattle.cpc_convert_names.specs.Book.{find}
use Rattle.cpc_convert_names.specs.declared.called.Called.{Called}
use Rattle.cpc_convert_needs.specs.Steps.{IsOf}
use Rattle.cpc_convert_needs.specs.Known as K
use Rattle.cpc_convert_needs.specs.Known.{plain_seen, Waits, IsKnown, IsRoutine}
use Rattle.cpc_convert_needs.specs.Whole.{IsCps, IsComplete, rows_of}
use Rattle.cpc_convert_needs_laws.specs.Laws.{AreTexts, AreRoutines, AreComplete, LiftedAreRoutines, LiftedAreComplete, routine_in}
use Rattle.cpc_convert_needs_laws.proofs.Alike as A
use Rattle.cpc_convert_needs_laws.proofs.Gathered.{source_in, Formed, There, Known, Gathered, gathered, all_there, unmapped, of_each}
use Rattle.cpc_convert_needs_laws.proofs.Listed.{all_by, each_of, own_below, first_owner, closure_below}
use Rattle.cpc_convert_needs_laws.proofs.Marks.{IsBelow, boxes_are, boxes_seen, marked_so, positions_same, ways_same, uses_same, leaders_below}
use Rattle.cpc_convert_needs_laws.proofs.Means.{item_has, means_found, entry_found, statement_means, arrival_means}

twice : (b : Bool) → b ≡ not (not b)
twice true = refl
twice false = refl

-- ---- a lifted function

module _ (l : LiftedFunction) (is : Formed l) (from to : Names) (cs : List Called) (texts : AreTexts (source_in l) from to) (names : HasNames (program_by from (source_in l)))
    (all : All (λ (c : Called). There (source_in l).items.items (function_in c.lifted.now)) cs) (whole : map (λ (c : Called). function_in c.lifted.now) cs ≡ cps_functions (source_in l).items.items)
    (there : There (source_in l).items.items (function_in l)) where
  abbrev p : Program
  p = program_by from (source_in l)

  abbrev f : Function
  f = function_of from (function_in l)

  abbrev r : Routine
  r = routine_of p f

  abbrev g : F.Graph
  g = graph_of p f

  spelled : IsSpelled from (source_in l) (function_in l)
  spelled = A.spelled l is from to texts there

  found : IsFound p f
  found = names.functions f (item_has from (source_in l).items.items there.number (function_in l) there.item)

  alike : K.IsAlike from to l
  alike = A.is_alike l is from to texts there

  variables_long : length (G.variables f) ≡ length (variables_in l)
  variables_long = sym (ap length alike.are) ∙ length-map (variables_in l) (plain_seen from)

  -- ---- boxes

  boxes_is : boxes p f.called ≡ K.boxes_among 0 (variables_in l)
  boxes_is = boxes_are p f found.found ∙ (ap (L.boxes_among 0) (sym (A.marks_are l is from to texts there)) ∙ sym (boxes_seen from 0 (variables_in l)))

  marks : (k : ℕ) (v : V.Variable) → slice_get (variables_in l) k ≡ Some v → v.is_register ≡ is_plain r k
  marks k v e =
      let h : holds_number (boxes p f.called) k ≡ not v.is_register = ap (λ bs. holds_number bs k) boxes_is ∙ marked_so 0 k (variables_in l) v e k (omega arith) in
      twice v.is_register ∙ sym (ap not h)

  -- ---- nodes

  graph : graph_seen from (variables_in l) (nodes_in l) ≡ g
  graph = is.graph.graph from spelled

  nodes_are : map (node_seen from (variables_in l)) (nodes_in l) ≡ g.nodes
  nodes_are = ap (λ (h : F.Graph). h.nodes) graph

  count : length (nodes_in l) ≡ length g.nodes
  count = sym (length-map (nodes_in l) (node_seen from (variables_in l))) ∙ ap length nodes_are

  split : split_seen from l.split.now.graph.now l.split.now.owners.items l.split.now.leaders.items ≡ split_of g
  split = is.split.split from spelled

  leaders_are : r.split.leaders ≡ l.split.now.leaders.items
  leaders_are = sym (ap (λ (s : Split). s.leaders) split)

  owners_are : places_of l.split.now.owners.items ≡ r.split.owners
  owners_are = ap (λ (s : Split). s.owners) split

  led : All (IsBelow (length (nodes_in l))) l.split.now.leaders.items
  led = subst (All (IsBelow (length (nodes_in l)))) leaders_are (leaders_below (flow_of g) (length (nodes_in l)) 0 (length g.nodes) (let h = count in omega (arith, h)))

  -- a node by its number
  module _ (k : ℕ) (n : Node) (e : slice_get (nodes_in l) k ≡ Some n) where
    abbrev node : F.Node
    node = node_seen from (variables_in l) n

    node_there : slice_get g.nodes k ≡ Some node
    node_there = sym (ap (λ (ms : List F.Node). slice_get ms k) nodes_are) ∙ (slice_get-map (node_seen from (variables_in l)) (nodes_in l) k ∙ ap (option_map (node_seen from (variables_in l))) e)

    comes : (point : Point) × (slice_get (points f.body) k ≡ Some point) × (node_of p f point ≡ node)
    comes = node_comes p f k node node_there

    within : (m : ℕ) → m < length g.nodes → m < length (nodes_in l)
    within m h = subst (λ c. m < c) (sym count) h

    by_way : (h : Bool) (m : ℕ) → F.way node h ≡ Some m → m < length (nodes_in l)
    by_way h m i = within m ((formed_graph p f).exit k m node node_there (exits_way node h m i))

    by_arrival : (m : ℕ) → n.arrival ≡ Some m → m < length (nodes_in l)
    by_arrival m i = go (is_cps_statement node.manner) refl
      where
        go : (b : Bool) → is_cps_statement node.manner ≡ b → m < length (nodes_in l)
        go true c = within m ((formed_graph p f).back k m node node_there c i).1
        go false c = within m ((formed_graph p f).exit k m node node_there (exits_arrival node m c i))

    waits : n.manner ≡ AsCps → Waits from p cs (stood_seen from n.stood)
    waits m =
        let manner : manner_from p f comes.0 ≡ W.AsCps = ap (λ (x : F.Node). x.manner) comes.2 ∙ ap manner_seen m in
        record {
          statement = λ o x es h. means_found (source_in l) from names cs all whole x (statement_means (source_in l) from names cs all whole f comes.0 o x es (ap (λ (y : F.Node). y.stood) comes.2 ∙ h) manner);
          arrival = λ o x es h. means_found (source_in l) from names cs all whole x (arrival_means (source_in l) from names cs all whole f comes.0 o x es (ap (λ (y : F.Node). y.stood) comes.2 ∙ h) manner);
        }

    known_one : IsKnown (source_in l).names from to p cs (length (nodes_in l)) n
    known_one =
        let read = each_of (A.ReadAlike l is from to texts there) (nodes_in l) (A.nodes_read l is from to texts there) k n e in
        record { texts = read.0; table = read.1; waits = waits; yes = λ m i. by_way true m i; no = λ m i. by_way false m i; arrival = by_arrival }

  known : All (IsKnown (source_in l).names from to p cs (length (nodes_in l))) (nodes_in l)
  known = all_by (IsKnown (source_in l).names from to p cs (length (nodes_in l))) (nodes_in l) known_one

  -- ---- closures

  ways_are : L.ways_in p f ≡ r.ways
  ways_are = ap (ways_of_nodes (L.code_of p (split_of g)) f.called L.position_owner) (positions_same 0 (split_of g).owners) ∙ ways_same (L.code_of p (split_of g)) f.called (R.positions_from 0 (split_of g).owners)

  uses_are : L.uses_in p f ≡ r.uses
  uses_are =
      ap (λ bs. uses_of_nodes (L.code_of p (split_of g)) f.called L.position_owner bs (L.positions_from 0 (split_of g).owners)) (sym (boxes_are p f found.found))
      ∙ (ap (uses_of_nodes (L.code_of p (split_of g)) f.called L.position_owner (boxes p f.called)) (positions_same 0 (split_of g).owners)
      ∙ uses_same (L.code_of p (split_of g)) f.called (boxes p f.called) (R.positions_from 0 (split_of g).owners))

  closures_are : (k : ℕ) → k < length (rows_of l) → get_or (rows_of l) k [] ≡ closure r.ways r.uses (length (G.variables f)) k
  closures_are k h =
      is.lifted.closures from spelled k h
      ∙ (ap (λ ws. closure ws (L.uses_in p f) (length (G.variables f)) k) ways_are ∙ ap (λ us. closure r.ways us (length (G.variables f)) k) uses_are)

  row_there : (n : ℕ) → n < length (nodes_in l) → suc n < length (rows_of l)
  row_there n h = let long = is.lifted.long in omega (arith, long, h)

  -- ---- the routine

  pub is_routine : IsRoutine (source_in l).names from to p cs l r
  is_routine = record {
    named = is.boxed.named from spelled;
    alike = alike;
    function = refl;
    marks = marks;
    boxes = boxes_is;
    nodes = nodes_are;
    leaders = leaders_are;
    led = led;
    known = known;
    closures = λ n h. closures_are (suc n) (row_there n h);
  }

  -- ---- what else is known of it

  of : IsOf from l.split.now r
  of = record { entry = (entries_are_first p f).0; nodes = nodes_are; owners = owners_are; leaders = leaders_are; led = led }

  keeps : R.owner_number (keeper r.split Start) < length (rows_of l)
  keeps =
      let first = entries_are_first p f in
      let long : suc (length g.nodes) ≡ length (rows_of l) = let h = is.lifted.long in let c = count in omega (arith, h, c) in
      subst (λ k. R.owner_number (keeper r.split Start) < k) long (first_owner (flow_of g) (is_leader (flow_of g) 0) (length g.nodes) g.entry first.0 first.1 first.3)

  owned : (place : Place) (n : ℕ) → is_own r.split place n ≡ true → n < length (nodes_in l)
  owned place n h =
      subst (λ k. n < k) (owners_long (flow_of g) 0 (length g.nodes) ∙ sym count) (own_below place r.split.owners n (slice_get r.split.owners n) refl h)

  kept : (place : Place) → All (IsBelow (length (variables_in l))) (closure_of r place)
  kept place = closure_below r.ways r.uses (R.owner_number (keeper r.split place)) (length (variables_in l)) 0 (length (G.variables f)) (let h = variables_long in omega (arith, h))

  pub is_complete : IsComplete from p l r
  is_complete = record { of = of; long = is.lifted.long; closures = closures_are; keeps = keeps; owned = owned; kept = kept }

-- ---- all of them

-- the routines are those of the cps functions
routines_are : (q : Program) (from : Names) (items : List GItem.Item) → routines_in q (map (item_of from) items) ≡ map (λ (f : GFunction.Function). routine_of q (function_of from f)) (cps_functions items)
routines_are q from [] = refl
routines_are q from (I.Struct tag fields ∷ items) = routines_are q from items
routines_are q from (I.Global w t start ∷ items) = routines_are q from items
routines_are q from (I.Prototype at mode w result ps ∷ items) = routines_are q from items
routines_are q from (I.Function f ∷ items) = go (is_cps_mode f.mode) (routines_are q from items)
  where
    go : (b : Bool) → routines_in q (map (item_of from) items) ≡ map (λ (f : GFunction.Function). routine_of q (function_of from f)) (cps_functions items)
        → routine_if b q (function_of from f) (routines_in q (map (item_of from) items)) ≡ map (λ (f : GFunction.Function). routine_of q (function_of from f)) (function_if b f (cps_functions items))
    go true e = ap (λ (rs : List Routine). routine_of q (function_of from f) ∷ rs) e
    go false e = e

routines_in_lifted : (q : Program) (from : Names) (ls : List LiftedFunction) → map (λ (f : GFunction.Function). routine_of q (function_of from f)) (map function_in ls) ≡ map (routine_in from q) ls
routines_in_lifted q from [] = refl
routines_in_lifted q from (l ∷ ls) = ap (λ (rs : List Routine). routine_in from q l ∷ rs) (routines_in_lifted q from ls)

functions_in : (cs : List Called) → map (λ (c : Called). function_in c.lifted.now) cs ≡ map function_in (map (λ (c : Called). c.lifted.now) cs)
functions_in [] = refl
functions_in (c ∷ cs) = ap (λ (fs : List GFunction.Function). function_in c.lifted.now ∷ fs) (functions_in cs)

-- what is given of a program, and what it gives of a lifted function of it
record Given (source : GProgram.Program) (from to : Names) (cs : List Called) : Type 0 where
  texts : AreTexts source from to
  names : HasNames (program_by from source)
  all : All (λ (c : Called). There source.items.items (function_in c.lifted.now)) cs
  whole : map (λ (c : Called). function_in c.lifted.now) cs ≡ cps_functions source.items.items

module _ (from to : Names) (cs : List Called) where
  abbrev GivesRoutine : LiftedFunction → GProgram.Program → Type 0
  GivesRoutine l source = Given source from to cs → There source.items.items (function_in l) → IsRoutine source.names from to (program_by from source) cs l (routine_in from (program_by from source) l)

  abbrev GivesComplete : LiftedFunction → GProgram.Program → Type 0
  GivesComplete l source = Given source from to cs → There source.items.items (function_in l) → IsComplete from (program_by from source) l (routine_in from (program_by from source) l)

  module _ (source : GProgram.Program) (given : Given source from to cs) where
    routine_one : (l : LiftedFunction) → Known source l → IsRoutine source.names from to (program_by from source) cs l (routine_in from (program_by from source) l)
    routine_one l k = subst (GivesRoutine l) k.of (λ d there. is_routine l k.formed from to cs d.texts d.names d.all d.whole there) given k.there

    complete_one : (l : LiftedFunction) → Known source l → IsComplete from (program_by from source) l (routine_in from (program_by from source) l)
    complete_one l k = subst (GivesComplete l) k.of (λ d there. is_complete l k.formed from to cs d.texts d.names d.all d.whole there) given k.there

    cps_one : (l : LiftedFunction) → Known source l → IsCps l
    cps_one l k = k.there.cps

module _ (l : LiftedProgram) (from to : Names) (cs : List Called) (texts : AreTexts l.source.now from to) (names : HasNames (program_of l.source.now)) (is : map (λ (c : Called). c.lifted.now) cs ≡ l.functions.items)
    (g : Gathered l) where
  program_is : program_by from l.source.now ≡ program_of l.source.now
  program_is = texts.within from (record { spelled = texts.spelling.spells.inside })

  whole : map (λ (c : Called). function_in c.lifted.now) cs ≡ cps_functions l.source.now.items.items
  whole = functions_in cs ∙ (ap (map function_in) is ∙ g.whole)

  given : Given l.source.now from to cs
  given = record {
    texts = texts;
    names = subst HasNames (sym program_is) names;
    all = unmapped (λ (c : Called). function_in c.lifted.now) (There l.source.now.items.items) cs (subst (All (There l.source.now.items.items)) (sym whole) (all_there l.source.now.items.items));
    whole = whole;
  }

  routines_of : (q : Program) → routines_in q (program_by from l.source.now) ≡ map (routine_in from q) l.functions.items
  routines_of q =
      routines_are q from l.source.now.items.items
      ∙ (ap (map (λ (f : GFunction.Function). routine_of q (function_of from f))) (sym g.whole) ∙ routines_in_lifted q from l.functions.items)

  all_routines : AreRoutines l from to cs
  all_routines = record {
    routines = subst (λ (q : Program). routines_in q q ≡ map (routine_in from q) l.functions.items) program_is (routines_of (program_by from l.source.now));
    each = subst (λ (q : Program). All (λ (f : LiftedFunction). IsRoutine l.source.now.names from to q cs f (routine_in from q f)) l.functions.items) program_is
        (of_each (Known l.source.now) (λ (f : LiftedFunction). IsRoutine l.source.now.names from to (program_by from l.source.now) cs f (routine_in from (program_by from l.source.now) f)) (routine_one from to cs l.source.now given) l.functions.items g.each);
  }

  all_complete : AreComplete l from cs
  all_complete = record {
    each = subst (λ (q : Program). All (λ (f : LiftedFunction). IsComplete from q f (routine_in from q f)) l.functions.items) program_is
        (of_each (Known l.source.now) (λ (f : LiftedFunction). IsComplete from (program_by from l.source.now) f (routine_in from (program_by from l.source.now) f)) (complete_one from to cs l.source.now given) l.functions.items g.each);
    cps = of_each (Known l.source.now) IsCps (cps_one from to cs l.source.now given) l.functions.items g.each;
    entries = subst (λ (q : Program). (x : Text) → is_cps (function_named q x) ≡ is_some (find from cs x)) program_is (entry_found l.source.now from given.names cs given.all given.whole);
  }

pub lifted_are_routines : LiftedAreRoutines
lifted_are_routines l from to cs texts are names is = ∥∥₁_map (gathered l are) (all_routines l from to cs texts names is)

pub lifted_are_complete : LiftedAreComplete
lifted_are_complete l from to cs texts are names is = ∥∥₁_map (gathered l are) (all_complete l from to cs texts names is)
