-- What is gathered of a split function is what the definitions make of it.
use Rattle.std.proofs.Common.{◌≡◌, ℕ, suc, ◌<◌, ◌≤◌, List, [], ◌∷◌, map, take, length, get_or, refl, sym, ap, ◌∙◌, subst, Option, option_map}
use Rattle.std.specs.List.{AllByRecursion-prop}
use Rattle.std.proofs.lemmas.List.{length-map, take_all}
use Rattle.std.proofs.Math.Logic.{∥∥₁_elim, ∥∥₁_map}
use Rattle.std.proofs.Props.{props}
use Rattle.cpc_tree.specs.Erase.{Names, function_of}
use Rattle.cpc_tree.specs.Syntax as T
use Rattle.cpc_tree.specs.Registers.{variables}
use Rattle.cpc_check_rules.specs.Apart.{AreApart}
use Rattle.cpc_forms.specs.Graph.{graph_of}
use Rattle.cpc_forms.specs.Flow.{flow_of}
use Rattle.cpc_forms.specs.Split.{Split, split_of, owners_from}
use Rattle.cpc_forms.proofs.Owners.{owners_long}
use Rattle.cpc_lift_laws.specs.Search as S
use Rattle.cpc_lift_laws.specs.Nodes.{ways_of_nodes, uses_of_nodes}
use Rattle.cpc_lift_closures.specs.declared.links.Link.{Link}
use Rattle.cpc_lift_closures.specs.Rows.{links_of}
use Rattle.cpc_forms_code.specs.declared.boxed.Variable.{Variable}
use Rattle.cpc_forms_code.specs.declared.graph.Node.{Node}
use Rattle.cpc_forms_code.specs.declared.split.Owner.{Owner}
use Rattle.cpc_forms_code.specs.declared.split.SplitFunction.{SplitFunction}
use Rattle.cpc_forms_code.specs.declared.lifted.LiftedFunction.{LiftedFunction}
use Rattle.cpc_forms_code.specs.Programs.{program_by, IsSpelled}
use Rattle.cpc_forms_code.specs.Seen.{AreNamed}
use Rattle.cpc_forms_code.specs.Points.{IsBoxed, marked_from, variable_seen}
use Rattle.cpc_forms_code.specs.Graphs.{node_seen}
use Rattle.cpc_forms_code.specs.Splits.{place_of, places_of, split_seen, IsSplit}
use Rattle.cpc_forms_code.specs.Lifts.{position_owner, positions_from, code_of, boxes_among, boxes_of, ways_in, uses_in, IsLifted}
use Rattle.cpc_lift.specs.Gathered.{ways_along, uses_along}
use Rattle.cpc_lift.proofs.Along.{ways_are, uses_are}
use Rattle.cpc_lift.proofs.Ranged.{Within, AllWithin, OwnersBelow, owners_below, ways_within, all_uses_within}

marked_long : (f : T.Function) (n : ℕ) (vs : List T.Variable) → length (marked_from f n vs) ≡ length vs
marked_long f n [] = refl
marked_long f n (v ∷ vs) = ap (λ j. suc j) (marked_long f (suc n) vs)

within_prop : (a b : ℕ) (ws : List S.Link) → IsProp (AllWithin a b ws)
within_prop a b ws = AllByRecursion-prop (Within a b) (λ w. hlevel props) ws

-- the parts of a split function
abbrev pub Boxed : SplitFunction → Type 0
Boxed s = IsBoxed s.graph.now.boxed.now.source.now s.graph.now.boxed.now.function.now s.graph.now.boxed.now.variables.items s.graph.now.boxed.now.points.items

abbrev pub Parted : SplitFunction → Type 0
Parted s = IsSplit s.graph.now s.owners.items s.leaders.items

abbrev pub Told : SplitFunction → Names → Type 0
Told s names = IsSpelled names s.graph.now.boxed.now.source.now s.graph.now.boxed.now.function.now

-- there are as many owners as nodes, and as many nodes as in the graph that the definitions make
module _ (s : SplitFunction) (parted : Parted s) (names : Names) (told : Told s names) where
  abbrev program : T.Program
  program = program_by names s.graph.now.boxed.now.source.now

  abbrev function : T.Function
  function = function_of names s.graph.now.boxed.now.function.now

  abbrev seen : Split
  seen = split_seen names s.graph.now s.owners.items s.leaders.items

  is : seen ≡ split_of (graph_of program function)
  is = parted.split names told

  nodes_long : length s.graph.now.nodes.items ≡ length (graph_of program function).nodes
  nodes_long = sym (length-map s.graph.now.nodes.items (node_seen names s.graph.now.boxed.now.variables.items)) ∙ ap (λ (x : Split). length x.graph.nodes) is

  places_are : places_of s.owners.items ≡ owners_from (flow_of (graph_of program function)) 0 (length (graph_of program function).nodes)
  places_are = ap (λ (x : Split). x.owners) is

  places_long : length seen.graph.nodes ≡ length (places_of s.owners.items)
  places_long =
      ap (λ (x : Split). length x.graph.nodes) is
      ∙ (sym (owners_long (flow_of (graph_of program function)) 0 (length (graph_of program function).nodes)) ∙ sym (ap (λ os. length os) places_are))

  as_many : length s.graph.now.nodes.items ≡ length s.owners.items
  as_many =
      sym (length-map s.graph.now.nodes.items (node_seen names s.graph.now.boxed.now.variables.items))
      ∙ (places_long ∙ length-map s.owners.items (option_map place_of))

  owned : OwnersBelow (suc (length s.graph.now.nodes.items)) (places_of s.owners.items)
  owned = subst (λ n. OwnersBelow (suc n) (places_of s.owners.items)) (sym nodes_long) (subst (OwnersBelow (suc (length (graph_of program function).nodes))) (sym places_are) (owners_below program function))

  ways_found : ways_along (places_of s.owners.items) seen.graph.nodes (places_of s.owners.items) ≡ ways_in program function
  ways_found =
      sym (ways_are program seen function.called [] [] seen.graph.nodes (places_of s.owners.items) 0 refl refl places_long)
      ∙ ap (λ (x : Split). ways_of_nodes (code_of program x) function.called position_owner (positions_from 0 x.owners)) is

  uses_found : (boxes : List ℕ) → boxes ≡ boxes_of function → uses_along boxes seen.graph.nodes (places_of s.owners.items) ≡ uses_in program function
  uses_found boxes e =
      sym (uses_are program seen function.called boxes [] seen.graph.nodes (places_of s.owners.items) 0 refl refl places_long)
      ∙ (ap (λ (x : Split). uses_of_nodes (code_of program x) function.called position_owner boxes (positions_from 0 x.owners)) is
      ∙ ap (λ bs. uses_of_nodes (code_of program (split_of (graph_of program function))) function.called position_owner bs (positions_from 0 (split_of (graph_of program function)).owners)) e)

-- what the code gathers
module _ (s : SplitFunction) (boxed : ∥ Boxed s ∥₁) (parted : ∥ Parted s ∥₁) where
  -- these are the ways
  abbrev pub WaysAre : List Link → Type 0
  WaysAre ws =
      (names : Names) → links_of ws ≡ ways_along (places_of s.owners.items) (map (node_seen names s.graph.now.boxed.now.variables.items) s.graph.now.nodes.items) (places_of s.owners.items)

  -- these are the boxes
  abbrev pub BoxesAre : List ℕ → Type 0
  BoxesAre boxes = (names : Names) → boxes ≡ boxes_among 0 (map (variable_seen names) s.graph.now.boxed.now.variables.items)

  -- and these the uses
  abbrev pub UsesAre : List ℕ → List Link → Type 0
  UsesAre boxes us =
      (names : Names) → AreApart names → AreNamed names s.graph.now.boxed.now.variables.items
      → links_of us ≡ uses_along boxes (map (node_seen names s.graph.now.boxed.now.variables.items) s.graph.now.nodes.items) (places_of s.owners.items)

  -- so it is where the code sees them as slices
  pub ways_told : (ns : List Node) (os : List (Option Owner)) (vs : List Variable) → ns ≡ s.graph.now.nodes.items → os ≡ s.owners.items → vs ≡ s.graph.now.boxed.now.variables.items
      → (ws : List Link) → ((names : Names) → links_of ws ≡ ways_along (places_of os) (map (node_seen names vs) ns) (places_of os)) → WaysAre ws
  ways_told ns os vs e f g ws h = λ names.
      h names ∙ (ap (λ x. ways_along (places_of os) (map (node_seen names vs) x) (places_of os)) e
      ∙ (ap (λ x. ways_along (places_of x) (map (node_seen names vs) s.graph.now.nodes.items) (places_of x)) f
      ∙ ap (λ x. ways_along (places_of s.owners.items) (map (node_seen names x) s.graph.now.nodes.items) (places_of s.owners.items)) g))

  pub boxes_told : (vs : List Variable) → vs ≡ s.graph.now.boxed.now.variables.items → (boxes : List ℕ) → ((names : Names) → boxes ≡ boxes_among 0 (map (variable_seen names) vs)) → BoxesAre boxes
  boxes_told vs e boxes h = λ names. h names ∙ ap (λ x. boxes_among 0 (map (variable_seen names) x)) e

  pub uses_told : (ns : List Node) (os : List (Option Owner)) (vs : List Variable) → ns ≡ s.graph.now.nodes.items → os ≡ s.owners.items → vs ≡ s.graph.now.boxed.now.variables.items
      → (bs boxes : List ℕ) → bs ≡ boxes → (us : List Link)
      → ((names : Names) → AreApart names → AreNamed names vs → links_of us ≡ uses_along bs (map (node_seen names vs) ns) (places_of os)) → UsesAre boxes us
  uses_told ns os vs e f g bs boxes i us h = λ names apart named.
      h names apart (subst (AreNamed names) (sym g) named) ∙ (ap (λ x. uses_along bs (map (node_seen names vs) x) (places_of os)) e
      ∙ (ap (λ x. uses_along bs (map (node_seen names vs) s.graph.now.nodes.items) (places_of x)) f
      ∙ (ap (λ x. uses_along bs (map (node_seen names x) s.graph.now.nodes.items) (places_of s.owners.items)) g
      ∙ ap (λ x. uses_along x (map (node_seen names s.graph.now.boxed.now.variables.items) s.graph.now.nodes.items) (places_of s.owners.items)) i)))

  -- there are as many owners as nodes
  pub many_owners : length s.graph.now.nodes.items ≡ length s.owners.items
  many_owners = ∥∥₁_elim boxed (hlevel props) (λ b. ∥∥₁_elim parted (hlevel props) (λ q. as_many s q b.names b.spelled))

  pub ways_ranged : (ws : List Link) → WaysAre ws → AllWithin (suc (length s.graph.now.nodes.items)) (suc (length s.graph.now.nodes.items)) (links_of ws)
  ways_ranged ws are =
      let a = suc (length s.graph.now.nodes.items) in
      ∥∥₁_elim boxed (within_prop a a (links_of ws)) (λ b. ∥∥₁_elim parted (within_prop a a (links_of ws)) (λ q.
      subst (AllWithin a a) (sym (are b.names))
      (ways_within a (places_of s.owners.items) (owned s q b.names b.spelled) (map (node_seen b.names s.graph.now.boxed.now.variables.items) s.graph.now.nodes.items) (places_of s.owners.items) (owned s q b.names b.spelled))))

  pub uses_ranged : (boxes : List ℕ) → BoxesAre boxes → (us : List Link) → UsesAre boxes us → AllWithin (suc (length s.graph.now.nodes.items)) (length s.graph.now.boxed.now.variables.items) (links_of us)
  uses_ranged boxes are us found =
      let a = suc (length s.graph.now.nodes.items) in
      let vs = s.graph.now.boxed.now.variables.items in
      ∥∥₁_elim boxed (within_prop a (length vs) (links_of us)) (λ b. ∥∥₁_elim parted (within_prop a (length vs) (links_of us)) (λ q.
      subst (AllWithin a (length vs)) (sym (found b.names b.spelled.spells.apart (b.named b.names b.spelled)))
      (all_uses_within a b.names vs boxes (map (variable_seen b.names) vs) (are b.names) (length-map vs (variable_seen b.names)) s.graph.now.nodes.items (places_of s.owners.items) (owned s q b.names b.spelled))))

  -- the closures that are made of them are those of the function
  pub is_lifted : (boxes : List ℕ) → BoxesAre boxes → (ws us : List Link) → WaysAre ws → UsesAre boxes us
      → (rows : List (List ℕ)) → length rows ≡ suc (length s.graph.now.nodes.items)
      → ((l : ℕ) → l < suc (length s.graph.now.nodes.items) → get_or rows l [] ≡ S.closure (links_of ws) (links_of us) (length s.graph.now.boxed.now.variables.items) l)
      → ∥ IsLifted s rows ∥₁
  is_lifted boxes are ws us ways uses rows long closures =
      ∥∥₁_elim boxed (hlevel props) (λ b. ∥∥₁_map parted (λ q. record {
        long = long;
        closures = λ names told l below.
            let p = program_by names s.graph.now.boxed.now.source.now in
            let f = function_of names s.graph.now.boxed.now.function.now in
            let vs = s.graph.now.boxed.now.variables.items in
            let marks = b.variables names told in
            let box : boxes ≡ boxes_of f = are names ∙ ap (boxes_among 0) marks in
            let w : links_of ws ≡ ways_in p f = ways names ∙ ways_found s q names told in
            let u : links_of us ≡ uses_in p f = uses names told.spells.apart (b.named names told) ∙ uses_found s q names told boxes box in
            let v : length vs ≡ length (variables f) = sym (length-map vs (variable_seen names)) ∙ (ap (λ ms. length ms) marks ∙ marked_long f 0 (variables f)) in
            closures l (subst (λ n. l < n) long below)
            ∙ (ap (λ x. S.closure x (links_of us) (length vs) l) w
            ∙ (ap (λ x. S.closure (ways_in p f) x (length vs) l) u
            ∙ ap (λ n. S.closure (ways_in p f) (uses_in p f) n l) v));
      }))

map_both : (xs : List LiftedFunction) → map (λ (l : LiftedFunction). l.split.now.graph.now.boxed.now.function.now) xs ≡ map (λ (s : SplitFunction). s.graph.now.boxed.now.function.now) (map (λ (l : LiftedFunction). l.split.now) xs)
map_both [] = refl
map_both (x ∷ xs) = ap (λ l. x.split.now.graph.now.boxed.now.function.now ∷ l) (map_both xs)

-- the functions that are lifted are those that were split
pub functions_same : (ls : List LiftedFunction) (ss : List SplitFunction) (i : ℕ) → map (λ (l : LiftedFunction). l.split.now) ls ≡ take i ss → length ss ≤ i
    → map (λ (l : LiftedFunction). l.split.now.graph.now.boxed.now.function.now) ls ≡ map (λ (s : SplitFunction). s.graph.now.boxed.now.function.now) ss
functions_same ls ss i e h = map_both ls ∙ ap (map (λ (s : SplitFunction). s.graph.now.boxed.now.function.now)) (e ∙ take_all i ss h)
