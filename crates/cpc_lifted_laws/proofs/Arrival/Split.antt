-- Which values arrive at the nodes of a program, as far as its code goes.
use Rattle.std.proofs.Common.{◌≡◌, ℕ, suc, Bool, true, false, not, cond, [], ◌∷◌, slice_get, bytes_eq, map, Option, Some, None, option_map, refl, sym, ◌∙◌, ap, subst}
use Rattle.cpc_base.specs.Bytes.{Text}
use Rattle.cpc_num.specs.declared.kinds.Kind.TheVariants.{Int}
use Rattle.cpc_tree.specs.Points.{Point, Here, Arrival, End, Found, Nothing, found}
use Rattle.cpc_tree.specs.Syntax.{Ty, TyVoid, TyInt, TyCondvar, TyPointer, TyCode, TyStruct, TyArray, StructItem, GlobalItem, PrototypeItem, FunctionItem, Function, Program}
use Rattle.cpc_tree.specs.Registers.{scope_in_function}
use Rattle.cpc_tree.specs.Typing.{Scope, ALocal, AGlobal, AFunction, NotMeant, named, item_named, function_named, parameter_type, is_scalar}
use Rattle.cpc_store.specs.Store.{Value, Unset, Whole, Null, At as Pointer, Code, Cond}
use Rattle.cpc_meaning.specs.Act.{Stood, AtStatement, AtArrival, AtEnd}
use Rattle.cpc_meaning.specs.Threads.{is_cps_mode}
use Rattle.cpc_meaning.specs.Ways.{Manner, InPlace, ByFrame, AsCps, manner_of, manner_at, arrives_later, only_if, arrival_from, ways}
use Rattle.cpc_check_laws.specs.Kept.Fits.{Fits}
use Rattle.cpc_forms.specs.Flow.{Place}
use Rattle.cpc_forms.specs.Graph.{Node, node_of, graph_of, graph_if, graph_where, at_node}
use Rattle.cpc_forms.specs.Order.{number_of}
use Rattle.cpc_forms.specs.Split.{Split, split_of, splits, Position, InTree, InGraph, come_to, split_node, split_form}
use Rattle.cpc_graph_laws.proofs.Formed.{mapped, node_comes}
use Rattle.cpc_graph_laws.proofs.Graphs.{node_found}
use Rattle.cpc_graph_laws.proofs.Standing.{IsIn, arrival_is_in}
use Rattle.cpc_convert_routines.specs.Arriving.{arriving_if, arriving_from, arriving_found, arriving_stood}
use Rattle.cpc_convert_routines.specs.Taken.{takes_stood}
use Rattle.cpc_convert_routines.specs.Nodes.{stands_with}
use Rattle.cpc_convert_image_laws.specs.Native.{IsHeldIf}
use Rattle.cpc_lifted_laws.specs.Accepted.Known.{Stays}
use Rattle.cpc_lifted_laws.specs.Arrival.Taken.{TakesStood, TakesNode, TakesPosition}
use Rattle.cpc_lifted_laws.specs.Arrival.Laws.{ProgramsTake, TakenValuesFit, TakenValuesWaited, LeadersTakeValues, NodesTakeValues}

-- ---- values

-- a value of a type that is not scalar is unset
no_value : (t : Ty) (v : Value) → is_scalar t ≡ false → Fits t v → v ≡ Unset
no_value t Unset plain fits = refl
no_value TyVoid (Whole kind z) plain fits = absurd (cc)
no_value TyVoid Null plain fits = absurd (cc)
no_value TyVoid (Pointer c n k) plain fits = absurd (cc)
no_value TyVoid (Code f) plain fits = absurd (cc)
no_value TyVoid (Cond n) plain fits = absurd (cc)
no_value (TyStruct tag) (Whole kind z) plain fits = absurd (cc)
no_value (TyStruct tag) Null plain fits = absurd (cc)
no_value (TyStruct tag) (Pointer c n k) plain fits = absurd (cc)
no_value (TyStruct tag) (Code f) plain fits = absurd (cc)
no_value (TyStruct tag) (Cond n) plain fits = absurd (cc)
no_value (TyArray u m) (Whole kind z) plain fits = absurd (cc)
no_value (TyArray u m) Null plain fits = absurd (cc)
no_value (TyArray u m) (Pointer c n k) plain fits = absurd (cc)
no_value (TyArray u m) (Code f) plain fits = absurd (cc)
no_value (TyArray u m) (Cond n) plain fits = absurd (cc)
no_value (TyInt kind) v plain fits = absurd (cc)
no_value TyCondvar v plain fits = absurd (cc)
no_value (TyPointer u) v plain fits = absurd (cc)
no_value (TyCode r ps) v plain fits = absurd (cc)

-- what a function gives is of the type that arrives from it
arrives_fit : (t : Ty) (v : Value) (b : Bool) → is_scalar t ≡ b → Fits t v → Fits (arriving_if b t) v
arrives_fit t v true e fits = fits
arrives_fit t v false e fits = subst (Fits (TyInt Int)) (sym (no_value t v e fits)) refl

-- ---- names

-- a name that means nothing is that of no function
item_none : (n : ℕ) (items : Program) (x : Text) → item_named n items x ≡ NotMeant → function_named items x ≡ None
item_none n [] x e = refl
item_none n (StructItem tag fs ∷ items) x e = item_none n items x e
item_none n (GlobalItem g u start ∷ items) x e = go (bytes_eq g x) e (λ i. item_none (suc n) items x i)
  where
    go : (b : Bool) → cond b (AGlobal n u) (item_named (suc n) items x) ≡ NotMeant → (item_named (suc n) items x ≡ NotMeant → function_named items x ≡ None) → function_named items x ≡ None
    go true i deeper = absurd (cc)
    go false i deeper = deeper i
item_none n (PrototypeItem mode f r ps ∷ items) x e = go (bytes_eq f x) e (λ i. item_none n items x i)
  where
    go : (b : Bool) → cond b (AFunction mode r (map parameter_type ps)) (item_named n items x) ≡ NotMeant → (item_named n items x ≡ NotMeant → function_named items x ≡ None) → function_named items x ≡ None
    go true i deeper = absurd (cc)
    go false i deeper = deeper i
item_none n (FunctionItem f ∷ items) x e = go (bytes_eq f.called x) e (λ i. item_none n items x i)
  where
    go : (b : Bool) → cond b (AFunction f.mode f.result (map parameter_type f.parameters)) (item_named n items x) ≡ NotMeant → (item_named n items x ≡ NotMeant → function_named items x ≡ None) → cond b (Some f) (function_named items x) ≡ None
    go true i deeper = absurd (cc)
    go false i deeper = deeper i

named_none : (p : Program) (scope : Scope) (x : Text) → named p scope x ≡ NotMeant → function_named p x ≡ None
named_none p [] x e = item_none 0 p x e
named_none p (l ∷ scope) x e = go (bytes_eq l.called x) e (λ i. named_none p scope x i)
  where
    go : (b : Bool) → cond b (ALocal l.slot l.type) (named p scope x) ≡ NotMeant → (named p scope x ≡ NotMeant → function_named p x ≡ None) → function_named p x ≡ None
    go true i deeper = absurd (cc)
    go false i deeper = deeper i

-- ---- nodes

-- where a graph is, it is that of the function of the name
split_is : (p : Program) (x : Text) (f : Function) (s : Split) → function_named p x ≡ Some f → splits p x ≡ Some s → split_of (graph_of p f) ≡ s
split_is p x f s is e = go (is_cps_mode f.mode) (sym (ap (λ o. option_map split_of (graph_where p o)) is) ∙ e)
  where
    go : (b : Bool) → option_map split_of (graph_if b p f) ≡ Some s → split_of (graph_of p f) ≡ s
    go true i = cc
    go false i = absurd (cc)

module _ (p : Program) (x : Text) (f : Function) (is : function_named p x ≡ Some f) where
  -- what is taken where the value of a statement arrives
  taken_stood : (m : Manner) (s : Found) (v : Value) → arrives_later m ≡ true → (m ≡ AsCps → Fits (arriving_found p s) v) → TakesStood p m (AtArrival s) v
  taken_stood InPlace s v later fits = absurd (cc)
  taken_stood ByFrame s v later fits = tt
  taken_stood AsCps s v later fits = fits refl

  -- the node at which it arrives
  node_takes : (point : Point) (m : ℕ) (s : Found) (v : Value) → option_map (number_of f.body) (arrival_from p (Some f) point) ≡ Some m → (node_of p f point).stood ≡ AtStatement s
      → (manner_of p (node_of p f point).scope s ≡ AsCps → Fits (arriving_found p s) v) → TakesNode p (slice_get (graph_of p f).nodes m) v
  node_takes (Here path) m s v e stood fits = go (arrives_later (manner_at p f path)) refl (arrival_is_in p f (Here path)) e
    where
      same : found f.body path ≡ s
      same = cc

      go : (b : Bool) → arrives_later (manner_at p f path) ≡ b → IsIn f.body (only_if b (Some (Arrival path))) → option_map (number_of f.body) (only_if b (Some (Arrival path))) ≡ Some m → TakesNode p (slice_get (graph_of p f).nodes m) v
      go false later i k = absurd (cc)
      go true later i k =
          let number : number_of f.body (Arrival path) ≡ m = cc in
          subst (λ n. TakesNode p (slice_get (graph_of p f).nodes n) v) number
          (subst (λ o. TakesNode p o v) (sym (node_found p f (Arrival path) i))
          (taken_stood (manner_at p f path) (found f.body path) v later (λ cps. subst (λ s. Fits (arriving_found p s) v) (sym same) (fits (sym (ap (λ s. manner_of p (scope_in_function f path) s) same) ∙ cps)))))
  node_takes (Arrival path) m s v e stood fits = absurd (cc)
  node_takes End m s v e stood fits = absurd (cc)

  -- what stands at a node
  abbrev Stands : Option Split → Place → ℕ → Found → Type 0
  Stands o l n s = at_node (AtStatement Nothing) (λ (k : Node). k.stood) (split_node o n) ≡ AtStatement s

  graph_takes : (o : Option Split) → splits p x ≡ o → (l : Place) (n : ℕ) (back : Position) (s : Found) (v : Value) → option_map (come_to o l) (at_node None (λ (k : Node). k.arrival) (split_node o n)) ≡ Some back
      → at_node (AtStatement Nothing) (λ (k : Node). k.stood) (split_node o n) ≡ AtStatement s → (manner_of p (at_node [] (λ (k : Node). k.scope) (split_node o n)) s ≡ AsCps → Fits (arriving_found p s) v) → TakesPosition p x back v
  graph_takes None e l n back s v arrival stood fits = absurd (cc)
  graph_takes (Some sp) e l n back s v arrival stood fits = by (slice_get sp.graph.nodes n) refl arrival stood fits
    where
      graph : split_of (graph_of p f) ≡ sp
      graph = split_is p x f sp is e

      by : (o : Option Node) → slice_get sp.graph.nodes n ≡ o → option_map (come_to (Some sp) l) (at_node None (λ (k : Node). k.arrival) o) ≡ Some back
          → at_node (AtStatement Nothing) (λ (k : Node). k.stood) o ≡ AtStatement s → (manner_of p (at_node [] (λ (k : Node). k.scope) o) s ≡ AsCps → Fits (arriving_found p s) v) → TakesPosition p x back v
      by None i arrival stood fits = absurd (cc)
      by (Some node) i arrival stood fits =
          let to = mapped (come_to (Some sp) l) node.arrival back arrival in
          let m = to.0 in
          let from = node_comes p f n node (ap (λ (g : Split). slice_get g.graph.nodes n) graph ∙ i) in
          subst (λ b. TakesPosition p x b v) to.2
          (subst (λ o. TakesNode p (split_node o m) v) (sym e)
          (subst (λ (g : Split). TakesNode p (slice_get g.graph.nodes m) v) graph
          (node_takes from.0 m s v (ap (λ (k : Node). k.arrival) from.2 ∙ to.1) (ap (λ (k : Node). k.stood) from.2 ∙ stood) (λ cps. fits (sym (ap (λ (k : Node). manner_of p k.scope s) from.2) ∙ cps)))))

  -- a value that is taken where that of a statement arrives
  pub taken_back : (point back : Position) (s : Found) (v : Value) → (split_form p).code.arrival x point ≡ Some back → (split_form p).code.stood x point ≡ AtStatement s
      → (manner_of p ((split_form p).code.scope x point) s ≡ AsCps → Fits (arriving_found p s) v) → TakesPosition p x back v
  taken_back (InTree b) back s v arrival stood fits = let to = mapped (λ (to : Point). InTree to) ((ways p).code.arrival x b) back arrival in subst (λ a. TakesPosition p x a v) to.2 tt
  taken_back (InGraph l n) back s v arrival stood fits = graph_takes (splits p x) refl l n back s v arrival stood fits

pub programs_take : ProgramsTake
programs_take p = record {
  called = λ x f point to y es mode r ps g is stood e k back a v fits.
      taken_back p x f is point back _ v a stood (λ cps. subst (λ o. Fits (arriving_from o) v) (sym k) (arrives_fit g.result v (is_scalar g.result) refl fits));
  valued = λ x f point to e es is stood no back a v fits. taken_back p x f is point back _ v a stood (λ cps. absurd (no cps));
  waits = λ x f point to y es prim is stood e k up back a v fits.
      taken_back p x f is point back _ v a stood (λ cps. subst (λ o. Fits (arriving_from o) v) (sym (named_none p ((split_form p).code.scope x point) y e)) fits);
  sections = λ x f point to y es is stood back a v fits. taken_back p x f is point back _ v a stood (λ cps. fits);
}

-- ---- what is taken at a leader

split_there : (p : Program) (f : Function) → function_named p f.called ≡ Some f → is_cps_mode f.mode ≡ true → splits p f.called ≡ Some (split_of (graph_of p f))
split_there p f is mode = ap (λ o. option_map split_of (graph_where p o)) is ∙ ap (λ b. option_map split_of (graph_if b p f)) mode

fits_stood : (p : Program) (m : Manner) (s : Stood) (v : Value) → TakesStood p m s v → takes_stood m s ≡ true → Fits (arriving_stood p m s) v
fits_stood p AsCps (AtArrival x) v fits e = fits
fits_stood p InPlace s v fits e = absurd (cc)
fits_stood p ByFrame s v fits e = absurd (cc)
fits_stood p AsCps (AtStatement x) v fits e = absurd (cc)
fits_stood p AsCps AtEnd v fits e = absurd (cc)

fits_node : (p : Program) (o : Option Node) (v : Value) → TakesNode p o v → at_node false (λ (k : Node). takes_stood k.manner k.stood) o ≡ true → Fits (at_node (TyInt Int) (λ (k : Node). arriving_stood p k.manner k.stood) o) v
fits_node p None v fits e = absurd (cc)
fits_node p (Some node) v fits e = fits_stood p node.manner node.stood v fits e

pub taken_values_fit : TakenValuesFit
taken_values_fit p f is mode n v takes e = fits_node p (slice_get (graph_of p f).nodes n) v (subst (λ o. TakesNode p (split_node o n) v) (split_there p f is mode) takes) e

pub taken_values_waited : TakenValuesWaited
taken_values_waited p f is mode l n node x v e stood has takes =
    let here = subst (λ o. TakesNode p o v) e (subst (λ o. TakesNode p (split_node o n) v) (split_there p f is mode) takes) in
    by node.manner refl (subst (λ s. TakesStood p node.manner s v) stood here)
    (sym (ap (λ o. at_node true (λ (k : Node). not (stands_with k.stood k.manner)) o) e ∙ ap (λ s. not (stands_with s node.manner)) stood) ∙ has)
  where
    by : (m : Manner) → node.manner ≡ m → TakesStood p m (AtArrival x) v → not (stands_with (AtArrival x) m) ≡ true → node.manner ≡ AsCps
    by InPlace i h g = absurd h
    by ByFrame i h g = absurd (cc)
    by AsCps i h g = i

-- ---- at frames of which it is known what is needed

pub leaders_take_values : LeadersTakeValues
leaders_take_values p f is mode n slots o fine v e takes = taken_values_fit p f is mode n v (fine.takes v e) takes

pub nodes_take_values : NodesTakeValues
nodes_take_values p f is mode l n slots o fine node x e stood has v i = (subst (IsHeldIf (Stays p)) i fine.held, taken_values_waited p f is mode l n node x v e stood has (fine.takes v i))
