-- Where a cps statement stands: what it is, the node at which its value arrives, and what the piece of that node keeps.
use Rattle.std.proofs.Common.{◌≡◌, ℕ, Bool, true, false, cond, List, [], ◌∷◌, bytes_eq, slice_get, Option, Some, None, option_map, refl, sym, ◌∙◌, ap, subst}
use Rattle.cpc_base.specs.Bytes.{Text}
use Rattle.cpc_base.specs.declared.stop.Dialect.TheVariants as D
use Rattle.cpc_check_laws.specs.Sound.Typed.{AllGet, Calls, CallsHost, CallsFunction, CallsPrimitive, CallsPointer, FoundTyped, is_variable}
use Rattle.cpc_tree.specs.declared.program.Mode.{Mode}
use Rattle.cpc_tree.specs.declared.program.Mode.TheVariants.{Native, Detached, Extern, Cps}
use Rattle.cpc_tree.specs.Lists.{holds_number}
use Rattle.cpc_tree.specs.Points.{Point, Here, Arrival, End, Found, Simple, found}
use Rattle.cpc_tree.specs.Primitives.{Primitive, primitive_named}
use Rattle.cpc_tree.specs.Registers.{scope_in_function}
use Rattle.cpc_tree.specs.Syntax.{Ty, Expr, ENamed, Exprs, Stmt, Call, Detach, FunctionItem, Function, Program}
use Rattle.cpc_tree.specs.Typing.{Scope, Meant, ALocal, AGlobal, AFunction, NotMeant, named, item_named, function_named, parameter_types}
use Rattle.cpc_meaning.specs.Act.{AtStatement}
use Rattle.cpc_meaning.specs.Threads.{is_cps_mode}
use Rattle.cpc_meaning.specs.Ways.{InPlace, ByFrame, AsCps, primitive_manner, meant_manner, manner_of, ways}
use Rattle.cpc_convert_common.specs.Members.{Has}
use Rattle.cpc_forms.specs.Flow.{Place, At}
use Rattle.cpc_forms.specs.Graph.{Node, node_of, graph_of}
use Rattle.cpc_forms.specs.Split.{InGraph, position_arrival, split_form}
use Rattle.cpc_graph_laws.specs.Laws.{flow_in}
use Rattle.cpc_graph_laws.proofs.Formed.{node_comes}
use Rattle.cpc_graph_laws.proofs.Going.{waits_arrive}
use Rattle.cpc_graph_laws.proofs.Leaders.{inside}
use Rattle.cpc_graph_laws.proofs.Marked.{leaders_are_listed}
use Rattle.cpc_graph_laws.proofs.MoreFacts.{cps_statements_wait}
use Rattle.cpc_convert_routines.specs.Routines.{routine_of, closure_of}
use Rattle.cpc_chains_event.proofs.Boxing.{held_has}
use Rattle.cpc_lifted_laws.specs.Accepted.Names.{HasNames}
use Rattle.cpc_lifted_laws.proofs.Accepted.Lifted.{programs_are_closed}
use Rattle.cpc_lifted_laws.specs.Piece.Known.{CpsKnown}
use Rattle.cpc_chains_laws.specs.Piece.Stood.{NodeAt}
use Rattle.cpc_chains_laws.specs.Wait.Waiting.{Waiting, CallsCps, CallsWait, Submits}
use Rattle.cpc_chains_laws.specs.Wait.Laws.{CpsStatementsWait}
use Rattle.cpc_chains_laws.proofs.Piece.Filled.{what_stands, no_arrival, no_end}
use Rattle.cpc_chains_laws.proofs.Piece.Ways.{is_split, kept_is, stands_there}

-- ---- the arrival

module _ (p : Program) (f : Function) (known : CpsKnown p f) (l : Place) (n : ℕ) (at : NodeAt p f l n) where
  -- the node at which the value arrives, a leader, and what its frames keep is kept here
  pub record Behind : Type 0 where
    pub back : ℕ
    pub is_arrival : at.node.arrival ≡ Some back
    pub is_back : (split_form p).code.arrival f.called (InGraph l n) ≡ Some (InGraph (At back) back)
    pub leads : Has back (routine_of p f).split.leaders
    pub keeps : (k : ℕ) → holds_number (closure_of (routine_of p f) (At back)) k ≡ true → holds_number (closure_of (routine_of p f) l) k ≡ true

  pub arrival_there : (x : Found) → at.node.stood ≡ AtStatement x → at.node.manner ≡ AsCps → Behind
  arrival_there x stood manner =
      let w = (cps_statements_wait p f n at.node x at.is_node stood manner).3 in
      let back = w.0 in
      let is_back : (split_form p).code.arrival f.called (InGraph l n) ≡ Some (InGraph (At back) back) =
      ap (λ o. position_arrival (λ point. (ways p).code.arrival f.called point) o (InGraph l n)) (is_split p f known)
      ∙ (waits_arrive p f (λ point. (ways p).code.arrival f.called point) l n at.node x at.is_node stood manner ∙ ap (option_map (λ m. InGraph (At m) m)) w.1) in
      record {
        back = back;
        is_arrival = w.1;
        is_back = is_back;
        leads = held_has (routine_of p f).split.leaders back (leaders_are_listed (flow_in p f) (inside p f) back ∙ w.3);
        keeps = λ k h. sym (kept_is p f known l at.keeps n k)
            ∙ ((programs_are_closed p).inside f.called).over (InGraph l n) (InGraph (At back) back) k (stands_there p f known l n at) is_back (kept_is p f known (At back) refl back k ∙ h);
      }

-- ---- the statement

-- the manner of a node is that of its statement
module _ (p : Program) (f : Function) (x : Found) where
  point_manner : (point : Point) → (node_of p f point).stood ≡ AtStatement x → (node_of p f point).manner ≡ manner_of p (node_of p f point).scope x
  point_manner (Here path) e = ap (manner_of p (scope_in_function f path)) (ap what_stands e)
  point_manner (Arrival path) e = absurd (no_arrival (found f.body path) x e)
  point_manner End e = absurd (no_end x e)

  pub manner_is : (n : ℕ) (node : Node) → slice_get (graph_of p f).nodes n ≡ Some node → node.stood ≡ AtStatement x → node.manner ≡ manner_of p node.scope x
  manner_is n node e stood =
      let from = node_comes p f n node e in
      subst (λ (k : Node). k.stood ≡ AtStatement x → k.manner ≡ manner_of p k.scope x) from.2 (point_manner from.0) stood

-- what is no variable's name means an item
pub item_meant : (p : Program) (scope : Scope) (x : Text) (m : Meant) → named p scope x ≡ m → is_variable m ≡ false → item_named 0 p x ≡ m
item_meant p [] x m e h = e
item_meant p (l ∷ scope) x m e h = go (bytes_eq l.called x) e (λ i. item_meant p scope x m i h)
  where
    go : (b : Bool) → cond b (ALocal l.slot l.type) (named p scope x) ≡ m → (named p scope x ≡ m → item_named 0 p x ≡ m) → item_named 0 p x ≡ m
    go true i deeper = absurd (let z : true ≡ false = ap is_variable i ∙ h in cc)
    go false i deeper = deeper i

module _ (p : Program) (names : HasNames p) (f : Function) (scope : Scope) where
  mode_cps : (g : Function) → Has (FunctionItem g) p → (r : Ty) (ps : List Ty) → item_named 0 p g.called ≡ AFunction Cps r ps → is_cps_mode g.mode ≡ true
  mode_cps g has r ps e = ap mode_in (sym (names.functions g has).meant ∙ e)
    where
      mode_in : Meant → Bool
      mode_in (AFunction mode r ps) = is_cps_mode mode
      mode_in m = false

  -- what means nothing is no function
  not_function : (x : Text) → named p scope x ≡ NotMeant → (o : Option Function) → function_named p x ≡ o → o ≡ None
  not_function x e None i = refl
  not_function x e (Some g) i =
      let there = names.there x g i in
      absurd (let z : AFunction g.mode g.result (parameter_types g) ≡ NotMeant = sym (names.functions g there.0).meant ∙ (ap (item_named 0 p) there.1 ∙ item_meant p scope x NotMeant e refl) in cc)

  module _ (to : Option Expr) where
    function_waits : (x : Text) (mode : Mode) (r : Ty) (ps : List Ty) (g : Function) (es : Exprs) → named p scope x ≡ AFunction mode r ps → function_named p x ≡ Some g → AllGet p scope (parameter_types g) es
        → manner_of p scope (Simple (Call to (ENamed x) es)) ≡ AsCps → Waiting p scope (Call to (ENamed x) es)
    function_waits x Cps r ps g es e i gets m =
        let there = names.there x g i in
        CallsCps to x es r ps g e i (record { has = there.0; mode = mode_cps g there.0 r ps (ap (item_named 0 p) there.1 ∙ item_meant p scope x (AFunction Cps r ps) e refl) }) gets
    function_waits x Native r ps g es e i gets m = absurd (let z : ByFrame ≡ AsCps = sym (ap (λ k. meant_manner k (primitive_named x)) e) ∙ m in cc)
    function_waits x Detached r ps g es e i gets m = absurd (let z : ByFrame ≡ AsCps = sym (ap (λ k. meant_manner k (primitive_named x)) e) ∙ m in cc)
    function_waits x Extern r ps g es e i gets m = absurd (let z : InPlace ≡ AsCps = sym (ap (λ k. meant_manner k (primitive_named x)) e) ∙ m in cc)

    pointer_manner : (m : Meant) (prim : Option Primitive) → is_variable m ≡ true → meant_manner m prim ≡ ByFrame
    pointer_manner (ALocal k t) prim e = refl
    pointer_manner (AGlobal k t) prim e = refl
    pointer_manner (AFunction mode r ps) prim e = absurd (cc)
    pointer_manner NotMeant prim e = absurd (cc)

    call_waits : (e : Expr) (es : Exprs) (r : Ty) → Calls D.Cpc p f.mode scope e es r → manner_of p scope (Simple (Call to e es)) ≡ AsCps → Waiting p scope (Call to e es)
    call_waits _ es _ (CallsHost x r ps _ a e b many) m = absurd (let z : InPlace ≡ AsCps = sym (ap (λ k. meant_manner k (primitive_named x)) e) ∙ m in cc)
    call_waits _ es _ (CallsFunction x mode r ps g _ own e i a b gets) m = function_waits x mode r ps g es e i gets m
    call_waits _ es _ (CallsPrimitive x prim _ e i a b d g) m =
        CallsWait to x es prim e i (sym (ap (λ k. meant_manner k (primitive_named x)) e ∙ ap primitive_manner i) ∙ m) (not_function x e (function_named p x) refl)
    call_waits (ENamed x) es _ (CallsPointer _ typed r ps _ a is_pointer e i b) m = absurd (let z : ByFrame ≡ AsCps = sym (pointer_manner (named p scope x) (primitive_named x) is_pointer) ∙ m in cc)
    call_waits e es _ (CallsPointer _ typed r ps _ a is_pointer h i b) m = absurd (cc)

  pub waiting : (s : Stmt) → FoundTyped D.Cpc p f scope (Simple s) → manner_of p scope (Simple s) ≡ AsCps → Waiting p scope s
  waiting (Call to e es) t m = call_waits to e es t.0 t.1 m
  waiting (Detach to x es) t m = Submits to x es t.1
  waiting s t m = absurd (cc)

pub cps_statements : CpsStatementsWait
cps_statements p names f n node s is stood manner typed = waiting p names f node.scope s typed (sym (manner_is p f (Simple s) n node is stood) ∙ manner)
