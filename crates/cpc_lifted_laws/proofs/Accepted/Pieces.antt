-- What the pieces of a function ask of it is had of each function of an accepted program.
use Rattle.std.proofs.Common.{◌≡◌, ◌<◌, ◌||◌, ℕ, zero, suc, Bool, true, false, List, [], ◌∷◌, ◌++◌, map, length, slice_get, Option, Some, None, refl, sym, ap, subst, arith}
use Rattle.cpc_base.specs.declared.stop.Dialect.TheVariants as D
use Rattle.cpc_tree.specs.Located.{bare}
use Rattle.cpc_tree.specs.Points.{Path, Point, Here, Arrival, End, Found, Simple, found}
use Rattle.cpc_tree.specs.Registers.{as_variable, scope_in_function}
use Rattle.cpc_tree.specs.Syntax.{Ty, TyVoid, TyInt, TyCondvar, TyPointer, TyCode, TyStruct, TyArray, Exprs, NoExpr, AndExpr, Return, Variable, Parameter, Function, Program}
use Rattle.cpc_tree.specs.Typing.{Scope, is_scalar, function_named, parameter_type, parameter_types}
use Rattle.cpc_meaning.specs.Act.{Stood, AtStatement}
use Rattle.cpc_meaning.specs.Trees.{stood_at, scope_from}
use Rattle.cpc_check_rules.specs.ItemRules.{items_breaks}
use Rattle.cpc_check_laws.specs.Sound.Suits.{converts}
use Rattle.cpc_check_laws.specs.Sound.Typed.{AllGet, FoundTyped, TypedFunction}
use Rattle.cpc_check_laws.proofs.Sound.Accepted.{accepted_is_typed}
use Rattle.cpc_check_laws.proofs.Sound.Grammar.{items_shape}
use Rattle.cpc_check_laws.proofs.Sound.Paths.{function_typed}
use Rattle.cpc_check_laws.proofs.Sound.Unbroken.{split}
use Rattle.cpc_forms.specs.Graph.{Node, at_node, graph_of, node_of}
use Rattle.cpc_forms.specs.Order.{points}
use Rattle.cpc_convert_routines.specs.Addressed.{bars, avoids_stood, AddressesAreBoxes}
use Rattle.cpc_convert_routines.specs.Taken.{any_node, is_result}
use Rattle.cpc_convert_routines.specs.Routines.{routine_of, readings_of}
use Rattle.cpc_lifted_laws.specs.Accepted.Known.{AreScalar}
use Rattle.cpc_lifted_laws.specs.Accepted.Names.{HasNames}
use Rattle.cpc_lifted_laws.specs.Accepted.Pieces.{AcceptedSuitsPieces}
use Rattle.cpc_lifted_laws.proofs.Accepted.Addressed.{found_avoids, path_held}
use Rattle.cpc_lifted_laws.proofs.Accepted.Cells.{variables_have}
use Rattle.cpc_lifted_laws.proofs.Accepted.Names.{accepted_has_names}
use Rattle.cpc_lifted_laws.proofs.Accepted.Scoped.{means_variable}

-- ---- scalar types

-- what a value is assigned to is scalar
pub converts_scalar : (t u : Ty) → converts t u ≡ true → is_scalar t ≡ true
converts_scalar (TyInt j) u e = refl
converts_scalar (TyPointer t) u e = refl
converts_scalar (TyCode r ps) u e = refl
converts_scalar TyCondvar u e = refl
converts_scalar TyVoid u e = absurd (cc)
converts_scalar (TyStruct tag) u e = absurd (cc)
converts_scalar (TyArray t n) u e = absurd (cc)

-- what arguments are assigned to is scalar
pub all_scalar : (p : Program) (scope : Scope) (ts : List Ty) (es : Exprs) → AllGet p scope ts es → AreScalar ts
all_scalar p scope [] NoExpr h = tt
all_scalar p scope (u ∷ ts) (AndExpr x es) h = (converts_scalar u h.0.type h.0.converts, all_scalar p scope ts es h.1)
all_scalar p scope [] (AndExpr x es) h = absurd h
all_scalar p scope (u ∷ ts) NoExpr h = absurd h

scalar_at : (ts : List Ty) → AreScalar ts → (k : ℕ) (t : Ty) → slice_get ts k ≡ Some t → is_scalar t ≡ true
scalar_at [] h k t e = absurd (cc)
scalar_at (u ∷ ts) h zero t e = let i : u ≡ t = cc in subst (λ t. is_scalar t ≡ true) i h.0
scalar_at (u ∷ ts) h (suc k) t e = scalar_at ts h.1 k t e

-- a parameter among the variables
parameter_at : (ps : List Parameter) (ys : List Variable) (k : ℕ) (x : Variable) → k < length ps → slice_get (map as_variable ps ++ ys) k ≡ Some x → slice_get (map parameter_type ps) k ≡ Some x.type
parameter_at [] ys k x lt e = absurd (omega (arith, lt))
parameter_at (q ∷ ps) ys zero x lt e = let i : as_variable q ≡ x = cc in ap (λ (v : Variable). Some v.type) i
parameter_at (q ∷ ps) ys (suc k) x lt e = parameter_at ps ys k x (omega (arith, lt)) e

-- ---- nodes

mapped : {A B : Type 0} (F : A → B) (xs : List A) (n : ℕ) (y : B) → slice_get (map F xs) n ≡ Some y → (x : A) × (F x ≡ y)
mapped F [] n y e = absurd (cc)
mapped F (x ∷ xs) zero y e = (x, let i : F x ≡ y = cc in i)
mapped F (x ∷ xs) (suc n) y e = mapped F xs n y e

module _ (p : Program) (names : HasNames p) (f : Function) (is : function_named p f.called ≡ Some f) (typed : TypedFunction D.Cpc p f) where
  path_typed : (path : Path) → FoundTyped D.Cpc p f (scope_in_function f path) (found f.body path)
  path_typed path = function_typed D.Cpc p f path typed.body

  -- ---- addresses

  abbrev AvoidsAt : Scope → Stood → Type 0
  AvoidsAt scope stood = avoids_stood (λ x. bars (readings_of (routine_of p f) scope x) x) stood ≡ true

  point_avoids : (point : Point) → AvoidsAt (scope_from (Some f) point) (stood_at (Some f) point)
  point_avoids (Here path) = found_avoids p names f is (scope_in_function f path) (means_variable p f path) (found f.body path) (path_typed path) (path_held f p path typed.body)
  point_avoids (Arrival path) = found_avoids p names f is (scope_in_function f path) (means_variable p f path) (found f.body path) (path_typed path) (path_held f p path typed.body)
  point_avoids End = refl

  pub addresses_are_boxes : AddressesAreBoxes p f
  addresses_are_boxes n node e =
      let k = mapped (node_of p f) (points f.body) n node e in
      subst (λ (node : Node). AvoidsAt node.scope node.stood) k.1 (point_avoids k.0)

  -- ---- results

  returned_scalar : (scope : Scope) (s : Found) → FoundTyped D.Cpc p f scope s → is_result (AtStatement s) ≡ true → is_scalar f.result ≡ true
  returned_scalar scope (Simple (Return (Some e))) h i = converts_scalar f.result h.type h.converts
  returned_scalar scope _ h i = absurd (cc)

  point_scalar : (point : Point) → is_result (stood_at (Some f) point) ≡ true → is_scalar f.result ≡ true
  point_scalar (Here path) i = returned_scalar (scope_in_function f path) (found f.body path) (path_typed path) i
  point_scalar (Arrival path) i = absurd (cc)
  point_scalar End i = absurd (cc)

  found_scalar : (n : ℕ) (o : Option Node) → slice_get (graph_of p f).nodes n ≡ o → at_node false (λ node. is_result node.stood) o ≡ true → is_scalar f.result ≡ true
  found_scalar n None e i = absurd (cc)
  found_scalar n (Some node) e i =
      let k = mapped (node_of p f) (points f.body) n node e in
      point_scalar k.0 (subst (λ (node : Node). is_result node.stood ≡ true) (sym k.1) i)

  nodes_scalar : (ns : List ℕ) → any_node (routine_of p f) (λ node. is_result node.stood) ns ≡ true → is_scalar f.result ≡ true
  nodes_scalar [] i = absurd (cc)
  nodes_scalar (n ∷ ns) i = go (at_node false (λ node. is_result node.stood) (slice_get (graph_of p f).nodes n)) refl i (nodes_scalar ns)
    where
      go : (b : Bool) → at_node false (λ node. is_result node.stood) (slice_get (graph_of p f).nodes n) ≡ b → (b || any_node (routine_of p f) (λ node. is_result node.stood) ns) ≡ true
          → (any_node (routine_of p f) (λ node. is_result node.stood) ns ≡ true → is_scalar f.result ≡ true) → is_scalar f.result ≡ true
      go true e i rest = found_scalar n (slice_get (graph_of p f).nodes n) refl e
      go false e i rest = rest i

-- ---- accepted programs

pub accepted_suits_pieces : AcceptedSuitsPieces
accepted_suits_pieces list end p read unbroken f has =
    let names = accepted_has_names list end p read unbroken in
    let is = (names.functions f has).found in
    let typed = (accepted_is_typed D.Cpc list end p read unbroken).functions f.called f is in
    record {
      addresses = addresses_are_boxes (bare p) names f is typed;
      results = λ l i. nodes_scalar (bare p) names f is typed _ i;
      cells = variables_have (bare p) p.items (items_shape list p.items read.1 read.3) refl (split (items_breaks D.Cpc (bare p) [] p.items) _ unbroken).0 f has;
      passed = λ scope es h. all_scalar (bare p) scope (parameter_types f) es h;
      parameters = λ h k x lt e. scalar_at (parameter_types f) h k x.type (parameter_at f.parameters _ k x lt e);
    }
