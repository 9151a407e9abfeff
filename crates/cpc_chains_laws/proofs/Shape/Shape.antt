-- An accepted program of threads is converted to an event program of its shape.
use Rattle.std.proofs.Common.{◌≡◌, true, ◌==◌, ◌||◌, Some, refl, sym, ◌∙◌, ap, subst}
use Rattle.cpc_base.specs.declared.stop.Dialect.TheVariants as D
use Rattle.cpc_base.proofs.Lists.{found_within}
use Rattle.cpc_tree.specs.Located.{bare}
use Rattle.cpc_tree.specs.Syntax.{Function, FunctionItem, Program}
use Rattle.cpc_tree.specs.Typing.{function_named}
use Rattle.cpc_convert_common.proofs.Marks.{marked_is}
use Rattle.cpc_check_laws.specs.Sound.Typed.{TypedProgram}
use Rattle.cpc_check_laws.proofs.Sound.Accepted.{accepted_is_typed}
use Rattle.cpc_check_laws.proofs.Sound.Paths.{function_typed}
use Rattle.cpc_forms.specs.Control as C
use Rattle.cpc_forms.specs.Flow.{Place, At, is_leader}
use Rattle.cpc_forms.specs.Graph.{graph_of}
use Rattle.cpc_forms.specs.Order.{number_of}
use Rattle.cpc_forms.proofs.Numbers.{one_node as point_stands}
use Rattle.cpc_graph_laws.specs.Laws.{place_of, is_node, flow_in}
use Rattle.cpc_graph_laws.proofs.Controls.{same_node}
use Rattle.cpc_graph_laws.proofs.Formed.{node_comes}
use Rattle.cpc_graph_laws.proofs.Leaders.{inside, leader_is, leader_in, is_leading, leader_place}
use Rattle.cpc_graph_laws.proofs.Marked.{leaders_are_listed}
use Rattle.cpc_chains_event.specs.Converted.{converted}
use Rattle.cpc_convert_routines.specs.Named.{IsOwner, TheStart, ALeader, IsNamed, IsCps}
use Rattle.cpc_chains_event.specs.NameLaws.{FindsFunctions}
use Rattle.cpc_chains_event.specs.Pieces.{piece_function}
use Rattle.cpc_convert_routines.specs.Routines.{routine_of}
use Rattle.cpc_chains_event.proofs.Apart.{behind, piece_is, no_underscore_behind, Small, StartIsSmall, NumberIsSmall, behind_is}
use Rattle.cpc_chains_event.proofs.Lookups.{functions_found}
use Rattle.cpc_chains_event.proofs.Framed.{held}
use Rattle.cpc_chains_event.proofs.Made.{Made, MadeSpawner, MadePiece}
use Rattle.cpc_chains_event.proofs.Boxing.{held_has}
use Rattle.cpc_lifted_laws.specs.Accepted.Names.{HasNames}
use Rattle.cpc_lifted_laws.proofs.Accepted.Names.{accepted_has_names, accepted_is_named}
use Rattle.cpc_chains_laws.specs.Shape.Laws.{AcceptedShape}
use Rattle.cpc_chains_laws.specs.Shape.Shape.{Origin, Kept, ASpawner, APiece, TheDriver, TheMain, Shape}
use Rattle.cpc_lifted_laws.proofs.Shape.Calls.{CpsTyped}
use Rattle.cpc_chains_laws.proofs.Shape.Globals.{same_globals, same_externs}
use Rattle.cpc_chains_laws.proofs.Shape.Items.{found_has, From, FromKept, FromMade, FromDriver, FromMain, comes_from}
use Rattle.cpc_chains_laws.proofs.Shape.Piece.{is_piece}
use Rattle.cpc_chains_laws.proofs.Shape.Points.{made_in}

module _ (p : Program) (named : IsNamed p) (names : HasNames p) (typed : TypedProgram D.Cpc p) where
  known : (f : Function) → IsCps p f → CpsTyped p f
  known f c =
      let t = typed.functions f.called f (named.found f c.has) in
      record { named = named; names = names; cps = c; typed = λ path. function_typed D.Cpc p f path t.body; stays = t.control }

  -- ---- owners

  owner_in : (f : Function) (a : C.Node) → C.IsOwner p f a → is_node f.body a ≡ true
  owner_in f _ C.TheEntry = refl
  owner_in f _ (C.ALeader l leads) = leader_in p f l leads

  owner_of : (f : Function) (a : C.Node) → C.IsOwner p f a → IsOwner (routine_of p f) (place_of f.body a)
  owner_of f _ C.TheEntry = TheStart
  owner_of f _ (C.ALeader l leads) = ALeader (number_of f.body l) (held_has _ (number_of f.body l) (leaders_are_listed (flow_in p f) (inside p f) (number_of f.body l) ∙ is_leading p f l leads))

  small : (f : Function) → IsCps p f → (l : Place) → IsOwner (routine_of p f) l → Small l
  small f c _ TheStart = StartIsSmall
  small f c _ (ALeader n h) = NumberIsSmall n (named.small f c n h)

  -- an owner of the conversion is one of control
  pub record OwnerAt (f : Function) (l : Place) : Type 0 where
    pub node : C.Node
    pub owner : C.IsOwner p f node
    pub place : place_of f.body node ≡ l

  owner_at : (f : Function) (l : Place) → IsOwner (routine_of p f) l → OwnerAt f l
  owner_at f _ TheStart = record { node = C.Entry; owner = C.TheEntry; place = refl }
  owner_at f _ (ALeader n h) =
      let leads = sym (leaders_are_listed (flow_in p f) (inside p f) n) ∙ held n _ h in
      let node = found_within (graph_of p f).nodes n (leader_place p f n leads) in
      let from = node_comes p f n node.0 node.1 in
      let is = point_stands f.body n from.0 from.1 in
      record {
        node = C.At from.0;
        owner = C.ALeader from.0 (leader_is p f from.0 is.0 (ap (is_leader (flow_in p f)) is.1 ∙ leads));
        place = ap (λ k. At k) is.1;
      }

  -- ---- functions

  finds : FindsFunctions p
  finds = functions_found p named

  one_function : (f g : Function) → IsCps p f → IsCps p g → f.called ≡ g.called → f ≡ g
  one_function f g c d e = let z : Some f ≡ Some g = sym (named.found f c.has) ∙ (ap (function_named p) e ∙ named.found g d.has) in cc

  apart : (f g : Function) (a b : C.Node) → IsCps p f → C.IsOwner p f a → IsCps p g → C.IsOwner p g b → (made_in p f a).called ≡ (made_in p g b).called → (f ≡ g) × (a ≡ b)
  apart f g a b c i d j e =
      let k = place_of f.body a in
      let l = place_of g.body b in
      let m = marked_is f.called g.called (behind k) (behind l) (named.unmarked (FunctionItem f) c.has) (named.unmarked (FunctionItem g) d.has) (no_underscore_behind k) (no_underscore_behind l) (sym (piece_is f.called k) ∙ (e ∙ piece_is g.called l)) in
      let same = one_function f g c d m.0 in
      let places : k ≡ l = behind_is k l (small f c k (owner_of f a i)) (small g d l (owner_of g b j)) m.1 in
      let there : is_node f.body b ≡ true = subst (λ h. is_node h.body b ≡ true) (sym same) (owner_in g b j) in
      (same, same_node f a b (owner_in f a i) there (places ∙ ap (λ h. place_of h.body b) (sym same)))

  made_origin : (g : Function) → Made p p g → Origin p (made_in p) g
  made_origin _ (MadeSpawner f h c) = ASpawner f (record { has = h; mode = c })
  made_origin _ (MadePiece f l h c o) =
      let at = owner_at f l o in
      subst (λ k. Origin p (made_in p) (piece_function p (routine_of p f) k)) at.place (APiece f at.node (record { has = h; mode = c }) at.owner)

  origin : (g : Function) → From p g → Origin p (made_in p) g
  origin _ (FromKept f k) = Kept f k
  origin g (FromMade _ m) = made_origin g m
  origin _ (FromDriver f c) = TheDriver f c
  origin _ (FromMain f c e) = TheMain f c e

  pub has_shape : Shape p (converted p)
  has_shape = record {
    globals = same_globals p;
    externs = same_externs p;
    kept = λ f k. found_has (converted p) f.called _ (finds.kept f k);
    spawners = λ f c. found_has (converted p) _ _ (finds.spawners f c);
    driver = λ f c. found_has (converted p) _ _ (finds.driver f c);
    main = λ f c e. found_has (converted p) _ _ (finds.main f c e);
    made = made_in p;
    pieces = λ f a c i. (found_has (converted p) _ _ (finds.pieces f c (place_of f.body a) (owner_of f a i)), is_piece p f (known f c) a (owner_in f a i) (owner_of f a i));
    apart = apart;
    all = λ g h. origin g (comes_from p names g h);
  }

pub accepted_shape : AcceptedShape
accepted_shape list end p read unbroken =
    has_shape (bare p) (accepted_is_named list end p read unbroken) (accepted_has_names list end p read unbroken) (accepted_is_typed D.Cpc list end p read unbroken)
