-- Each variable that is read or written at a point that an owner owns has its local in what is made for the owner.
use Rattle.std.proofs.Common.{◌≡◌, ℕ, true, false, not, cond, is_some, [], slice_get, Some, option_map, refl, sym, ◌∙◌, ap, subst}
use Rattle.cpc_base.proofs.Lists.{found_within}
use Rattle.cpc_tree.specs.Lists.{holds_number}
use Rattle.cpc_tree.specs.Points.{Nothing}
use Rattle.cpc_tree.specs.Syntax.{Variable, Function, Program}
use Rattle.cpc_meaning.specs.Act.{AtStatement}
use Rattle.cpc_meaning.specs.Ways.{ways}
use Rattle.cpc_convert_common.specs.Members.{Has}
use Rattle.cpc_forms.specs.Control as C
use Rattle.cpc_forms.specs.Flow.{Place, Start, At, Flow, is_leader, owner_of, owner_by, goes_to, Owns, Itself, Onwards}
use Rattle.cpc_forms.specs.Graph.{Node, node_of, graph_of, graph_if, graph_where, at_node}
use Rattle.cpc_forms.specs.Order.{number_of}
use Rattle.cpc_forms.specs.Pieces.{is_owned_by}
use Rattle.cpc_forms.specs.Split.{InGraph, split_of, splits, owner_or, position_stood, position_scope, split_form}
use Rattle.cpc_graph_laws.specs.Laws.{place_of, flow_in}
use Rattle.cpc_graph_laws.proofs.Graphs.{node_found}
use Rattle.cpc_graph_laws.proofs.MoreFacts.{entries_are_first}
use Rattle.cpc_graph_laws.proofs.Owned.{reaches, is_owned}
use Rattle.cpc_graph_laws.proofs.Owners.{owner_owns}
use Rattle.cpc_graph_laws.proofs.Splits.{owner_there}
use Rattle.cpc_graph_laws.proofs.Owning.{place_self}
use Rattle.cpc_lift_laws.specs.Lift.{closure_in}
use Rattle.cpc_lift_laws.specs.Used.{used_at}
use Rattle.cpc_convert_routines.specs.ClosureLaws.{may_stand, lifting}
use Rattle.cpc_chains_event.specs.LocalLaws.{piece_locals}
use Rattle.cpc_convert_routines.specs.Named.{IsOwner}
use Rattle.cpc_convert_routines.specs.Names.{variable_name}
use Rattle.cpc_chains_event.specs.Pieces.{piece_function}
use Rattle.cpc_convert_routines.specs.Routines.{Routine, routine_of, keeper, closure_of, owner_number, variable_or, local_of}
use Rattle.cpc_chains_event.specs.Rows.{owner_at}
use Rattle.cpc_convert_routines.proofs.Closures.{closures_lifted}
use Rattle.cpc_chains_event.proofs.Locals.{locals_meant}
use Rattle.cpc_lifted_laws.specs.Accepted.Lifted.{kept_of}
use Rattle.cpc_lifted_laws.proofs.Accepted.Lifted.{programs_are_closed}
use Rattle.cpc_chains_laws.specs.Shape.Shape.{HasLocals}
use Rattle.cpc_lifted_laws.proofs.Shape.Calls.{CpsTyped}
use Rattle.cpc_chains_laws.proofs.Shape.Owned.{got_has}

-- ---- owners keep their own closures

module _ (p : Program) (f : Function) where
  -- where the start owns anything, it owns the first node
  first_step : (a : Place) (j : ℕ) → goes_to (flow_in p f) a j ≡ true → is_leader (flow_in p f) j ≡ false → ((i : ℕ) → a ≡ At i → is_leader (flow_in p f) 0 ≡ false) → is_leader (flow_in p f) 0 ≡ false
  first_step Start j goes leads deeper = subst (λ m. is_leader (flow_in p f) m ≡ false) ((entries_are_first p f).2 j goes) leads
  first_step (At i) j goes leads deeper = deeper i refl

  first_stays : (d : ℕ) (a : Place) → Owns (flow_in p f) Start d a → (m : ℕ) → a ≡ At m → is_leader (flow_in p f) 0 ≡ false
  first_stays _ _ (Itself i) m e = absurd (cc)
  first_stays _ _ (Onwards d a j owns goes leads) m e = first_step a j goes leads (λ i h. first_stays d a owns i h)

  pub keeps : (l : Place) (n : ℕ) → owner_of (flow_in p f) n ≡ Some l → keeper (routine_of p f).split l ≡ l
  keeps (At m) n e = refl
  keeps Start n e =
      let first = entries_are_first p f in
      let w = owner_owns (flow_in p f) Start n e in
      let stays = first_stays w.0 (At n) w.1 n refl in
      let node = found_within (graph_of p f).nodes 0 first.1 in
      ap (owner_or Start) (ap (slice_get (routine_of p f).split.owners) first.0 ∙ (owner_there (graph_of p f) 0 node.0 node.1 ∙ ap (λ o. Some o) (first.3 ∙ ap (λ b. Some (owner_by b Start 0)) stays)))

-- ---- variables

module _ (p : Program) (f : Function) (known : CpsTyped p f) where
  abbrev r : Routine
  r = routine_of p f

  abbrev flow : Flow
  flow = flow_in p f

  is_split : splits p f.called ≡ Some (split_of (graph_of p f))
  is_split = ap (option_map split_of) (ap (graph_where p) (known.named.found f known.cps.has) ∙ ap (λ b. graph_if b p f) known.cps.mode)

  -- a position keeps what its owner keeps
  kept_is : (l : Place) → keeper r.split l ≡ l → (n k : ℕ) → kept_of p f.called (InGraph l n) k ≡ holds_number (closure_of r l) k
  kept_is l own n k =
      ap (λ o. cond (not (is_some o)) true (holds_number (closure_in (split_form p) (lifting p) f.called (owner_number l)) k)) is_split
      ∙ (ap (λ m. holds_number (closure_in (split_form p) (lifting p) f.called (owner_number m)) k) (sym own) ∙ ap (λ ks. holds_number ks k) (sym (closures_lifted p known.named f known.cps l)))

  module _ (l : Place) (n : ℕ) (node : Node) (there : slice_get (graph_of p f).nodes n ≡ Some node) (owned : owner_of flow n ≡ Some l) where
    stands : (lifting p).there f.called (InGraph l n) ≡ true
    stands = ap (λ o. may_stand o (InGraph l n)) is_split ∙ (ap (λ o. is_owned_by l (owner_at o)) (owner_there (graph_of p f) n node there ∙ ap (λ o. Some o) owned) ∙ place_self l)

    stood_is : (split_form p).code.stood f.called (InGraph l n) ≡ node.stood
    stood_is = ap (λ o. position_stood ((ways p).code.stood f.called) o (InGraph l n)) is_split ∙ ap (at_node (AtStatement Nothing) (λ k. k.stood)) there

    scope_is : (split_form p).code.scope f.called (InGraph l n) ≡ node.scope
    scope_is = ap (λ o. position_scope ((ways p).code.scope f.called) o (InGraph l n)) is_split ∙ ap (at_node [] (λ k. k.scope)) there

    -- what is used at a node is kept
    used_kept : (k : ℕ) → holds_number (used_at node.scope node.stood) k ≡ true → holds_number (closure_of r l) k ≡ true
    used_kept k h =
        sym (kept_is l (keeps p f l n owned) n k)
        ∙ ((programs_are_closed p).inside f.called).used (InGraph l n) k stands
        (ap (λ s. holds_number (used_at s ((split_form p).code.stood f.called (InGraph l n))) k) scope_is ∙ (ap (λ s. holds_number (used_at node.scope s) k) stood_is ∙ h))

  pub locals_there : (owner : C.Node) → IsOwner r (place_of f.body owner) → HasLocals p f owner (piece_function p r (place_of f.body owner)) variable_name
  locals_there owner is_owner a k x owns e used =
      let l = place_of f.body owner in
      let there = (reaches p f owner a owns).there in
      let kept = used_kept l (number_of f.body a) (node_of p f a) (node_found p f a there) (is_owned p f owner a owns) k used in
      let means = (locals_meant p known.named f known.cps).pieces l is_owner in
      let at = means.kept k kept in
      (local_of r k, subst (Has (local_of r k)) (sym means.listed) (got_has (piece_locals p r l) at.0 (local_of r k) at.1), ap (λ (u : Variable). variable_name k u.called) (ap variable_or e))
