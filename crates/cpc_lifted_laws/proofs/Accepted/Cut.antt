-- The positions of a program's split graphs are its nodes with their owners.
use Rattle.std.proofs.Common.{◌≡◌, ◌⊎◌, ◌↔◌, inl, inr, ℕ, zero, suc, ◌+◌, ◌<◌, ◌≤◌, Bool, true, false, not, List, [], ◌∷◌, length, slice_get, Option, Some, None, option_map, refl, sym, ◌∙◌, ap, subst, arith}
use Rattle.std.specs.Prelude.{is_some}
use Rattle.std.proofs.lemmas.Bool.{cases_lt}
use Rattle.cpc_base.specs.Bytes.{Text}
use Rattle.cpc_base.proofs.Lists.{found_within}
use Rattle.cpc_tree.specs.Lists.{holds_number}
use Rattle.cpc_tree.specs.Points.{Point, Here, Arrival, End}
use Rattle.cpc_tree.specs.Registers.{slot_of}
use Rattle.cpc_tree.specs.Syntax.{Function, Program}
use Rattle.cpc_tree.specs.Typing.{Scope, function_named}
use Rattle.cpc_meaning.specs.Threads.{is_cps_mode}
use Rattle.cpc_meaning.specs.Trees.{scope_from}
use Rattle.cpc_meaning.specs.Ways.{ways}
use Rattle.cpc_forms.specs.Flow.{Place, Flow, owner_of}
use Rattle.cpc_forms.specs.Graph.{Node, graph_of, graph_if, graph_where, graphs, at_node}
use Rattle.cpc_forms.specs.Pieces.{is_owned_by}
use Rattle.cpc_forms.specs.Split.{Split, owners_from, split_of, splits, Position, InTree, InGraph, position_scope}
use Rattle.cpc_graph_laws.specs.Going.{IsHeld, OutOfGraphs, OwnedNode}
use Rattle.cpc_graph_laws.specs.Laws.{flow_in}
use Rattle.cpc_graph_laws.proofs.Formed.{node_comes}
use Rattle.cpc_graph_laws.proofs.Holding.{positions_are_held}
use Rattle.cpc_graph_laws.proofs.Splits.{owner_there}
use Rattle.cpc_graph_laws.proofs.Owning.{owned_is, place_same, place_self}
use Rattle.cpc_lift_laws.specs.Lift.{variables_in, variable_count}
use Rattle.cpc_lift_laws.specs.Nodes.{Member, First, Later}
use Rattle.cpc_lift_laws.proofs.Scopes.{scopes_are_below}
use Rattle.cpc_convert_routines.specs.ClosureLaws.{positions_where, may_stand}
use Rattle.cpc_convert_routines.specs.Routines.{positions_from}
use Rattle.cpc_forms.specs.Spread.{known as owner_at}
use Rattle.cpc_convert_routines.specs.Nodes.{is_own}
use Rattle.cpc_lifted_laws.specs.Accepted.Lifted.{ProgramsAreSplit}

-- ---- owners

none_beyond : (flow : Flow) (k size m : ℕ) → size ≤ m → slice_get (owners_from flow k size) m ≡ None
none_beyond flow k zero m le = refl
none_beyond flow k (suc size) zero le = absurd (omega arith)
none_beyond flow k (suc size) (suc m) le = none_beyond flow (suc k) size m (omega arith)

-- ---- the positions of these owners

forth : (m n : ℕ) (l : Place) (os : List (Option Place)) → is_owned_by l (owner_at (slice_get os n)) ≡ true → Member (InGraph l (m + n)) (positions_from m os)
forth m n l [] e = absurd (cc)
forth m zero l (None ∷ os) e = absurd (cc)
forth m zero l (Some k ∷ os) e = let i : m ≡ m + 0 = omega arith in subst (λ a. Member a (InGraph k m ∷ positions_from (suc m) os)) (ap (λ j. InGraph j m) (place_same k l e) ∙ ap (InGraph l) i) (First _ _)
forth m (suc n) l (None ∷ os) e = let i : suc m + n ≡ m + suc n = omega arith in subst (λ j. Member (InGraph l j) (positions_from (suc m) os)) i (forth (suc m) n l os e)
forth m (suc n) l (Some k ∷ os) e = let i : suc m + n ≡ m + suc n = omega arith in Later _ _ _ (subst (λ j. Member (InGraph l j) (positions_from (suc m) os)) i (forth (suc m) n l os e))

-- a node, so many behind this one, with its owner
record Owned (m : ℕ) (os : List (Option Place)) (a : Position) : Type 0 where
  owner : Place
  number : ℕ
  is : a ≡ InGraph owner (m + number)
  own : is_owned_by owner (owner_at (slice_get os number)) ≡ true

further : (m : ℕ) (o : Option Place) (os : List (Option Place)) (a : Position) → Owned (suc m) os a → Owned m (o ∷ os) a
further m o os a w = let i : suc m + w.number ≡ m + suc w.number = omega arith in record { owner = w.owner; number = suc w.number; is = w.is ∙ ap (InGraph w.owner) i; own = w.own }

back : (m : ℕ) (os : List (Option Place)) (a : Position) → Member a (positions_from m os) → Owned m os a
back m [] a h = elim h [ ]
back m (None ∷ os) a h = further m None os a (back (suc m) os a h)
back m (Some l ∷ os) _ (First _ _) = let i : m ≡ m + 0 = omega arith in record { owner = l; number = 0; is = ap (InGraph l) i; own = place_self l }
back m (Some l ∷ os) a (Later _ _ _ h) = further m (Some l) os a (back (suc m) os a h)

from_start : (os : List (Option Place)) (l : Place) (n : ℕ) → Owned 0 os (InGraph l n) → is_owned_by l (owner_at (slice_get os n)) ≡ true
from_start os l n w =
    let i : w.owner ≡ l = let e = w.is in cc in
    let j : w.number ≡ n = let e : InGraph l n ≡ InGraph w.owner (0 + w.number) = w.is in let g : n ≡ 0 + w.number = cc in omega (arith, g) in
    subst (λ k. is_owned_by k (owner_at (slice_get os n)) ≡ true) i (subst (λ k. is_owned_by w.owner (owner_at (slice_get os k)) ≡ true) j w.own)

not_in_tree : (m : ℕ) (os : List (Option Place)) (point : Point) → Owned m os (InTree point) → ⊥
not_in_tree m os point w = let e = w.is in cc

members : (s : Split) (a : Position) → (may_stand (Some s) a ≡ true) ↔ Member a (positions_from 0 s.owners)
members s (InTree point) = ((λ e. absurd (cc)), λ h. absurd (not_in_tree 0 s.owners point (back 0 s.owners (InTree point) h)))
members s (InGraph l n) = (
  (λ e. let i : 0 + n ≡ n = omega arith in subst (λ j. Member (InGraph l j) (positions_from 0 s.owners)) i (forth 0 n l s.owners e)),
  (λ h. from_start s.owners l n (back 0 s.owners (InGraph l n) h)),
)

-- ---- one function

module _ (p : Program) (x : Text) where
  -- a name without a graph, or that of a cps function, which is cut into pieces
  pub data Cut : Option Split → Type 0 where
    Whole : graphs p x ≡ None → Cut None
    InPieces : (f : Function) → function_named p x ≡ Some f → is_cps_mode f.mode ≡ true → Cut (Some (split_of (graph_of p f)))

  cut_if : (f : Function) (b : Bool) → function_named p x ≡ Some f → is_cps_mode f.mode ≡ b → Cut (option_map split_of (graph_if b p f))
  cut_if f true e c = InPieces f e c
  cut_if f false e c = Whole (ap (graph_where p) e ∙ ap (λ b. graph_if b p f) c)

  cut_where : (o : Option Function) → function_named p x ≡ o → Cut (option_map split_of (graph_where p o))
  cut_where None e = Whole (ap (graph_where p) e)
  cut_where (Some f) e = cut_if f (is_cps_mode f.mode) e refl

  pub cut : Cut (splits p x)
  cut = cut_where (function_named p x) refl

  -- ---- where its code stands

  pub held_stands : (a : Position) → IsHeld p x a → may_stand (splits p x) a ≡ true
  held_stands _ (OutOfGraphs point e) = ap (λ g. may_stand (option_map split_of g) (InTree point)) e
  held_stands _ (OwnedNode f l n node e c there own) =
      ap (λ g. may_stand (option_map split_of g) (InGraph l n)) (ap (graph_where p) e ∙ ap (λ b. graph_if b p f) c)
      ∙ (ap (λ o. is_owned_by l (owner_at o)) (owner_there (graph_of p f) n node there) ∙ (ap (is_owned_by l) own ∙ place_self l))

  node_held : (f : Function) (l : Place) (n : ℕ) → function_named p x ≡ Some f → is_cps_mode f.mode ≡ true → is_own (split_of (graph_of p f)) l n ≡ true → IsHeld p x (InGraph l n)
  node_held f l n e c h = by (cases_lt n (length (graph_of p f).nodes))
    where
      by : (n < length (graph_of p f).nodes) ⊎ (length (graph_of p f).nodes ≤ n) → IsHeld p x (InGraph l n)
      by (inl less) =
          let node = found_within (graph_of p f).nodes n less in
          OwnedNode f l n node.0 e c node.1 (owned_is l (owner_of (flow_in p f) n) (sym (ap (λ o. is_owned_by l (owner_at o)) (owner_there (graph_of p f) n node.0 node.1)) ∙ h))
      by (inr le) = absurd (let g = ap (λ o. is_owned_by l (owner_at o)) (none_beyond (flow_in p f) 0 (length (graph_of p f).nodes) n le) in let i : true ≡ false = sym h ∙ g in cc)

  stands_held_by : (o : Option Split) → Cut o → (a : Position) → may_stand o a ≡ true → IsHeld p x a
  stands_held_by _ (Whole e) (InTree point) h = OutOfGraphs point e
  stands_held_by _ (Whole e) (InGraph l n) h = absurd (cc)
  stands_held_by _ (InPieces f e c) (InTree point) h = absurd (cc)
  stands_held_by _ (InPieces f e c) (InGraph l n) h = node_held f l n e c h

  -- code may stand at the positions that are held, and nowhere else
  pub stands_held : (a : Position) → may_stand (splits p x) a ≡ true → IsHeld p x a
  stands_held = stands_held_by (splits p x) cut

  -- ---- its nodes

  nodes_by : (o : Option Split) → Cut o → not (is_some o) ≡ false → (a : Position) → (may_stand o a ≡ true) ↔ Member a (positions_where o)
  nodes_by _ (Whole e) h a = absurd (cc)
  nodes_by _ (InPieces f e c) h a = members (split_of (graph_of p f)) a

  -- ---- its scopes

  abbrev Below : Scope → Type 0
  Below scope = (y : Text) (k : ℕ) → holds_number (slot_of scope y) k ≡ true → k < variable_count p x

  no_names : Below []
  no_names y k h = absurd (cc)

  point_below : (f : Function) → function_named p x ≡ Some f → (point : Point) → Below (scope_from (Some f) point)
  point_below f e (Here path) y k h = subst (λ n. k < n) (sym (ap variables_in e)) (scopes_are_below f path y k h)
  point_below f e (Arrival path) y k h = subst (λ n. k < n) (sym (ap variables_in e)) (scopes_are_below f path y k h)
  point_below f e End y k h = no_names y k h

  node_below : (f : Function) → function_named p x ≡ Some f → (n : ℕ) (o : Option Node) → slice_get (graph_of p f).nodes n ≡ o → Below (at_node [] (λ node. node.scope) o)
  node_below f e n None there = no_names
  node_below f e n (Some node) there = let w = node_comes p f n node there in subst (λ (k : Node). Below k.scope) w.2 (point_below f e w.0)

  scopes_by : (o : Option Split) → Cut o → not (is_some o) ≡ false → (a : Position) → may_stand o a ≡ true → Below (position_scope ((ways p).code.scope x) o a)
  scopes_by _ (Whole e) h a t = absurd (cc)
  scopes_by _ (InPieces f e c) h (InTree point) t = absurd (cc)
  scopes_by _ (InPieces f e c) h (InGraph l n) t = node_below f e n (slice_get (graph_of p f).nodes n) refl

pub programs_are_split : ProgramsAreSplit
programs_are_split p = record {
  stands = λ x.
      let held = positions_are_held p x in
      record {
        first = held_stands p x _ held.0;
        goes = λ a b h t e. held_stands p x b (held.1 a b h (stands_held p x a t) e);
        arrival = λ a b t e. held_stands p x b (held.2 a b (stands_held p x a t) e);
      };
  nodes = λ x. nodes_by p x (splits p x) (cut p x);
  scopes = λ x. scopes_by p x (splits p x) (cut p x);
}
