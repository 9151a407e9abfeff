-- Where a value arrives at a piece that waits at a native call, it arrives at the call in the source.
use Rattle.std.proofs.Common.{◌≡◌, ℕ, List, slice_get, Option, Some, option_map, refl, sym, ◌∙◌, ap}
use Rattle.cpc_base.specs.Bytes.{Text}
use Rattle.cpc_store.specs.Store.{Value}
use Rattle.cpc_tree.specs.Points.{Point, Found, Simple, Nothing}
use Rattle.cpc_tree.specs.Syntax.{Call, Function, Program}
use Rattle.cpc_meaning.specs.Act.{AtStatement, AtArrival}
use Rattle.cpc_meaning.specs.Eval.{Slot}
use Rattle.cpc_meaning.specs.Plain.{Frame}
use Rattle.cpc_meaning.specs.Ways.{ways}
use Rattle.cpc_forms.specs.Flow.{Place}
use Rattle.cpc_forms.specs.Graph.{Node, graph_of, graph_if, graph_where, at_node}
use Rattle.cpc_forms.specs.Split.{InGraph, split_of, splits, position_stood, split_form}
use Rattle.cpc_convert_routines.specs.Routines.{routine_of}
use Rattle.cpc_chains_laws.specs.Piece.Rows.{RowAt}
use Rattle.cpc_lifted_laws.specs.Piece.Known.{IsFound}
use Rattle.cpc_chains_laws.specs.Piece.Stood.{NodeAt, CallAt, Stood, AtRow, AtCall}
use Rattle.cpc_chains_laws.specs.Call.Laws.{FramedNode}
use Rattle.cpc_chains_laws.proofs.Call.Framed.{framed_calls_arrive}

-- the node where the value of a call arrives, which stands at n
module _ (p : Program) (f : Function) (l : Place) (n m : ℕ) (row : RowAt p (routine_of p f) l n) (call : CallAt p f l n row) (arrival : call.node.node.arrival ≡ Some m) (there : NodeAt p f l m) where
  fr : FramedNode p f n call.node.node
  fr = framed_calls_arrive p f n call.node.node (Simple (Call call.target call.function call.arguments)) call.node.is_node call.stands call.manner

  same_arrival : fr.arrival ≡ m
  same_arrival = let e : Some fr.arrival ≡ Some m = sym fr.is_arrival ∙ arrival in cc

  same_node : fr.there ≡ there.node
  same_node = let e : Some fr.there ≡ Some there.node = sym fr.is_there ∙ (ap (λ i. slice_get (graph_of p f).nodes i) same_arrival ∙ there.is_node) in cc

  -- the call stands there again, with the same names in scope
  pub arrives_there : there.node.stood ≡ AtArrival (Simple (Call call.target call.function call.arguments))
  arrives_there =
      let e : AtStatement (Simple (Call fr.target fr.function fr.arguments)) ≡ AtStatement (Simple (Call call.target call.function call.arguments)) = sym fr.stands ∙ call.stands in
      let i : Simple (Call fr.target fr.function fr.arguments) ≡ Simple (Call call.target call.function call.arguments) = cc in
      ap (λ (j : Node). j.stood) (sym same_node) ∙ (fr.arrives ∙ ap (λ y. AtArrival y) i)

  pub scope_there : there.node.scope ≡ call.node.node.scope
  scope_there = ap (λ (j : Node). j.scope) (sym same_node) ∙ fr.scope

-- what stands at a node of a function that is found
stood_found : (p : Program) (g : Function) → IsFound p g → (l : Place) (n : ℕ) (at : NodeAt p g l n) → (split_form p).code.stood g.called (InGraph l n) ≡ at.node.stood
stood_found p g is l n at =
    let split : splits p g.called ≡ Some (split_of (graph_of p g)) = ap (option_map split_of) (ap (graph_where p) is.named ∙ ap (λ b. graph_if b p g) is.cps.mode) in
    ap (λ o. position_stood ((ways p).code.stood g.called) o (InGraph l n)) split ∙ ap (at_node (AtStatement Nothing) (λ k. k.stood)) at.is_node

-- where a piece stands at which a value arrives, an arrival stands in the source
module _ (p : Program) where
  pub arrivals : (f : Text) (l : Place) (n : ℕ) (slots : List Slot) (v lower : Value) (piece : Frame Point) → Stood p f l n slots (Some v) lower piece (Some v) → (g : Found) × ((split_form p).code.stood f (InGraph l n) ≡ AtArrival g)
  arrivals f l n slots v lower piece h = by f l n slots (Some v) lower piece (Some v) h refl
    where
      by : (f : Text) (l : Place) (n : ℕ) (slots : List Slot) (o : Option Value) (lower : Value) (piece : Frame Point) (o' : Option Value) → Stood p f l n slots o lower piece o' → o' ≡ Some v → (g : Found) × ((split_form p).code.stood f (InGraph l n) ≡ AtArrival g)
      by _ _ _ _ _ _ _ _ (AtRow g l n slots o lower slots' is at has row locals arrives) e = absurd (cc)
      by _ _ _ _ _ _ _ _ (AtCall g l m n slots u lower slots' is at row call back locals) e = (Simple (Call call.target call.function call.arguments), stood_found p g is l n at ∙ arrives_there p g l m n row call back at)
