-- Code of split graphs is as steady as the text, so threads over it keep what those of an accepted program keep.
use Rattle.std.proofs.Common.{◌≡◌, ℕ, zero, suc, [], slice_get, Option, Some, None, refl, sym, ◌∙◌, ap, subst}
use Rattle.cpc_base.specs.Bytes.{Text}
use Rattle.cpc_tree.specs.Located.{bare}
use Rattle.cpc_tree.specs.Points.{Point, Simple, Nothing}
use Rattle.cpc_tree.specs.Syntax.{ENamed, Stmt, Call, Detach, Spawn, Function, Program}
use Rattle.cpc_tree.specs.Typing.{Scope, function_named, named}
use Rattle.cpc_meaning_matching.specs.Steps.{or_stay}
use Rattle.cpc_meaning_matching.specs.Systems.{run}
use Rattle.cpc_meaning_matching.proofs.Systems.{matches_live}
use Rattle.cpc_meaning.specs.Act.{Stood, AtStatement}
use Rattle.cpc_meaning.specs.History.{History}
use Rattle.cpc_meaning.specs.Machine.{State}
use Rattle.cpc_meaning.specs.Matching.{thread_system}
use Rattle.cpc_meaning.specs.Start.{main_name}
use Rattle.cpc_meaning.specs.Threads.{Thread, Pending, threads_of}
use Rattle.cpc_meaning.specs.Trees.{trees, stood_at, scope_from}
use Rattle.cpc_meaning.specs.Ways.{ways}
use Rattle.cpc_meaning.proofs.Connect.{machine_ends}
use Rattle.cpc_forms.specs.Flow.{Place}
use Rattle.cpc_forms.specs.Graph.{Node, graph_of, at_node}
use Rattle.cpc_forms.specs.Split.{Split, split_of, splits, Position, InTree, InGraph, position_stood, position_scope, split_form}
use Rattle.cpc_graph_laws.proofs.Formed.{node_comes}
use Rattle.cpc_graph_laws.proofs.Positions.{positions_follow}
use Rattle.cpc_check_laws.specs.Sound.Suits.{ScopeOf}
use Rattle.cpc_check_laws.proofs.Sound.Accepted.{accepted_threads_never_stuck}
use Rattle.cpc_check_laws.specs.Kept.Fits.{types_of}
use Rattle.cpc_check_laws.specs.Kept.Kept.{IsSteady}
use Rattle.cpc_check_laws.specs.Kept.Laws.{StepsHold}
use Rattle.cpc_check_laws.specs.Kept.Layers.{KeepsModes, Holds}
use Rattle.cpc_check_laws.proofs.Kept.LayerRuns.{threads_hold}
use Rattle.cpc_check_laws.proofs.Kept.Modes.{accepted_keeps_modes}
use Rattle.cpc_check_laws.proofs.Kept.Trees.{accepted_is_steady}
use Rattle.cpc_lifted_laws.specs.Accepted.Steady.{SplitsAreSteady, AcceptedSplitsHold, AcceptedNeverStuck}
use Rattle.cpc_lifted_laws.proofs.Accepted.Cut.{Cut, Whole, InPieces, cut}
use Rattle.cpc_lifted_laws.proofs.Accepted.Lifted.{threads_follow}

-- ---- positions and points

module _ (p : Program) (x : Text) where
  -- what stands at a position stands at a point, with the same names in scope; or nothing stands there
  data Like (o : Option Split) (a : Position) : Type 0 where
    LikePoint : (point : Point) → position_stood ((ways p).code.stood x) o a ≡ (ways p).code.stood x point → position_scope ((ways p).code.scope x) o a ≡ (ways p).code.scope x point → Like o a
    LikeNothing : position_stood ((ways p).code.stood x) o a ≡ AtStatement Nothing → position_scope ((ways p).code.scope x) o a ≡ [] → Like o a

  node_like : (f : Function) → function_named p x ≡ Some f → (l : Place) (n : ℕ) (o : Option Node) → slice_get (graph_of p f).nodes n ≡ o → Like (Some (split_of (graph_of p f))) (InGraph l n)
  node_like f e l n None there = LikeNothing (ap (at_node (AtStatement Nothing) (λ node. node.stood)) there) (ap (at_node [] (λ node. node.scope)) there)
  node_like f e l n (Some node) there =
      let w = node_comes p f n node there in
      LikePoint w.0
      (ap (at_node (AtStatement Nothing) (λ node. node.stood)) there ∙ ap (λ (k : Node). k.stood) (sym w.2) ∙ ap (λ o. stood_at o w.0) (sym e))
      (ap (at_node [] (λ node. node.scope)) there ∙ ap (λ (k : Node). k.scope) (sym w.2) ∙ ap (λ o. scope_from o w.0) (sym e))

  like_by : (o : Option Split) → Cut p x o → (a : Position) → Like o a
  like_by _ (Whole e) (InTree point) = LikePoint point refl refl
  like_by _ (Whole e) (InGraph l n) = LikeNothing refl refl
  like_by _ (InPieces f e c) (InTree point) = LikePoint point refl refl
  like_by _ (InPieces f e c) (InGraph l n) = node_like f e l n (slice_get (graph_of p f).nodes n) refl

  like : (a : Position) → Like (splits p x) a
  like a = like_by (splits p x) (cut p x) a

  -- what stands there as a simple statement stands at a point
  pub record AtPoint (a : Position) (s : Stmt) : Type 0 where
    pub point : Point
    pub stood : (ways p).code.stood x point ≡ AtStatement (Simple s)
    pub scope : (split_form p).code.scope x a ≡ (ways p).code.scope x point

  pub at_point : (a : Position) (s : Stmt) → (split_form p).code.stood x a ≡ AtStatement (Simple s) → AtPoint a s
  at_point a s h = go (like a)
    where
      go : Like (splits p x) a → AtPoint a s
      go (LikePoint point e f) = record { point = point; stood = sym e ∙ h; scope = f }
      go (LikeNothing e f) = absurd (let k : AtStatement Nothing ≡ AtStatement (Simple s) = sym e ∙ h in cc)

  pub scopes_like : (Q : Scope → Type 0) → Q [] → ((point : Point) → Q ((ways p).code.scope x point)) → (a : Position) → Q ((split_form p).code.scope x a)
  scopes_like Q none some a = go (like a)
    where
      go : Like (splits p x) a → Q ((split_form p).code.scope x a)
      go (LikePoint point e f) = subst Q (sym f) (some point)
      go (LikeNothing e f) = subst Q (sym f) none

  -- what holds of what stands at each point, and where nothing does, holds of each position
  pub stood_like : (Q : Stood → Scope → Type 0) → Q (AtStatement Nothing) [] → ((point : Point) → Q ((ways p).code.stood x point) ((ways p).code.scope x point)) → (a : Position) → Q ((split_form p).code.stood x a) ((split_form p).code.scope x a)
  stood_like Q none some a = go (like a)
    where
      go : Like (splits p x) a → Q ((split_form p).code.stood x a) ((split_form p).code.scope x a)
      go (LikePoint point e f) = subst (λ st. Q st ((split_form p).code.scope x a)) (sym e) (subst (Q ((ways p).code.stood x point)) (sym f) (some point))
      go (LikeNothing e f) = subst (λ st. Q st ((split_form p).code.scope x a)) (sym e) (subst (Q (AtStatement Nothing)) (sym f) none)

-- ---- split code

module _ (p : Program) where
  pub splits_steady : IsSteady (ways p) → IsSteady (split_form p)
  splits_steady h = record {
    scopes = λ x f a e. scopes_like p x (ScopeOf (types_of f)) tt (λ point. h.scopes x f point e) a;
    sections = λ x f a to y es g e stood is. let at = at_point p x a (Detach to y es) stood in h.sections x f at.point to y es g e at.stood is;
  }

  splits_keep : KeepsModes (ways p) → KeepsModes (split_form p)
  splits_keep h = record {
    calls = λ x f a to y es mode r ps g e stood is own there cps.
        let at = at_point p x a (Call to (ENamed y) es) stood in
        h.calls x f at.point to y es mode r ps g e at.stood (ap (λ scope. named p scope y) (sym at.scope) ∙ is) own there cps;
    waits = λ x f a to y es prim e stood is is_prim gives.
        let at = at_point p x a (Call to (ENamed y) es) stood in
        h.waits x f at.point to y es prim e at.stood (ap (λ scope. named p scope y) (sym at.scope) ∙ is) is_prim gives;
    sections = λ x f a to y es e stood. let at = at_point p x a (Detach to y es) stood in h.sections x f at.point to y es e at.stood;
    spawns = λ x f a y es g e stood there. let at = at_point p x a (Spawn y es) stood in h.spawns x f at.point y es g e at.stood there;
    codes = h.codes;
  }

pub splits_are_steady : SplitsAreSteady
splits_are_steady p = record { steady = splits_steady p; modes = splits_keep p }

-- ---- runs

module _ (p : Program) (h : History) (steps : StepsHold (split_form p) h) where
  step_holds : (s : State Position (Thread Position)) (o : Option (State Position (Thread Position))) → Holds p s → (thread_system (split_form p) h).next s ≡ o → Holds p (or_stay s o)
  step_holds s None k e = k
  step_holds s (Some t) k e = steps.goes s t k e

  runs_hold : (n : ℕ) → Holds p (run (thread_system (split_form p) h) n)
  runs_hold zero = steps.opens
  runs_hold (suc n) = let s = run (thread_system (split_form p) h) n in step_holds s ((thread_system (split_form p) h).next s) (runs_hold n) refl

pub accepted_splits_hold : AcceptedSplitsHold
accepted_splits_hold list end p read unbroken h =
    let steps =
    threads_hold (split_form (bare p)) (splits_steady (bare p) (accepted_is_steady list end p read unbroken).1) (splits_keep (bare p) (accepted_keeps_modes list end p read unbroken).1) h
    in
    record { steps = steps; runs = runs_hold (bare p) h steps }

pub accepted_never_stuck : AcceptedNeverStuck
accepted_never_stuck list end p read unbroken h =
    let live = (accepted_threads_never_stuck list end p read unbroken).on h in
    let ends = machine_ends (threads_of (trees (bare p))) (Pending main_name []) h in
    record { graphs = matches_live ends ((positions_follow (bare p)).1.on h live) live; lifted = matches_live ends ((threads_follow (bare p)).text.on h live) live }
