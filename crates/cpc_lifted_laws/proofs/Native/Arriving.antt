-- In each state of the lifted run, native frames stand where a value arrives only if the value of what stands there does.
use Rattle.std.proofs.Common.{◌≡◌, ℕ, ◌&&◌, Bool, true, false, Option, Some, None, option_map, refl, ◌∙◌, ap, subst}
use Rattle.cpc_base.specs.Bytes.{Text}
use Rattle.cpc_base.proofs.Truth.{and_first, and_second, and_holds}
use Rattle.cpc_base.proofs.Lists.{some_is}
use Rattle.cpc_tree.specs.Points.{Path, Point, Here, Arrival, End, found, Move, Into, Out, ToLabel, Broken, Continued, NoMove, at_label, arrived, after, labelled}
use Rattle.cpc_tree.specs.Syntax.{Stmt, Function, Program}
use Rattle.cpc_tree.specs.Typing.{function_named}
use Rattle.cpc_meaning.specs.Trees.{first_point}
use Rattle.cpc_meaning.specs.Ways.{only_if, way_from, arrival_from, goes_in_step, arrives_later, manner_at}
use Rattle.cpc_forms.specs.Flow.{Place}
use Rattle.cpc_forms.specs.Graph.{at_node, way}
use Rattle.cpc_forms.specs.Split.{Split, splits, Position, InTree, InGraph, come_to, split_node, first_position, split_form}
use Rattle.cpc_lift_laws.specs.Boxes.{is_box}
use Rattle.cpc_lift_laws.specs.Closed.{Closed}
use Rattle.cpc_lift_laws.specs.Standing.{RunningStands}
use Rattle.cpc_lift_laws.proofs.Boxes.{programs_have_marks}
use Rattle.cpc_lift_laws.proofs.Standing.{lifted_stands}
use Rattle.cpc_convert_routines.specs.ClosureLaws.{lifting}
use Rattle.cpc_lifted_laws.specs.Accepted.Lifted.{kept_of}
use Rattle.cpc_lifted_laws.proofs.Accepted.Lifted.{programs_are_closed}
use Rattle.cpc_lifted_laws.specs.Native.Instance.{may_be_at, may_be}
use Rattle.cpc_lifted_laws.specs.Native.Laws.{FramesMayBe}

module _ (p : Program) (x : Text) where
  -- ---- points

  -- a point that is no arrival
  data NoArrival : Option Point → Type 0 where
    Nowhere : NoArrival None
    AtPath : (path : Path) → NoArrival (Some (Here path))
    AtTheEnd : NoArrival (Some End)

  label_no : (o : Option Path) → NoArrival (at_label o)
  label_no None = Nowhere
  label_no (Some path) = AtPath path

  moved_no : (body : Stmt) (m : Move) → NoArrival (arrived body m)
  moved_no body (Into path) = AtPath path
  moved_no body Out = AtTheEnd
  moved_no body (ToLabel l) = label_no (labelled l body)
  moved_no body Broken = Nowhere
  moved_no body Continued = Nowhere
  moved_no body NoMove = Nowhere

  only_no : (b : Bool) (o : Option Point) → NoArrival o → NoArrival (only_if b o)
  only_no true o n = n
  only_no false o n = Nowhere

  ways_no : (o : Option Function) (b : Point) (t : Bool) → NoArrival (way_from p o b t)
  ways_no None b t = Nowhere
  ways_no (Some f) (Here path) t = only_no (goes_in_step (manner_at p f path) (found f.body path) t) _ (moved_no f.body (after f.body path t))
  ways_no (Some f) (Arrival path) t = only_no (arrives_later (manner_at p f path)) _ (moved_no f.body (after f.body path t))
  ways_no (Some f) End t = Nowhere

  here_may : (o : Option Function) (path : Path) → may_be_at p o (Here path) ≡ true
  here_may None path = refl
  here_may (Some f) path = refl

  end_may : (o : Option Function) → may_be_at p o End ≡ true
  end_may None = refl
  end_may (Some f) = refl

  -- control comes where it may be
  comes : (o : Option Point) (a : Position) → NoArrival o → option_map (λ to. InTree to) o ≡ Some a → may_be p x a ≡ true
  comes _ a Nowhere e = absurd (cc)
  comes _ a (AtPath path) e = subst (λ a. may_be p x a ≡ true) (some_is (InTree (Here path)) a e) (here_may (function_named p x) path)
  comes _ a AtTheEnd e = subst (λ a. may_be p x a ≡ true) (some_is (InTree End) a e) (end_may (function_named p x))

  -- a value arrives where code may be
  arrives_if : (f : Function) → function_named p x ≡ Some f → (path : Path) (b : Bool) → arrives_later (manner_at p f path) ≡ b → (a : Position) → option_map (λ to. InTree to) (only_if b (Some (Arrival path))) ≡ Some a → may_be p x a ≡ true
  arrives_if f is path true i a e = subst (λ a. may_be p x a ≡ true) (some_is (InTree (Arrival path)) a e) (ap (λ o. may_be_at p o (Arrival path)) is ∙ i)
  arrives_if f is path false i a e = absurd (cc)

  arrives : (o : Option Function) → function_named p x ≡ o → (b : Point) (a : Position) → option_map (λ to. InTree to) (arrival_from p o b) ≡ Some a → may_be p x a ≡ true
  arrives (Some f) is (Here path) a e = arrives_if f is path (arrives_later (manner_at p f path)) refl a e
  arrives (Some f) is (Arrival path) a e = absurd (cc)
  arrives (Some f) is End a e = absurd (cc)
  arrives None is b a e = absurd (cc)

  -- ---- nodes

  node_may : (s : Option Split) (l : Place) (o : Option ℕ) (a : Position) → option_map (come_to s l) o ≡ Some a → may_be p x a ≡ true
  node_may s l None a e = absurd (cc)
  node_may None l (Some n) a e = subst (λ a. may_be p x a ≡ true) (some_is (come_to None l n) a e) refl
  node_may (Some s) l (Some n) a e = subst (λ a. may_be p x a ≡ true) (some_is (come_to (Some s) l n) a e) refl

  -- ---- positions

  first_may : (s : Option Split) (o : Option Function) → function_named p x ≡ o → may_be p x (first_position s (first_point o)) ≡ true
  first_may None None is = end_may (function_named p x)
  first_may None (Some f) is = here_may (function_named p x) _
  first_may (Some s) o is = refl

  goes_may : (a b : Position) (t : Bool) → (split_form p).code.goes x a t ≡ Some b → may_be p x b ≡ true
  goes_may (InTree c) b t e = comes (way_from p (function_named p x) c t) b (ways_no (function_named p x) c t) e
  goes_may (InGraph l n) b t e = node_may (splits p x) l (at_node None (λ node. way node t) (split_node (splits p x) n)) b e

  arrival_may : (a b : Position) → (split_form p).code.arrival x a ≡ Some b → may_be p x b ≡ true
  arrival_may (InTree c) b e = arrives (function_named p x) refl c b e
  arrival_may (InGraph l n) b e = node_may (splits p x) l (at_node None (λ node. node.arrival) (split_node (splits p x) n)) b e

-- code stands there and may be there
abbrev there : Program → Text → Position → Bool
there p x a = (lifting p).there x a && may_be p x a

stays_closed : (p : Program) → Closed (split_form p) (is_box p) (there p) (kept_of p)
stays_closed p = record {
  inside = λ x. let c = (programs_are_closed p).inside x in record {
    stands = record {
      first = and_holds _ _ c.stands.first (first_may p x (splits p x) (function_named p x) refl);
      goes = λ a b t h e. and_holds _ _ (c.stands.goes a b t (and_first _ _ h) e) (goes_may p x a b t e);
      arrival = λ a b h e. and_holds _ _ (c.stands.arrival a b (and_first _ _ h) e) (arrival_may p x a b e);
    };
    used = λ a k h u. c.used a k (and_first _ _ h) u;
    left = λ a k h l b. c.left a k (and_first _ _ h) l b;
    along = λ a b t k h e i. c.along a b t k (and_first _ _ h) e i;
    over = λ a b k h e i. c.over a b k (and_first _ _ h) e i;
  };
}

pub frames_may_be : FramesMayBe
frames_may_be p h n frame below o e =
    let stands = lifted_stands Position (split_form p) (is_box p) (there p) (kept_of p) (programs_have_marks p) (stays_closed p) h n in
    let running = subst (RunningStands (split_form p) (is_box p) (there p) (kept_of p)) e stands.running in
    and_second ((lifting p).there frame.function frame.point) (may_be p frame.function frame.point) running.0.at
