-- Which values a position of a split program takes, and what is known of the frame that runs and of a call that is to begin.
use Rattle.std.specs.Prelude.{◌≡◌, ◌∷◌, true, List, Option, Some, None}
use Rattle.std.specs.List.{All}
use Rattle.cpc_base.specs.Bytes.{Text}
use Rattle.cpc_num.specs.declared.kinds.Kind.TheVariants.{Int}
use Rattle.cpc_tree.specs.Syntax.{TyInt, Function, Program}
use Rattle.cpc_tree.specs.Typing.{function_named, parameter_types}
use Rattle.cpc_store.specs.Store.{Value}
use Rattle.cpc_meaning.specs.Act.{Stood, AtArrival}
use Rattle.cpc_meaning.specs.Agenda.{Due}
use Rattle.cpc_meaning.specs.Machine.{State}
use Rattle.cpc_meaning.specs.Plain.{Frame}
use Rattle.cpc_meaning.specs.Threads.{Thread, Pending}
use Rattle.cpc_meaning.specs.Ways.{Manner, InPlace, AsCps}
use Rattle.cpc_check_laws.specs.Kept.Fits.{Fits, FitAll}
use Rattle.cpc_check_laws.specs.Kept.Layers.{IsLayeredThread}
use Rattle.cpc_forms.specs.Graph.{Node}
use Rattle.cpc_forms.specs.Split.{Position, InTree, InGraph, splits, split_node}
use Rattle.cpc_convert_routines.specs.Arriving.{arriving_found}
use Rattle.cpc_convert_image_laws.specs.Held.{IsHeld}
use Rattle.cpc_convert_image_laws.specs.Native.{IsHeldIf}
use Rattle.cpc_lifted_laws.specs.Accepted.Known.{Stays, FineFrame, AreScalar}
use Rattle.cpc_lifted_laws.specs.Native.Instance.{may_be}

-- ---- values

-- where the value of a cps statement arrives, those of the type that arrives from it; none where nothing arrives later
abbrev pub TakesStood : Program → Manner → Stood → Value → Type 0
TakesStood p AsCps (AtArrival x) v = Fits (arriving_found p x) v
TakesStood p InPlace (AtArrival x) v = ⊥
TakesStood p manner stood v = Unit {0}

-- a node, which may be absent
abbrev pub TakesNode : Program → Option Node → Value → Type 0
TakesNode p None v = Unit {0}
TakesNode p (Some node) v = TakesStood p node.manner node.stood v

-- a position of a function; nothing is said of points
abbrev pub TakesPosition : Program → Text → Position → Value → Type 0
TakesPosition p x (InTree point) v = Unit {0}
TakesPosition p x (InGraph l n) v = TakesNode p (split_node (splits p x) n) v

-- ---- frames and calls

-- a frame on top of a stack, with the value that arrives at it: its variables are known, code may be where it stands, and the value is held, and
-- one that is taken there
pub record IsFine (p : Program) (frame : Frame Position) (arriving : Option Value) : Type 0 where
  pub variables : FineFrame p (Stays p) frame
  pub may : may_be p frame.function frame.point ≡ true
  pub held : IsHeldIf (Stays p) arriving
  pub takes : (v : Value) → arriving ≡ Some v → TakesPosition p frame.function frame.point v

-- the arguments of a call: each fits the type of its parameter, which is scalar, and is held
pub record IsGiven (p : Program) (f : Text) (arguments : List Value) : Type 0 where
  pub fit : (g : Function) → function_named p f ≡ Some g → FitAll (parameter_types g) arguments × AreScalar (parameter_types g)
  pub held : All (IsHeld (Stays p)) arguments

-- what is known of a state: of the frame that runs, and of the item that is taken next
pub record RunsWell (p : Program) (s : State Position (Thread Position)) : Type 0 where
  pub running : (frame : Frame Position) (below : List (Frame Position)) (o : Option Value) → s.running ≡ Some (record { frames = frame ∷ below; arriving = o }) → IsFine p frame o
  pub result : (d : Due (Thread Position)) (ds : List (Due (Thread Position))) → s.agenda.round ≡ d ∷ ds → Fits (TyInt Int) d.result
  pub arguments : (f : Text) (vs : List Value) (v : Value) (ds : List (Due (Thread Position))) → s.agenda.round ≡ record { item = Pending f vs; result = v } ∷ ds → IsGiven p f vs
  -- what is to begin is `main`, or a cps function
  pub begins : (f : Text) (vs : List Value) (v : Value) (ds : List (Due (Thread Position))) → s.agenda.round ≡ record { item = Pending f vs; result = v } ∷ ds → IsLayeredThread {P = Position} p (Pending f vs)
