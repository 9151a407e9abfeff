-- What is known of a frame that a leader takes up, and of the arguments of a call that its start takes up.
use Rattle.std.specs.Prelude.{◌≡◌, ℕ, Bool, true, false, List, slice_get, Option, Some}
use Rattle.cpc_base.specs.Bytes.{Text}
use Rattle.cpc_tree.specs.Lists.{holds_number}
use Rattle.cpc_tree.specs.Syntax.{Ty, Function, Program}
use Rattle.cpc_tree.specs.Typing.{function_named}
use Rattle.cpc_store.specs.Store.{Value}
use Rattle.cpc_meaning.specs.Eval.{Slot, Register, Boxed}
use Rattle.cpc_meaning.specs.Plain.{Frame}
use Rattle.cpc_forms.specs.Flow.{At}
use Rattle.cpc_forms.specs.Split.{Position, InGraph}
use Rattle.cpc_meaning.specs.Eval.{Fits}
use Rattle.cpc_convert_routines.specs.Given.{AllFit, ParametersAreScalar}
use Rattle.cpc_convert_routines.specs.Arriving.{arriving_type}
use Rattle.cpc_convert_routines.specs.Named.{IsCps}
use Rattle.cpc_convert_routines.specs.Taken.{takes_value}
use Rattle.cpc_convert_routines.specs.Routines.{routine_of, closure_of, is_plain, variable_of, passed}
use Rattle.cpc_convert_routines.specs.Nodes.{is_own}
use Rattle.cpc_convert_image_laws.specs.Stacks.{frame_of}

-- a variable in its slot: a register holds a value of its type, or it is a box
pub data KeptIn (slots : List Slot) (t : Ty) (k : ℕ) : (is_register : Bool) → Type 0 where
  IsValue : (v : Value) → slice_get slots k ≡ Some (Register v) → Fits t v → KeptIn slots t k true
  IsBlock : (n : ℕ) → slice_get slots k ≡ Some (Boxed n) → KeptIn slots t k false

-- A frame of a cps function at a node that owns itself, so that it leads; with each variable that the leader keeps; and where a value arrives
-- that the leader puts somewhere, it is one of the type that arrives there.
pub record FrameTaken (p : Program) (f : Function) (n : ℕ) (slots : List Slot) (arriving : Option Value) : Type 0 where
  pub cps : IsCps p f
  pub there : is_own (routine_of p f).split (At n) n ≡ true
  pub kept : (k : ℕ) → holds_number (closure_of (routine_of p f) (At n)) k ≡ true → KeptIn slots (variable_of (routine_of p f) k).type k (is_plain (routine_of p f) k)
  pub arrives : (v : Value) → arriving ≡ Some v → takes_value (routine_of p f) (At n) ≡ true → Fits (arriving_type p (routine_of p f) (At n)) v

-- so it is of a function of this name
pub record LeaderTaken (p : Program) (x : Text) (n : ℕ) (slots : List Slot) (arriving : Option Value) : Type 0 where
  pub function : Function
  pub called : function.called ≡ x
  pub taken : FrameTaken p function n slots arriving

-- the arguments of a call of a cps function that is to begin: its parameters are scalar, and each has a value of its type
pub record CallTaken (p : Program) (f : Function) (arguments : List Value) : Type 0 where
  pub cps : IsCps p f
  pub scalar : ParametersAreScalar f
  pub fit : AllFit (passed f) arguments

-- what is known of frames says so of those that wait where a leader begins, and what is known of calls of those that are to begin
abbrev pub FramesTaken : Program → (Frame Position → Option Value → Type 0) → Type 0
FramesTaken p fine = (x : Text) (n : ℕ) (slots : List Slot) (arriving : Option Value) → fine (frame_of x (InGraph (At n) n) slots) arriving → LeaderTaken p x n slots arriving

abbrev pub CallsTaken : Program → (Text → List Value → Type 0) → Type 0
CallsTaken p given = (x : Text) (f : Function) (arguments : List Value) → function_named p x ≡ Some f → given x arguments → CallTaken p f arguments × (f.called ≡ x)
