-- The boxes that a piece gives back, and the arguments that it puts into the first frame of a call, as statements.
use Rattle.std.specs.Prelude.{◌≡◌, ℕ, suc, true, false, List, [], ◌∷◌, map, length}
use Rattle.cpc_num.specs.declared.kinds.Fault.{Fault}
use Rattle.cpc_tree.specs.Lists.{holds_number}
use Rattle.cpc_tree.specs.Syntax.{Exprs, Function, Program}
use Rattle.cpc_tree.specs.Registers.{variables}
use Rattle.cpc_tree.specs.Typing.{Scope, parameter_types}
use Rattle.cpc_store.specs.declared.values.Class.TheVariants.{Auto}
use Rattle.cpc_store.specs.Store.{Value, At as Pointer, Store}
use Rattle.cpc_meaning.specs.Eval.{Slot, Register, Boxed}
use Rattle.cpc_convert_image_laws.specs.Images.{Readings, images}
use Rattle.cpc_forms.specs.Flow.{Start}
use Rattle.cpc_convert_flat_laws.specs.Boxes.{Unboxing}
use Rattle.cpc_convert_flat_laws.specs.Locals.{Holds}
use Rattle.cpc_chains_store_laws.specs.Frames.{Giving, GivingFaults}
use Rattle.cpc_convert_routines.specs.Names.{piece_name}
use Rattle.cpc_convert_routines.specs.Routines.{Routine, routine_of, local_of}
use Rattle.cpc_chains_event.specs.Lines.{gives_from}
use Rattle.cpc_chains_event.specs.Converted.{converted}
use Rattle.cpc_convert_routines.specs.Named.{IsNamed, IsCps}
use Rattle.cpc_convert_routines.specs.Given.{ParametersAreScalar, GivesAll, OneFaults}

-- ---- boxes

-- of these variables, from the k-th on, the boxes have blocks, to which their locals point
abbrev pub BoxesStand : (q : Program) (scope : Scope) (slots : List Slot) → Routine → (k : ℕ) → List Slot → Type 0
BoxesStand q scope slots r k [] = Unit {0}
BoxesStand q scope slots r k (Register v ∷ xs) = (holds_number r.boxes k ≡ false) × BoxesStand q scope slots r (suc k) xs
BoxesStand q scope slots r k (Boxed b ∷ xs) = (holds_number r.boxes k ≡ true) × Holds q scope slots (local_of r k).called (local_of r k).type (Pointer Auto b 0) × BoxesStand q scope slots r (suc k) xs

-- a piece gives back each box of its function, in order
abbrev pub BoxesAreReturned : Type 0
BoxesAreReturned =
    (p : Program) (f : Function) → IsNamed p → IsCps p f → (q : Program) (scope : Scope) (slots variables_slots : List Slot) → length variables_slots ≡ length (variables f) → BoxesStand q scope slots (routine_of p f) 0 variables_slots
    → Unboxing q scope slots variables_slots (map (λ k. (local_of (routine_of p f) k).called) (routine_of p f).boxes)

-- ---- arguments

-- the arguments of a call are put into the fields of its first frame, in order
pub record ArgumentsAreGiven (p : Program) (g : Function) : Type 0 where
  pub given : (scope : Scope) (slots : List Slot) (s : Store) (names : Readings) (es : Exprs) (vs : List Value) → GivesAll (converted p) scope slots s (parameter_types g) (images names es) vs
      → Giving (converted p) scope slots (piece_name g.called Start) s 3 (gives_from 0 (variables g) names es) vs
  pub faults : (scope : Scope) (slots : List Slot) (s : Store) (names : Readings) (es : Exprs) (fault : Fault) → OneFaults (converted p) scope slots s fault (parameter_types g) (images names es)
      → GivingFaults (converted p) scope slots (piece_name g.called Start) s fault 3 (gives_from 0 (variables g) names es)

abbrev pub AllArgumentsAreGiven : Type 0
AllArgumentsAreGiven = (p : Program) → IsNamed p → (g : Function) → IsCps p g → ParametersAreScalar g → ArgumentsAreGiven p g
