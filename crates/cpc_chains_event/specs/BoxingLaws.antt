-- The boxes of a call, as the start of an event program makes them, as statements.
use Rattle.std.specs.Prelude.{◌≡◌, ℕ, suc, ◌<◌, ◌^◌, List, [], ◌∷◌, slice_get, Option, Some}
use Rattle.cpc_tree.specs.Syntax.{Variable, Function, Program}
use Rattle.cpc_tree.specs.Registers.{variables}
use Rattle.cpc_tree.specs.Typing.{size}
use Rattle.cpc_store.specs.Store.{Value}
use Rattle.cpc_forms.specs.Flow.{Start}
use Rattle.cpc_convert_flat_laws.specs.Boxes.{Boxing}
use Rattle.cpc_chains_store_laws.specs.Chains.{frame_cells}
use Rattle.cpc_convert_routines.specs.Names.{piece_name, frame_name}
use Rattle.cpc_convert_routines.specs.Routines.{Routine, routine_of, local_of, passed}
use Rattle.cpc_chains_event.specs.Pieces.{boxing_of}
use Rattle.cpc_chains_event.specs.Converted.{converted}
use Rattle.cpc_chains_event.specs.FlatLaws.{piece_scope, piece_count}
use Rattle.cpc_convert_routines.specs.Named.{IsNamed, IsCps}
use Rattle.cpc_chains_event.specs.LocalLaws.{piece_locals}
use Rattle.cpc_convert_routines.specs.Given.{AllFit, ParametersAreScalar}

-- the types of all variables are complete, and their sizes can be told
abbrev pub VariablesHaveSizes : Program → Function → Type 0
VariablesHaveSizes p f = (k : ℕ) (x : Variable) → slice_get (variables f) k ≡ Some x → (m : ℕ) × (size p x.type ≡ Some m) × (m < 2 ^ 63)

-- these are the places of the boxes among the variables of the start, from the k-th variable on
abbrev pub ArePlaces : Program → Routine → (k : ℕ) → List (Option ℕ) → Type 0
ArePlaces p r k [] = Unit {0}
ArePlaces p r k (o ∷ places) = ((i : ℕ) → o ≡ Some i → slice_get (piece_locals p r Start) i ≡ Some (local_of r k)) × ArePlaces p r (suc k) places

-- the start makes the boxes of a call, as the call does, from the arguments in its frame
pub record StartBoxes (p : Program) (f : Function) (next v : Value) (vs : List Value) : Type 0 where
  pub places : List (Option ℕ)
  pub stand : ArePlaces p (routine_of p f) 0 places
  pub boxing : Boxing p f (converted p) (piece_scope p (routine_of p f) Start) (piece_count p (routine_of p f) Start) 1 (piece_name f.called Start) frame_name (frame_cells (record { piece = piece_name f.called Start; values = vs }) next v) 0 (variables f) vs
      places (boxing_of (routine_of p f) Start)

abbrev pub AllStartsBox : Type 0
AllStartsBox = (p : Program) → IsNamed p → (f : Function) → IsCps p f → ParametersAreScalar f → VariablesHaveSizes p f → (next v : Value) (vs : List Value) → AllFit (passed f) vs → StartBoxes p f next v vs
