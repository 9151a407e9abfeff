-- What is saved in the frames of an event program, and loaded from them, as statements.
use Rattle.std.specs.Prelude.{◌≡◌, ℕ, true, List, ◌∷◌, map, get_or}
use Rattle.cpc_tree.specs.Syntax.{Function, Program}
use Rattle.cpc_tree.specs.Typing.{Scope}
use Rattle.cpc_store.specs.Store.{Value, Unset}
use Rattle.cpc_meaning.specs.Eval.{Slot, Fits}
use Rattle.cpc_convert_common.specs.Members.{Has}
use Rattle.cpc_forms.specs.Flow.{Start, At}
use Rattle.cpc_chains_store_laws.specs.Chains.{frame_cells}
use Rattle.cpc_chains_store_laws.specs.Driver.{any_pointer}
use Rattle.cpc_convert_flat_laws.specs.Locals.{Saving, Loading}
use Rattle.cpc_convert_routines.specs.Names.{piece_name, frame_name}
use Rattle.cpc_convert_routines.specs.Routines.{routine_of, closure_of, local_of, locals_of, passed}
use Rattle.cpc_convert_routines.specs.Arriving.{arriving_type}
use Rattle.cpc_chains_event.specs.Lines.{save_of}
use Rattle.cpc_convert_routines.specs.Taken.{takes_value}
use Rattle.cpc_chains_event.specs.Pieces.{loaded, loads_of}
use Rattle.cpc_chains_event.specs.Converted.{converted}
use Rattle.cpc_convert_routines.specs.Named.{IsNamed, IsCps}
use Rattle.cpc_convert_routines.specs.Given.{AllFit, AllHold, value_before, ParametersAreScalar}

-- what a piece saves for a leader are the values of the leader's frame; what a leader's piece loads are the values there, and what the start loads are arguments
pub record FramesAreFilled (p : Program) (f : Function) : Type 0 where
  pub saves : (n : ℕ) → Has n (routine_of p f).split.leaders → (scope : Scope) (slots : List Slot) (vs : List Value) → AllHold (converted p) scope slots (locals_of (routine_of p f) (closure_of (routine_of p f) (At n))) vs
      → Saving (converted p) scope slots (piece_name f.called (At n)) 3 (map (λ k. save_of (local_of (routine_of p f) k)) (closure_of (routine_of p f) (At n))) vs
  pub loads : (n : ℕ) → Has n (routine_of p f).split.leaders → (next v : Value) (vs : List Value) → Fits any_pointer next → (takes_value (routine_of p f) (At n) ≡ true → Fits (arriving_type p (routine_of p f) (At n)) v)
      → AllFit (locals_of (routine_of p f) (closure_of (routine_of p f) (At n))) vs
      → Loading (converted p) (piece_name f.called (At n)) frame_name (frame_cells (record { piece = piece_name f.called (At n); values = vs }) next v) (loads_of p (routine_of p f) (At n)) (next ∷ value_before (takes_value (routine_of p f) (At n)) v vs)
  pub takes : ParametersAreScalar f → (next v : Value) (vs : List Value) → Fits any_pointer next → AllFit (passed f) vs
      → Loading (converted p) (piece_name f.called Start) frame_name (frame_cells (record { piece = piece_name f.called Start; values = vs }) next v) (loads_of p (routine_of p f) Start) (next ∷ map (λ k. get_or vs k Unset) (loaded (routine_of p f) Start))

abbrev pub AllFramesAreFilled : Type 0
AllFramesAreFilled = (p : Program) → IsNamed p → (f : Function) → IsCps p f → FramesAreFilled p f
