-- The variables of a piece, and what their names mean in it, as statements.
use Rattle.std.specs.Prelude.{◌≡◌, ℕ, true, List, ◌∷◌, ◌++◌, slice_get, Some}
use Rattle.cpc_tree.specs.Lists.{holds_number}
use Rattle.cpc_tree.specs.Syntax.{TyPointer, TyStruct, Variable, Function, Program}
use Rattle.cpc_tree.specs.Registers.{variables}
use Rattle.cpc_tree.specs.Typing.{ALocal, named, is_scalar}
use Rattle.cpc_forms.specs.Flow.{Place, Start}
use Rattle.cpc_chains_store_laws.specs.Driver.{any_pointer}
use Rattle.cpc_convert_flat_laws.specs.Locals.{Scalars}
use Rattle.cpc_convert_routines.specs.Names.{piece_name, pointer_name, frame_name, next_name, value_name}
use Rattle.cpc_convert_routines.specs.Routines.{Routine, routine_of, closure_of, local_of, locals_of, variable_if}
use Rattle.cpc_convert_routines.specs.Arriving.{arriving_type}
use Rattle.cpc_convert_routines.specs.Nodes.{rows_nodes}
use Rattle.cpc_chains_event.specs.Pieces.{below_if, loaded, called_so, words_of, begun, piece_function}
use Rattle.cpc_convert_routines.specs.Taken.{takes_value, any_node, is_result}
use Rattle.cpc_chains_event.specs.FlatLaws.{piece_scope}
use Rattle.cpc_convert_routines.specs.Named.{IsNamed, IsCps, IsOwner}

-- the variables of a piece in order: the pointer that it takes, the frame there, the frame below, the value that arrives, what it loads, its words, and what it begins
abbrev pub piece_locals : Program → Routine → Place → List Variable
piece_locals p r l =
    called_so pointer_name any_pointer
    ∷ called_so frame_name (TyPointer (TyStruct (piece_name r.function.called l)))
    ∷ called_so next_name (below_if (is_scalar r.function.result) r.function.called)
    ∷ variable_if (takes_value r l) (called_so value_name (arriving_type p r l)) (locals_of r (loaded r l) ++ (words_of p r l ++ locals_of r (begun r l)))

-- a variable stands somewhere in a list
abbrev pub StandsIn : Variable → List Variable → Type 0
StandsIn x xs = (i : ℕ) × (slice_get xs i ≡ Some x)

-- what is known of the variables of a piece
pub record MeansLocals (p : Program) (r : Routine) (l : Place) : Type 0 where
  -- these are all, in this order
  pub listed : variables (piece_function p r l) ≡ piece_locals p r l
  -- they are scalar, where the function's result is if it gives one
  pub scalar : (any_node r (λ node. is_result node.stood) (rows_nodes r.split l) ≡ true → is_scalar r.function.result ≡ true) → Scalars (piece_locals p r l)
  -- each is found by its name
  pub meant : (q : Program) (i : ℕ) (x : Variable) → slice_get (piece_locals p r l) i ≡ Some x → named q (piece_scope p r l) x.called ≡ ALocal i x.type
  -- those that are kept stand there, and so do the words
  pub kept : (k : ℕ) → holds_number (closure_of r l) k ≡ true → StandsIn (local_of r k) (piece_locals p r l)
  pub words : (x : Variable) → StandsIn x (words_of p r l) → StandsIn x (piece_locals p r l)

-- and at the start the boxes
pub record LocalsAreMeant (p : Program) (f : Function) : Type 0 where
  pub pieces : (l : Place) → IsOwner (routine_of p f) l → MeansLocals p (routine_of p f) l
  pub boxes : (k : ℕ) → holds_number (routine_of p f).boxes k ≡ true → StandsIn (local_of (routine_of p f) k) (piece_locals p (routine_of p f) Start)

abbrev pub AllLocalsAreMeant : Type 0
AllLocalsAreMeant = (p : Program) → IsNamed p → (f : Function) → IsCps p f → LocalsAreMeant p f
