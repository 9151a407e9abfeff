-- The structs of an event program, as statements.
use Rattle.std.specs.Prelude.{◌≡◌, ℕ, true, [], Some}
use Rattle.cpc_num.specs.declared.kinds.Kind.TheVariants.{Int}
use Rattle.cpc_tree.specs.Syntax.{TyInt, TyStruct, Variable, Function, Program}
use Rattle.cpc_tree.specs.Typing as Typing
use Rattle.cpc_tree.specs.Typing.{is_scalar}
use Rattle.cpc_base.specs.Bytes.{Text}
use Rattle.cpc_convert_common.specs.Members.{Has}
use Rattle.cpc_convert_image_laws.specs.Relations.{Less, Extends}
use Rattle.cpc_forms.specs.Flow.{Start, At}
use Rattle.cpc_convert_flat_laws.specs.Structs.{IsStruct}
use Rattle.cpc_chains_store_laws.specs.Driver.{frame_tag, head_fields}
use Rattle.cpc_convert_routines.specs.Names.{piece_name, value_tag, box_tag}
use Rattle.cpc_convert_routines.specs.Routines.{routine_of, closure_of, variable_of, locals_of, passed}
use Rattle.cpc_convert_routines.specs.Arriving.{arriving_type}
use Rattle.cpc_chains_event.specs.Converted.{converted}
use Rattle.cpc_convert_routines.specs.Named.{IsNamed, IsCps}

-- the struct of a box has one field, its variable, and is as large as it
pub record IsBox (p q : Program) (tag : Text) (x : Variable) : Type 0 where
  pub field : Typing.field q tag x.called ≡ Some (0, x.type)
  pub size : Less (Typing.size p x.type) (Typing.size q (TyStruct tag))

-- the types of the source are complete, with the same cells; any frame; a frame at which the value of a function arrives; the first frame of a call; a frame of a leader: each has a cell for each of its fields; and boxes
pub record HasStructs (p : Program) : Type 0 where
  pub types : Extends p (converted p)
  pub any : (f : Function) → IsCps p f → IsStruct (converted p) frame_tag (head_fields (TyInt Int) [])
  pub value : (f : Function) → IsCps p f → is_scalar f.result ≡ true → IsStruct (converted p) (value_tag f.called) (head_fields f.result [])
  pub start : (f : Function) → IsCps p f → IsStruct (converted p) (piece_name f.called Start) (head_fields (TyInt Int) (passed f))
  pub leader : (f : Function) → IsCps p f → (n : ℕ) → Has n (routine_of p f).split.leaders
      → IsStruct (converted p) (piece_name f.called (At n)) (head_fields (arriving_type p (routine_of p f) (At n)) (locals_of (routine_of p f) (closure_of (routine_of p f) (At n))))
  pub box : (f : Function) → IsCps p f → (k : ℕ) → Has k (routine_of p f).boxes → IsBox p (converted p) (box_tag f.called k) (variable_of (routine_of p f) k)

abbrev pub StructsAreThere : Type 0
StructsAreThere = (p : Program) → IsNamed p → HasStructs p
