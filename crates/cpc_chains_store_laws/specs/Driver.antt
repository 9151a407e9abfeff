-- The driver of the pieces: it takes up one frame after the other until a piece gives null.
use Rattle.std.specs.Prelude.{◌≡◌, ℕ, true, List, [], ◌∷◌, ◌++◌, slice_set, codes, pos, Some, None}
use Rattle.cpc_base.specs.Bytes.{Text}
use Rattle.cpc_num.specs.declared.kinds.Kind.TheVariants.{Int}
use Rattle.cpc_num.specs.declared.kinds.Op.TheVariants.{Ne}
use Rattle.cpc_tree.specs.declared.program.Mode.TheVariants.{Native}
use Rattle.cpc_tree.specs.Syntax.{Ty, TyVoid, TyInt, TyPointer, TyCode, TyStruct, NoTy, AndTy, Expr, ENamed, EInteger, EBinary, EArrow, Exprs, NoExpr, AndExpr, Stmt, Block, Declare, Assign, Call, If, While, Stmts, NoStmt, AndStmt, Absent, Variable, Function, Program}
use Rattle.cpc_tree.specs.Typing.{Scope, AFunction, named, function_named, same_type, function_type, parameter_types}
use Rattle.cpc_tree.specs.Points.{Nth, TheTest, TheBody, Path, Point, Arrival}
use Rattle.cpc_store.specs.declared.values.Class.TheVariants.{Frame}
use Rattle.cpc_store.specs.Store.{Value, Store, blocks, with_blocks}
use Rattle.cpc_meaning.specs.Eval.{Slot, Register}
use Rattle.cpc_tree.specs.Trace.{Mark}
use Rattle.cpc_meaning.specs.Agenda.{Agenda, Due}
use Rattle.cpc_meaning.specs.Plain.{Frame as CallFrame}
use Rattle.cpc_meaning.specs.Trees.{first_point}
use Rattle.cpc_meaning.specs.Events.{Callback}
use Rattle.cpc_chains_store_laws.specs.Chains.{Saved, frame_cells}
use Rattle.cpc_convert_flat_laws.specs.Structs.{IsStruct}
use Rattle.cpc_convert_flat_laws.specs.Locals.{Save}
use Rattle.cpc_chains_store_laws.specs.Frames.{asks_block, fills_frame}
use Rattle.cpc_convert_flat_laws.specs.Flat.{before}
use Rattle.cpc_convert_flat_laws.specs.Walks.{World, Here, running, frame_at}

-- the driver's name
abbrev pub drive_name : Text
drive_name = codes "drive__"

-- the tag of the struct that each frame begins as
abbrev pub frame_tag : Text
frame_tag = codes "frame__"

-- the field of a frame's code
abbrev pub code_field : Text
code_field = codes "code__"

-- the field of the frame below
abbrev pub next_field : Text
next_field = codes "next__"

-- the field of the value that arrives
abbrev pub value_field : Text
value_field = codes "value__"

-- `void *`
abbrev pub any_pointer : Ty
any_pointer = TyPointer TyVoid

-- the type of a piece's code
abbrev pub piece_type : Ty
piece_type = TyCode any_pointer (AndTy any_pointer NoTy)

-- the fields that each frame begins with, where a value of this type arrives
abbrev pub head_fields : Ty → List Variable → List Variable
head_fields t rest = record { called = code_field; type = piece_type } ∷ record { called = next_field; type = any_pointer } ∷ record { called = value_field; type = t } ∷ rest

-- `struct frame__ *f__`
abbrev pub taken_name : Text
taken_name = codes "f__"

abbrev pub taken : Expr
taken = ENamed taken_name

-- `f__ != 0`
abbrev pub is_taken : Expr
is_taken = EBinary Ne taken (EInteger Int (pos 0))

-- `f__ = f__->code__(f__);`
abbrev pub takes_up : Stmt
takes_up = Call (Some taken) (EArrow taken code_field) (AndExpr taken NoExpr)

-- the driver
abbrev pub drive_function : Function
drive_function = record {
  mode = Native;
  called = drive_name;
  result = TyVoid;
  parameters = record { called = Some (codes "k__"); type = any_pointer } ∷ record { called = Some (codes "r__"); type = TyInt Int } ∷ [];
  body = Block (AndStmt (Declare taken_name (TyPointer (TyStruct frame_tag)) (Some (ENamed (codes "k__"))))
      (AndStmt (Assign (EArrow taken value_field) None (ENamed (codes "r__")))
      (AndStmt (While is_taken takes_up) NoStmt)));
}

-- its variables
abbrev pub drive_slots : (pointer result frame : Value) → List Slot
drive_slots p r f = Register p ∷ Register r ∷ Register f ∷ []

-- where it tests, and where it calls
abbrev pub drive_test : Path
drive_test = Nth 2 ∷ TheTest ∷ []

abbrev pub drive_call : Path
drive_call = Nth 2 ∷ TheBody ∷ []

-- what is known of the driver and of the struct of all frames
pub record DriverFacts (q : Program) : Type 0 where
  pub function : function_named q drive_name ≡ Some drive_function
  pub struct : IsStruct q frame_tag (head_fields (TyInt Int) [])

-- the world with this round
abbrev pub with_round : World → List (Due Callback) → World
with_round w ds = record w { agenda = record w.agenda { round = ds } }

-- the driver's frame while a piece runs
abbrev pub driving : (pointer result frame : Value) → CallFrame Point
driving p r f = frame_at drive_name (Arrival drive_call) (drive_slots p r f)

-- a piece is entered, over the driver
abbrev pub entered : Program → World → Store → Function → List Slot → (pointer result frame : Value) → Here
entered q w s f slots p r k = running w s (frame_at f.called (first_point (function_named q f.called)) slots ∷ driving p r k ∷ []) None

-- the store with a value at the first frame of a chain
abbrev pub patched : Store → ℕ → Saved → (next value : Value) → Store
patched s b f next v = with_blocks Frame (slice_set (blocks Frame s) b (Some (frame_cells f next v))) s

-- a function that takes up frames of this name
pub record IsPiece (q : Program) (piece : Text) (f : Function) : Type 0 where
  pub found : function_named q piece ≡ Some f
  pub type : same_type piece_type (function_type f.result (parameter_types f)) ≡ true

-- `x != 0`
abbrev pub is_set : Text → Expr
is_set x = EBinary Ne (ENamed x) (EInteger Int (pos 0))

-- `if (next != 0) next->value__ = e;`
abbrev pub patches : (next : Text) → Expr → Stmt
patches next e = If (is_set next) (Assign (EArrow (ENamed next) value_field) None e) Absent

-- the world with another agenda and more marks
abbrev pub with_marks : World → Agenda Callback → List Mark → World
with_marks w a marks = record w { agenda = a; trace = w.trace ++ marks }

-- the world with another agenda
abbrev pub with_agenda : World → Agenda Callback → World
with_agenda w a = record w { agenda = a }

-- the driver's name stands for its code
abbrev pub DriverMeant : Program → Scope → Type 0
DriverMeant q scope = named q scope drive_name ≡ AFunction Native TyVoid (any_pointer ∷ TyInt Int ∷ [])

-- `rt_ready(drive__, x);`
abbrev pub readies : Text → Stmt
readies x = Call None (ENamed (codes "rt_ready")) (AndExpr (ENamed drive_name) (AndExpr (ENamed x) NoExpr))

-- `rt_sleep(e, drive__, x);`
abbrev pub sleeps : Expr → Text → Stmt
sleeps e x = Call None (ENamed (codes "rt_sleep")) (AndExpr e (AndExpr (ENamed drive_name) (AndExpr (ENamed x) NoExpr)))

-- `rt_wait(e, drive__, x);`
abbrev pub waits : Expr → Text → Stmt
waits e x = Call None (ENamed (codes "rt_wait")) (AndExpr e (AndExpr (ENamed drive_name) (AndExpr (ENamed x) NoExpr)))

-- `rt_io(d, e, drive__, x);`
abbrev pub awaits : Expr → Expr → Text → Stmt
awaits d e x = Call None (ENamed (codes "rt_io")) (AndExpr d (AndExpr e (AndExpr (ENamed drive_name) (AndExpr (ENamed x) NoExpr))))

-- the lines of a spawner
abbrev pub spawns : (frame tag code next piece : Text) → List Save → Stmts
spawns e tag code next piece ps =
    AndStmt (Declare e (TyPointer (TyStruct tag)) None) (AndStmt (asks_block e tag) (before (fills_frame (ENamed e) (ENamed e) code next piece (EInteger Int (pos 0)) ps) (AndStmt (readies e) NoStmt)))

-- `rt_detach(drive__, x, f, es);`
abbrev pub detaches : (pointer function : Text) → Exprs → Stmt
detaches x f es = Call None (ENamed (codes "rt_detach")) (AndExpr (ENamed drive_name) (AndExpr (ENamed x) (AndExpr (ENamed f) es)))
