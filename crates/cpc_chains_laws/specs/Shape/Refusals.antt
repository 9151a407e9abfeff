-- What has not the shape of an event program: one with a function for every statement, and one in which a statement is missing.
use Rattle.std.specs.Prelude.{ℕ, List, [], ◌∷◌, ◌++◌, map, Some, None, codes, pos}
use Rattle.cpc_base.specs.Bytes.{Text}
use Rattle.cpc_num.specs.declared.kinds.Kind.TheVariants.{Int}
use Rattle.cpc_tree.specs.declared.program.Mode.TheVariants.{Native, Cps}
use Rattle.cpc_tree.specs.Syntax.{TyVoid, TyInt, TyPointer, TyStruct, Expr, ENamed, EInteger, NoExpr, AndExpr, Stmt, Block, Declare, Call, Return, NoStmt, AndStmt, FunctionItem, Function, Program}
use Rattle.cpc_meaning.specs.Start.{main_name}
use Rattle.cpc_convert_common.specs.Converted.{prototype, function_item}
use Rattle.cpc_forms.specs.Flow.{Place, Start, At}
use Rattle.cpc_chains_store_laws.specs.Driver.{next_field, any_pointer, drive_function}
use Rattle.cpc_convert_flat_laws.specs.Flat.{before}
use Rattle.cpc_chains_store_laws.specs.Frames.{asks_block, frees_frame}
use Rattle.cpc_convert_flat_laws.specs.Locals.{loads_one}
use Rattle.cpc_convert_routines.specs.Kept.{kept_function}
use Rattle.cpc_chains_event.specs.Lines.{hands_over}
use Rattle.cpc_convert_routines.specs.Names.{piece_name, pointer_name, frame_name, next_name, to_name}
use Rattle.cpc_chains_event.specs.Pieces.{called_so, parameter_of, spawner_function}
use Rattle.cpc_chains_laws.specs.Shape.Help.{names_code, links}
use Rattle.cpc_chains_laws.specs.Shape.Shape.{Shape}

-- an integer literal
abbrev pub literal : ℕ → Expr
literal n = EInteger Int (pos n)

-- `cpc_print(n);`
abbrev pub prints : ℕ → Stmt
prints n = Call None (ENamed (codes "cpc_print")) (AndExpr (literal n) NoExpr)

abbrev pub f_name : Text
f_name = codes "f"

-- `cps void f(void) { cpc_print(1); cpc_print(2); }`
abbrev pub f_function : Function
f_function = record { mode = Cps; called = f_name; result = TyVoid; parameters = []; body = Block (AndStmt (prints 1) (AndStmt (prints 2) NoStmt)) }

-- `int main(void) { return 0; }`
abbrev pub idle_main : Function
idle_main = record { mode = Native; called = main_name; result = TyInt Int; parameters = []; body = Block (AndStmt (Return (Some (literal 0))) NoStmt) }

-- both
abbrev pub two_prints : Program
two_prints = FunctionItem f_function ∷ FunctionItem idle_main ∷ []

-- a piece of f that takes up its frame, and then does this
abbrev pub piece : Place → List Stmt → Function
piece l ss = record {
  mode = Native;
  called = piece_name f_name l;
  result = any_pointer;
  parameters = parameter_of (called_so pointer_name any_pointer) ∷ [];
  body = Block (before (Declare frame_name (TyPointer (TyStruct (piece_name f_name l))) (Some (ENamed pointer_name))
      ∷ loads_one frame_name (record { variable = next_name; type = any_pointer; field = next_field }) ∷ frees_frame pointer_name ∷ ss) NoStmt);
}

-- an event program of the driver, `main`, the spawner of f, and these functions
abbrev pub event : List Function → Program
event fs = map prototype fs ++ (FunctionItem drive_function ∷ FunctionItem (kept_function idle_main) ∷ FunctionItem (spawner_function f_function) ∷ map function_item fs)

-- the first print and the second in functions of their own: the first gives the driver a frame of the second
abbrev pub first_print : Function
first_print = piece Start (prints 1 ∷ asks_block to_name (piece_name f_name (At 2)) ∷ names_code to_name (piece_name f_name (At 2)) ∷ links to_name next_name ∷ hands_over to_name ∷ [])

abbrev pub second_print : Function
second_print = piece (At 2) (prints 2 ∷ hands_over next_name ∷ [])

abbrev pub a_function_each : Program
a_function_each = event (first_print ∷ second_print ∷ [])

-- the first print alone
abbrev pub one_print : Function
one_print = piece Start (prints 1 ∷ hands_over next_name ∷ [])

abbrev pub one_dropped : Program
one_dropped = event (one_print ∷ [])

-- functions that no point of the source asks for are refused
abbrev pub EveryStatementAFunction : Type 0
EveryStatementAFunction = ¬ (Shape two_prints a_function_each)

-- so is a program without one of the statements
abbrev pub AStatementIsDropped : Type 0
AStatementIsDropped = ¬ (Shape two_prints one_dropped)
