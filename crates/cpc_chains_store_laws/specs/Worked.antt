-- A worked program of frames, pieces and the driver.
use Rattle.std.specs.Prelude.{◌≡◌, ◌+◌, List, [], ◌∷◌, pos, Some, None, codes}
use Rattle.cpc_base.specs.Bytes.{Text}
use Rattle.cpc_num.specs.declared.kinds.Kind.TheVariants.{Int}
use Rattle.cpc_num.specs.declared.kinds.Op.TheVariants.{Add}
use Rattle.cpc_tree.specs.declared.program.Mode.TheVariants.{Native}
use Rattle.cpc_tree.specs.Syntax.{Ty, TyVoid, TyInt, Expr, ENamed, EInteger, EBinary, NoExpr, AndExpr, Block, Empty, Assign, Call, Return, Stmts, NoStmt, AndStmt, Variable, Item, StructItem, FunctionItem, Program, TyPointer, TyStruct}
use Rattle.cpc_tree.specs.Trace.{Output, Ended}
use Rattle.cpc_meaning.specs.History.{History}
use Rattle.cpc_meaning.specs.Events.{event}
use Rattle.cpc_tree.specs.Points.{Point}
use Rattle.cpc_store.specs.declared.values.Class.TheVariants.{Frame}
use Rattle.cpc_store.specs.Store.{Unset, Whole, At, Store, next_block, alloc}
use Rattle.cpc_meaning.specs.Eval.{Slot, Register}
use Rattle.cpc_meaning.specs.Plain.{Frame as CallFrame}
use Rattle.cpc_chains_store_laws.specs.Chains.{frame_cells}
use Rattle.cpc_convert_flat_laws.specs.Walks.{World, Walk, at_line}
use Rattle.cpc_convert_flat_laws.specs.Flat.{before}
use Rattle.cpc_convert_flat_laws.specs.Locals.{Save, Load}
use Rattle.cpc_chains_store_laws.specs.Frames.{asks_block, fills_frame, frame_through, takes_frame}
use Rattle.cpc_chains_store_laws.specs.Driver.{drive_function, frame_tag, code_field, next_field, value_field, any_pointer, head_fields, patches, DriverFacts, readies, spawns}

-- cps int g(int a) { cpc_yield(); return a + 1; }
-- cps void f(int n) { int x; x = g(n); cpc_print(x); }
-- int main(void) { cpc_spawn f(6); return 0; }

-- `int`
abbrev pub int : Ty
int = TyInt Int

-- a field of a type
abbrev pub field_of : Text → Ty → Variable
field_of x t = record { called = x; type = t }

-- a load of a field into a local of its name
abbrev pub load_of : Text → Ty → Load
load_of x t = record { variable = x; type = t; field = x }

-- a variable that is saved in the field of its name
abbrev pub save_of : Text → Save
save_of x = record { field = x; variable = x }

-- a pointer to any frame
abbrev pub to_frame : Ty
to_frame = TyPointer (TyStruct frame_tag)

-- a pointer to a frame at which the value of g arrives
abbrev pub to_value : Ty
to_value = TyPointer (TyStruct (codes "g__value"))

-- a new frame through a pointer to any frame
abbrev pub frame_lines : (pointer tag piece : Text) → (below : Expr) → List Save → Stmts → Stmts
frame_lines to tag piece below saves rest = AndStmt (asks_block to tag) (before (fills_frame (ENamed to) (frame_through to tag) code_field next_field piece below saves) rest)

-- a piece that takes the frame of its name
abbrev pub piece_of : Text → List Load → List Variable → Stmts → Item
piece_of x ls ds rest = FunctionItem (record {
  mode = Native;
  called = x;
  result = any_pointer;
  parameters = record { called = Some (codes "k__"); type = any_pointer } ∷ [];
  body = Block (takes_frame (codes "k__") (codes "e__") x ls ds rest);
})

-- names of the program
abbrev pub n : Text
n = codes "n__0"

abbrev pub a : Text
a = codes "a__0"

abbrev pub x : Text
x = codes "x__1"

abbrev pub to : Text
to = codes "to__"

abbrev pub under : Text
under = codes "under__"

abbrev pub result : Text
result = codes "result__"

-- the items behind the struct of all frames
abbrev pub others : List Item
others =
    StructItem (codes "g__value") (head_fields int [])
    ∷ StructItem (codes "g__start") (head_fields int (field_of a int ∷ []))
    ∷ StructItem (codes "g__at1") (head_fields int (field_of a int ∷ []))
    ∷ StructItem (codes "f__start") (head_fields int (field_of n int ∷ []))
    ∷ StructItem (codes "f__at1") (head_fields int [])
    ∷ FunctionItem drive_function
    ∷ FunctionItem (record {
      mode = Native;
      called = codes "f__spawn";
      result = TyVoid;
      parameters = record { called = Some n; type = int } ∷ [];
      body = Block (spawns (codes "e__") (codes "f__start") code_field next_field (codes "f__start") (save_of n ∷ []));
    })
    ∷ piece_of (codes "f__start") (load_of next_field any_pointer ∷ load_of n int ∷ []) (field_of to to_frame ∷ field_of under to_frame ∷ [])
    (frame_lines under (codes "f__at1") (codes "f__at1") (ENamed next_field) []
    (frame_lines to (codes "g__start") (codes "g__start") (ENamed under) (record { field = a; variable = n } ∷ []) (AndStmt (Return (Some (ENamed to))) NoStmt)))
    ∷ piece_of (codes "g__start") (load_of next_field to_value ∷ load_of a int ∷ []) (field_of to to_frame ∷ [])
    (frame_lines to (codes "g__at1") (codes "g__at1") (ENamed next_field) (save_of a ∷ []) (AndStmt (readies to) (AndStmt (Return (Some (EInteger Int (pos 0)))) NoStmt)))
    ∷ piece_of (codes "g__at1") (load_of next_field to_value ∷ load_of a int ∷ []) (field_of result int ∷ [])
    (AndStmt Empty (AndStmt (Assign (ENamed result) None (EBinary Add (ENamed a) (EInteger Int (pos 1)))) (AndStmt (patches next_field (ENamed result)) (AndStmt (Return (Some (ENamed next_field))) NoStmt))))
    ∷ piece_of (codes "f__at1") (load_of next_field any_pointer ∷ load_of value_field int ∷ []) (field_of x int ∷ [])
    (AndStmt (Assign (ENamed x) None (ENamed value_field)) (AndStmt (Call None (ENamed (codes "cpc_print")) (AndExpr (ENamed x) NoExpr)) (AndStmt (Return (Some (ENamed next_field))) NoStmt)))
    ∷ FunctionItem (record {
      mode = Native;
      called = codes "main";
      result = int;
      parameters = [];
      body = Block (AndStmt (Call None (ENamed (codes "f__spawn")) (AndExpr (EInteger Int (pos 6)) NoExpr)) (AndStmt (Return (Some (EInteger Int (pos 0)))) NoStmt));
    })
    ∷ []

-- the whole program
abbrev pub program : Program
program = StructItem frame_tag (head_fields int []) ∷ others

-- a history in which nothing comes from outside
abbrev pub quiet : History
quiet = record { polls = []; answers = []; section_bound = 1000 }

-- it prints 7 and ends, with nothing that waits and no frame that is left
pub record WorkedProgramRuns : Type 0 where
  pub trace : (event program quiet 120).trace ≡ Output (55 ∷ 10 ∷ []) ∷ []
  pub outcome : (event program quiet 120).outcome ≡ Ended 0
  pub frames : (event program quiet 120).store.frames ≡ None ∷ None ∷ None ∷ None ∷ []
  pub driver : DriverFacts program

-- ---- the frame that g's first piece makes before it waits

-- what stands behind the frame
abbrev pub behind : Stmts
behind = AndStmt (readies to) (AndStmt (Return (Some (EInteger Int (pos 0)))) NoStmt)

-- the frame below is that of block 1, and the argument is 6
abbrev pub slots : Slot → List Slot
slots new = Register (At Frame 2 0) ∷ Register (At Frame 2 0) ∷ Register (At Frame 1 0) ∷ Register (Whole Int (pos 6)) ∷ new ∷ []

-- it makes it in four steps
abbrev pub FrameIsMade : Type 0
FrameIsMade =
    (w : World) (below : List (CallFrame Point)) (s : Store)
    → Walk program w.trace 4 (at_line w (codes "g__start") below 5 (frame_lines to (codes "g__at1") (codes "g__at1") (ENamed next_field) (save_of a ∷ []) behind) (slots (Register Unset)) s)
    (at_line w (codes "g__start") below (8 + 1) behind (slots (Register (At Frame (next_block Frame s) 0))) (alloc Frame (frame_cells (record { piece = codes "g__at1"; values = Whole Int (pos 6) ∷ [] }) (At Frame 1 0) Unset) s))
