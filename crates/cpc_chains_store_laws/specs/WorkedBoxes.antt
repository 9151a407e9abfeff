-- A worked program in which a piece makes a box, another one gives it back, and a pointer leads into it.
use Rattle.std.specs.Prelude.{◌≡◌, [], ◌∷◌, pos, Some, None, codes}
use Rattle.cpc_base.specs.Bytes.{Text}
use Rattle.cpc_num.specs.declared.kinds.Kind.TheVariants.{Int}
use Rattle.cpc_num.specs.declared.kinds.Op.TheVariants.{Add}
use Rattle.cpc_tree.specs.declared.program.Mode.TheVariants.{Native}
use Rattle.cpc_tree.specs.declared.program.UnaryOp.TheVariants.{Dereference, AddressOf}
use Rattle.cpc_tree.specs.Syntax.{Ty, TyVoid, TyPointer, TyStruct, ENamed, EInteger, EUnary, EBinary, EArrow, ESizeOf, NoExpr, AndExpr, Block, Empty, Assign, Call, Return, NoStmt, AndStmt, StructItem, FunctionItem, Program}
use Rattle.cpc_tree.specs.Trace.{Output, Ended}
use Rattle.cpc_meaning.specs.Events.{event}
use Rattle.cpc_chains_store_laws.specs.Frames.{opens_frame, frees_frame}
use Rattle.cpc_convert_flat_laws.specs.Boxes.{boxes_one, fills_box, unboxes_one}
use Rattle.cpc_chains_store_laws.specs.Driver.{drive_function, frame_tag, code_field, next_field, any_pointer, head_fields, readies, spawns}
use Rattle.cpc_chains_store_laws.specs.Worked.{int, to_frame, field_of, load_of, save_of, frame_lines, piece_of, n, to, quiet}

-- cps void f(int n) { int *p; p = &n; cpc_yield(); *p = *p + 1; cpc_print(n); }
-- int main(void) { cpc_spawn f(6); return 0; }

abbrev pub p : Text
p = codes "p__1"

-- the tag of the box of n
abbrev pub box : Text
box = codes "f__box0"

-- a pointer to it
abbrev pub to_box : Ty
to_box = TyPointer (TyStruct box)

abbrev pub boxed_program : Program
boxed_program =
    StructItem frame_tag (head_fields int [])
    ∷ StructItem (codes "f__start") (head_fields int (field_of n int ∷ []))
    ∷ StructItem (codes "f__at1") (head_fields int (field_of n to_box ∷ field_of p (TyPointer int) ∷ []))
    ∷ FunctionItem drive_function
    ∷ StructItem box (field_of (codes "n") int ∷ [])
    ∷ FunctionItem (record {
      mode = Native;
      called = codes "f__spawn";
      result = TyVoid;
      parameters = record { called = Some n; type = int } ∷ [];
      body = Block (spawns (codes "e__") (codes "f__start") code_field next_field (codes "f__start") (save_of n ∷ []));
    })
    ∷ FunctionItem (record {
      mode = Native;
      called = codes "f__start";
      result = any_pointer;
      parameters = record { called = Some (codes "k__"); type = any_pointer } ∷ [];
      body = Block (opens_frame (codes "k__") (codes "e__") (codes "f__start") (load_of next_field any_pointer ∷ []) (field_of n to_box ∷ field_of p (TyPointer int) ∷ field_of to to_frame ∷ [])
          (AndStmt (boxes_one n (ESizeOf (TyStruct box))) (AndStmt (fills_box n (codes "n") (codes "e__") n) (AndStmt (frees_frame (codes "k__"))
          (AndStmt (Assign (ENamed p) None (EUnary AddressOf (EArrow (ENamed n) (codes "n"))))
          (frame_lines to (codes "f__at1") (codes "f__at1") (ENamed next_field) (save_of n ∷ save_of p ∷ []) (AndStmt (readies to) (AndStmt (Return (Some (EInteger Int (pos 0)))) NoStmt))))))));
    })
    ∷ piece_of (codes "f__at1") (load_of next_field any_pointer ∷ load_of n to_box ∷ load_of p (TyPointer int) ∷ []) []
    (AndStmt Empty
    (AndStmt (Assign (EUnary Dereference (ENamed p)) None (EBinary Add (EUnary Dereference (ENamed p)) (EInteger Int (pos 1))))
    (AndStmt (Call None (ENamed (codes "cpc_print")) (AndExpr (EArrow (ENamed n) (codes "n")) NoExpr))
    (AndStmt (unboxes_one n) (AndStmt (Return (Some (ENamed next_field))) NoStmt)))))
    ∷ FunctionItem (record {
      mode = Native;
      called = codes "main";
      result = int;
      parameters = [];
      body = Block (AndStmt (Call None (ENamed (codes "f__spawn")) (AndExpr (EInteger Int (pos 6)) NoExpr)) (AndStmt (Return (Some (EInteger Int (pos 0)))) NoStmt));
    })
    ∷ []

-- it prints 7 and ends, with no frame and no box that is left
pub record BoxedProgramRuns : Type 0 where
  pub trace : (event boxed_program quiet 100).trace ≡ Output (55 ∷ 10 ∷ []) ∷ []
  pub outcome : (event boxed_program quiet 100).outcome ≡ Ended 0
  pub frames : (event boxed_program quiet 100).store.frames ≡ None ∷ None ∷ []
  pub boxes : (event boxed_program quiet 100).store.auto ≡ None ∷ []
