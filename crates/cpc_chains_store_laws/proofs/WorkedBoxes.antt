-- The worked program with a box runs, by computing; and its box is one of those that the laws speak of.
use Rattle.std.specs.Prelude.{[], ◌∷◌, Some, None, codes, refl}
use Rattle.std.proofs.Common.{arith}
use Rattle.std.specs.Fmt.{digits}
use Rattle.cpc_num.specs.Number.{settle, divided}
use Rattle.cpc_tree.specs.declared.program.Mode.TheVariants.{Cps}
use Rattle.cpc_tree.specs.declared.program.UnaryOp.TheVariants.{AddressOf}
use Rattle.cpc_tree.specs.Syntax.{TyVoid, TyPointer, TyStruct, ENamed, EUnary, ESizeOf, Block, Declare, Assign, NoStmt, AndStmt, FunctionItem, Function, Program}
use Rattle.cpc_tree.specs.Typing.{Scope}
use Rattle.cpc_tree.specs.Registers.{variables}
use Rattle.cpc_store.specs.Store.{Null, Code, Unset}
use Rattle.cpc_convert_flat_laws.specs.Boxes.{boxes_one, fills_box, Boxing, NoBoxing, PassRegister, BoxParameter}
use Rattle.cpc_chains_store_laws.specs.Driver.{any_pointer}
use Rattle.cpc_chains_store_laws.specs.Frames.{taken_scope}
use Rattle.cpc_chains_store_laws.specs.Worked.{int, to_frame, field_of, load_of, n, to}
use Rattle.cpc_chains_store_laws.specs.Driver.{next_field}
use Rattle.cpc_chains_store_laws.specs.WorkedBoxes.{p, box, to_box, boxed_program, BoxedProgramRuns}

pub boxed_runs : BoxedProgramRuns
unfolding digits settle divided
boxed_runs = record { trace = refl; outcome = refl; frames = refl; boxes = refl }

-- the source's function, whose parameter has an address
abbrev source_function : Function
source_function = record {
  mode = Cps;
  called = codes "f";
  result = TyVoid;
  parameters = record { called = Some (codes "n"); type = int } ∷ [];
  body = Block (AndStmt (Declare (codes "p") (TyPointer int) None) (AndStmt (Assign (ENamed (codes "p")) None (EUnary AddressOf (ENamed (codes "n")))) NoStmt));
}

abbrev source : Program
source = FunctionItem source_function ∷ []

abbrev piece_scope : Scope
piece_scope = taken_scope (record { called = codes "k__"; type = any_pointer; slot = 0 } ∷ []) 1 (codes "e__") (codes "f__start") (load_of next_field any_pointer ∷ []) (field_of n to_box ∷ field_of p (TyPointer int) ∷ field_of to to_frame ∷ [])

-- its boxes are made as the laws have it
pub boxed_boxing : Boxing source source_function boxed_program piece_scope 6 1 (codes "f__start") (codes "e__") (Code (codes "f__start") ∷ Null ∷ Unset ∷ Unset ∷ []) 0 (variables source_function) (Unset ∷ []) (Some 3 ∷ None ∷ []) (boxes_one n (ESizeOf (TyStruct box)) ∷ fills_box n (codes "n") (codes "e__") n ∷ [])
boxed_boxing =
    BoxParameter 0 0 3 3 _ _ Unset [] (None ∷ []) [] n (codes "n") box n int (ESizeOf (TyStruct box)) refl refl (omega arith) refl refl (omega arith) (λ e. absurd (omega (arith, e))) (λ slots s. refl) refl refl refl refl
    (PassRegister 1 1 _ _ [] [] [] refl refl (NoBoxing 2 []))
