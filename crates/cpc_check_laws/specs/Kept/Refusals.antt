-- A small program that is not typed, whose section gives a pointer: it comes out, and leads into no block.
use Rattle.std.specs.Prelude.{◌≡◌, ℕ, [], ◌∷◌, Some, None, codes, pos}
use Rattle.cpc_base.specs.declared.poll.Event.TheVariants.{Done}
use Rattle.cpc_num.specs.declared.kinds.Kind.TheVariants.{Int, Long}
use Rattle.cpc_tree.specs.declared.program.Mode.TheVariants.{Native, Detached}
use Rattle.cpc_tree.specs.Syntax.{Ty, TyInt, TyPointer, ENamed, EInteger, NoExpr, AndExpr, Block, Call, Detach, Return, NoStmt, AndStmt, FunctionItem, Program}
use Rattle.cpc_tree.specs.Points.{Point}
use Rattle.cpc_store.specs.declared.values.Class.TheVariants.{Heap}
use Rattle.cpc_store.specs.Store.{At}
use Rattle.cpc_meaning_matching.specs.Systems.{run}
use Rattle.cpc_meaning.specs.History.{History}
use Rattle.cpc_meaning.specs.Machine.{State}
use Rattle.cpc_meaning.specs.Matching.{thread_system}
use Rattle.cpc_meaning.specs.Plain.{Stack}
use Rattle.cpc_meaning.specs.Threads.{Thread}
use Rattle.cpc_meaning.specs.Trees.{trees}
use Rattle.cpc_check_laws.specs.Kept.Kept.{Kept}

abbrev pub int_pointer : Ty
int_pointer = TyPointer (TyInt Int)

-- detached int *f(int *x){ x = malloc(1L); return x; } int main(void){ cpc_detached f(0); return 0; }
abbrev pub gives_pointer : Program
gives_pointer =
    FunctionItem (record {
      mode = Detached;
      called = codes "f";
      result = int_pointer;
      parameters = record { called = Some (codes "x"); type = int_pointer } ∷ [];
      body = Block (AndStmt (Call (Some (ENamed (codes "x"))) (ENamed (codes "malloc")) (AndExpr (EInteger Long (pos 1)) NoExpr)) (AndStmt (Return (Some (ENamed (codes "x")))) NoStmt));
    })
    ∷ FunctionItem (record {
      mode = Native;
      called = codes "main";
      result = TyInt Int;
      parameters = [];
      body = Block (AndStmt (Detach None (codes "f") (AndExpr (EInteger Int (pos 0)) NoExpr)) (AndStmt (Return (Some (EInteger Int (pos 0)))) NoStmt));
    })
    ∷ []

-- one poll tells that the section is done
abbrev pub one_poll : History
one_poll = record { polls = record { clock = 0; events = Done 0 ∷ [] } ∷ []; answers = []; section_bound = 9 }

-- its state after some steps
abbrev pub state_after : ℕ → State Point (Thread Point)
state_after n = run (thread_system (trees gives_pointer) one_poll) n

-- the premise on sections is needed: a pointer to a heap block arrives, where no heap block was made
pub record SectionsAreNeeded : Type 0 where
  pub stack : Stack Point
  pub runs : (state_after 5).running ≡ Some stack
  pub arrives : stack.arriving ≡ Some (At Heap 0 0)
  pub none_made : (state_after 5).store.heap ≡ []
  pub not_kept : ¬ Kept gives_pointer (state_after 5)
