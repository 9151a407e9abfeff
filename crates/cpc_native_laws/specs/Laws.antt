-- What is known of the numbers of programs that are accepted, and of the texts of their names.
use Rattle.std.specs.Prelude.{◌≡◌, ℕ, ◌≤◌, false, [], length, map, slice_get, Some, None, bytes_eq}
use Rattle.cpc_base.specs.Bytes.{Text}
use Rattle.cpc_base.specs.declared.names.Name.{Name}
use Rattle.cpc_base.specs.declared.stop.Dialect.{Dialect}
use Rattle.cpc_check_rules.specs.Apart.{Spells}
use Rattle.cpc_tree.specs.Erase.{Names, Table, item_of, program_of}
use Rattle.cpc_tree.specs.Syntax as S
use Rattle.cpc_tree.specs.Typing.{function_named}
use Rattle.cpc_tree.specs.Located.{LProgram, bare}
use Rattle.cpc_tree.specs.declared.program.Function.{Function}
use Rattle.cpc_tree.specs.declared.program.Item.TheVariants as I
use Rattle.cpc_tree.specs.declared.program.Program as GProgram
use Rattle.cpc_check.specs.Accepted.{Accepts}
use Rattle.cpc_meaning.specs.Start.{before_underscores}
use Rattle.cpc_eval.specs.Numbers.{ProgramNumbers}
use Rattle.cpc_eval_variables.specs.Told.{IsTold}

-- The literals of a program that is accepted are numbers of their kinds, and no size in it is too great.
abbrev pub AcceptedHasNumbers : Type 0
AcceptedHasNumbers = (dialect : Dialect) (text : Text) (p : LProgram) → Accepts dialect text p → ProgramNumbers (bare p)

-- The texts tell the names of a program, as those of its table do, and no name has the text of a function's parameter without a name.
pub record IsSpelling (names : Names) (p : GProgram.Program) : Type 0 where
  pub spells : Spells p.names names
  pub same : map (item_of names) p.items.items ≡ program_of p
  pub told : (k : ℕ) (f : Function) → slice_get p.items.items k ≡ Some (I.Function f) → IsTold names f.parameters.items
  pub unnamed : (x : Text) (f : S.Function) → function_named (program_of p) x ≡ Some f → (k : ℕ) (q : S.Parameter) → slice_get f.parameters k ≡ Some q → q.called ≡ None → (n : Name) → bytes_eq [] (names n) ≡ false

-- Two spellings of names differ at each name that the table does not have, also in the part that a fault tells. So what both tell alike is in the table.
pub record AreOthers (table : Table) (names other : Names) : Type 0 where
  pub differ : (n : Name) → length table ≤ n.0 → before_underscores (names n) ≡ before_underscores (other n) → ⊥

-- Two such spellings of a program.
pub record AreSpellings (names other : Names) (p : GProgram.Program) : Type 0 where
  pub first : IsSpelling names p
  pub second : IsSpelling other p
  pub others : AreOthers p.names names other
