use Rattle.std.proofs.Common.{◌≡◌, map, take, All}
use Rattle.cpc_tree.specs.Erase.{Names, Table}
use Rattle.cpc_convert_names.specs.Tables.{HasGrown, Spells}
use Rattle.cpc_convert_names.specs.Called.{AreCalled, IsNamed}
use Rattle.cpc_convert_names.proofs.book.functions.Given as goal

-- the names of the functions so far
abbrev pub invariant-loop-function : goal.invariant-loop-function
invariant-loop-function l = record {
  grown : HasGrown l.initial.names l.names;
  lifted : map (λ c. c.lifted.now) l.all.items ≡ take l.function-index l.function-items;
  are : (source : Table) (to : Names) → HasGrown source l.initial.names → Spells l.names to → All (IsNamed source to) l.function-items → All (AreCalled to) l.all.items;
}
