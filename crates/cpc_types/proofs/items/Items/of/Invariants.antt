use Rattle.std.proofs.Common.{◌≡◌, take}
use Rattle.cpc_types.specs.Declaring.{AreDeclared}
use Rattle.cpc_types.specs.Integral.{AreTold}
use Rattle.cpc_types.proofs.items.Items.of.Given as goal

-- the items so far are declared, and in scope
abbrev pub invariant-loop-i : goal.invariant-loop-i
invariant-loop-i l = record {
  declared : AreDeclared (take l.i l.list) l.items;
  told : AreTold (take l.i l.list) l.items;
  all : l.items.names.count ≡ l.i;
}
