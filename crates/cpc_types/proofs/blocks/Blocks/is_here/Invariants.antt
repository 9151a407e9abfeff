use Rattle.std.proofs.Common.{◌≡◌, ◌≤◌, length, take, reverse}
use Rattle.cpc_tree.specs.Erase.{Names}
use Rattle.cpc_check_rules.specs.Apart.{AreApart}
use Rattle.cpc_tree.specs.Syntax.{Program}
use Rattle.cpc_check_rules.specs.Scopes.{is_here}
use Rattle.cpc_types.specs.Blocks.{entered}
use Rattle.cpc_types.proofs.blocks.Blocks.is_here.Given as goal

-- none of the entries that were passed decides
abbrev pub invariant-loop-i : goal.invariant-loop-i
invariant-loop-i l = record {
  within : l.i ≤ length l.self.entries.items;
  rest : (names : Names) → AreApart names → (items : Program) → is_here (entered names items (reverse l.self.entries.items)).blocks (names l.name) ≡ is_here (entered names items (reverse (take l.i l.self.entries.items))).blocks (names l.name);
}

abbrev pub decreases-loop-i : goal.decreases-loop-i
decreases-loop-i l = l.i
