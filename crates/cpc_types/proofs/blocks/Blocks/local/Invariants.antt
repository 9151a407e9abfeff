use Rattle.std.proofs.Common.{◌≡◌, ◌≤◌, length, take, reverse}
use Rattle.cpc_tree.specs.Erase.{Names}
use Rattle.cpc_check_rules.specs.Apart.{AreApart}
use Rattle.cpc_tree.specs.Syntax.{Program}
use Rattle.cpc_check_rules.specs.Scopes.{meant}
use Rattle.cpc_types.specs.Blocks.{entered}
use Rattle.cpc_types.proofs.blocks.Blocks.local.Given as goal

-- none of the entries that were passed decides what the name stands for
abbrev pub invariant-loop-i : goal.invariant-loop-i
invariant-loop-i l = record {
  within : l.i ≤ length l.self.entries.items;
  rest : (names : Names) → AreApart names → (items : Program) → meant (entered names items (reverse l.self.entries.items)) (names l.name) ≡ meant (entered names items (reverse (take l.i l.self.entries.items))) (names l.name);
}

abbrev pub decreases-loop-i : goal.decreases-loop-i
decreases-loop-i l = l.i
