use Rattle.std.proofs.Common.{◌≡◌, drop}
use Rattle.cpc_check_rules.specs.Apart.{AreApart}
use Rattle.cpc_tree.specs.Erase.{Names}
use Rattle.cpc_convert_names.specs.Book.{find}
use Rattle.cpc_convert_names.proofs.book.Book.find.Given as goal

-- it is among those that are left, if it is there
abbrev pub invariant-loop-called : goal.invariant-loop-called
invariant-loop-called l = (from : Names) → AreApart from → find from l.self.functions.items (from l.name) ≡ find from (drop l.called-index l.called-items) (from l.name)
