use Rattle.std.proofs.Common.{◌≡◌, ◌++◌, not, drop, length}
use Rattle.cpc_tree.specs.Lists.{holds_number}
use Rattle.cpc_convert_routines.specs.Routines.{chosen}
use Rattle.cpc_convert_rows.specs.Marks.{AreMarked}
use Rattle.cpc_convert_rows.specs.Numbers.{AreLeaders}
use Rattle.cpc_convert_rows.proofs.numbers.Placed.completed.Given as goal

-- with those that are left, all are there
abbrev pub invariant-loop-leader : goal.invariant-loop-leader
invariant-loop-leader l = AreMarked l.fn.self.marks.items l.fn.self.all.items → AreLeaders (length l.fn.self.marks.items) l.leaders
    → l.all.items ++ chosen (λ n. not (holds_number l.fn.self.all.items n)) (drop l.leader-index l.leaders) ≡ l.fn.self.all.items ++ chosen (λ n. not (holds_number l.fn.self.all.items n)) l.leaders
