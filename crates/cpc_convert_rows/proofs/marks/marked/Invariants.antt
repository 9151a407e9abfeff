use Rattle.std.proofs.Common.{◌≡◌, take, length}
use Rattle.cpc_convert_rows.specs.Marks.{AreMarked}
use Rattle.cpc_convert_rows.proofs.marks.marked.Given as goal

-- the numbers so far are marked
abbrev pub invariant-loop-number : goal.invariant-loop-number
invariant-loop-number l = record {
  long : length l.marks.items ≡ l.count;
  marks : AreMarked l.marks.items (take l.number-index l.numbers);
}
