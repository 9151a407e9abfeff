use Rattle.std.proofs.Common.{◌≡◌, ◌≤◌, ◌-◌, length}
use Rattle.cpc_types_structs.specs.Indexed.{IsIndex}
use Rattle.cpc_types_structs.proofs.index.Index.enter.Given as goal

abbrev pub invariant-loop-self : goal.invariant-loop-self
invariant-loop-self l = record {
  index : IsIndex l.self;
  names : l.self.names.items ≡ l.initial.self.names.items;
  within : l.count ≤ length l.self.names.items;
}

abbrev pub decreases-loop-self : goal.decreases-loop-self
decreases-loop-self l = l.count - l.self.count

abbrev pub invariant-loop-self-2 : goal.invariant-loop-self-2
invariant-loop-self-2 l = record {
  index : IsIndex l.self;
  names : l.self.names.items ≡ l.initial.self.names.items;
  above : l.count ≤ l.self.count;
}

abbrev pub decreases-loop-self-2 : goal.decreases-loop-self-2
decreases-loop-self-2 l = l.self.count - l.count
