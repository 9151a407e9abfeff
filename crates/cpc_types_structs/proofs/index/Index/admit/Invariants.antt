use Rattle.std.proofs.Common.{◌≡◌, ◌+◌, ◌-◌, vec_len}
use Rattle.cpc_types_structs.specs.Indexed.{IsIndex}
use Rattle.cpc_types_structs.proofs.index.Index.admit.Given as goal

-- only room was added
abbrev pub invariant-loop-name : goal.invariant-loop-name
invariant-loop-name l = record {
  index : IsIndex l.self;
  names : l.self.names.items ≡ l.initial.self.names.items;
  count : l.self.count ≡ l.initial.self.count;
}

-- how many names have no room yet
abbrev pub decreases-loop-name : goal.decreases-loop-name
decreases-loop-name l = l.name.0 + 1 - vec_len l.self.last
