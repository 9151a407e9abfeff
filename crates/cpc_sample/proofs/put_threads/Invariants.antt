use Rattle.std.proofs.Common.{◌≡◌, ◌++◌}
use Rattle.std.specs.Prelude.{flat_map}
use Rattle.std.specs.List.{range_with_len}
use Rattle.cpc_sample.specs.Sample.{thread}
use Rattle.cpc_sample.proofs.put_threads.Given as goal

-- those of the numbers so far
abbrev pub invariant-loop-number : goal.invariant-loop-number
invariant-loop-number l = l.out.items ≡ l.initial.out.items ++ flat_map (thread l.n) (range_with_len 0 l.number)
