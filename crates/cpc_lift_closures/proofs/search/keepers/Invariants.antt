use Rattle.std.proofs.Common.{◌≡◌, ◌+◌, ◌-◌, ℕ, List, [], All, length, drop}
use Rattle.cpc_lift_laws.specs.Search as S
use Rattle.cpc_lift_closures.specs.Rows.{links_of, IsNumber, MarksAre}
use Rattle.cpc_lift_closures.proofs.search.keepers.Given as goal

-- the search goes on from what is marked, with what is left of the queue
abbrev pub invariant-loop-at : goal.invariant-loop-at
invariant-loop-at l = record {
  queue : All (IsNumber (length l.sources)) l.queue.items;
  marks : length l.marks.items ≡ length l.sources;
  search : (seen : List ℕ) × MarksAre (length l.sources) seen l.marks.items
      × (S.search (links_of l.ways) (length l.users + length l.ways - l.at) (drop l.at l.queue.items) seen ≡ S.search (links_of l.ways) (length l.users + length l.ways) l.users []);
}
