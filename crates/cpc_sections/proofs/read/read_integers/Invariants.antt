use Rattle.std.proofs.Common.{◌≡◌, List, Some, true, map, take}
use Rattle.std.specs.List.{All}
use Rattle.cpc_base.specs.declared.names.Name.{Name}
use Rattle.cpc_store.specs.Store.{ValueOf, cells_of}
use Rattle.cpc_store.specs.Seen.{seen, IsLawful}
use Rattle.cpc_sections.specs.Reads.{are_integers}
use Rattle.cpc_sections.proofs.read.read_integers.Given as goal

-- the cells so far were read, and are integers
abbrev pub invariant-loop-k : goal.invariant-loop-k
invariant-loop-k l = record {
  lawful : All (λ v. IsLawful (seen v)) l.cells.items;
  read : (cells : List (ValueOf Name)) → cells_of l.block.class l.block.number l.store ≡ Some cells → (map seen l.cells.items ≡ take l.k cells) × (are_integers (take l.k cells) ≡ true);
}
