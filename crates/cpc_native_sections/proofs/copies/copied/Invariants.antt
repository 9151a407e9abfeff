use Rattle.std.specs.List.{All}
use Rattle.cpc_tree.specs.Erase.{Names}
use Rattle.cpc_store.specs.Seen.{seen, IsLawful}
use Rattle.cpc_native_sections.proofs.Copying.{Copied}
use Rattle.cpc_native_sections.proofs.copies.copied.Given as goal

-- the cells so far stand before those that are left
abbrev pub invariant-loop-k : goal.invariant-loop-k
invariant-loop-k l = record {
  lawful : All (λ v. IsLawful (seen v)) l.cells.items;
  told : (names : Names) → Copied names l.row l.block.class l.block.number l.offset l.store l.k l.cells.items;
}
