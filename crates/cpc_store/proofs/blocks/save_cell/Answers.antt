use Rattle.std.proofs.lemmas.List.Elements.{All-set}
use Rattle.cpc_store.specs.Seen.{seen, IsLawful}
use Rattle.cpc_store.proofs.blocks.save_cell.Goals as goal

pub returns-clause-lawful : goal.returns-clause-lawful
returns-clause-lawful c = All-set (λ v. IsLawful (seen v)) c.args.cells.now.items c.args.offset c.args.value c.requires.lawful_value c.requires.lawful_cells
