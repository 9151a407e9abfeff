use Rattle.std.proofs.Common.{◌≡◌, map, take}
use Rattle.cpc_tree.specs.Erase.{Names, Table, field_of}
use Rattle.cpc_tree.specs.Syntax.{ENamed}
use Rattle.cpc_convert_flat_laws.specs.Locals.{saves_one}
use Rattle.cpc_chains_event.specs.Lines.{save_of}
use Rattle.cpc_convert_routines.specs.Names.{frame_name}
use Rattle.cpc_convert_names.specs.Book.{IsBook}
use Rattle.cpc_chains_lines.specs.Written.{written, puts}
use Rattle.cpc_chains_items.proofs.spawning.save_all.Given as goal

-- the arguments so far are saved
abbrev pub invariant-loop-argument : goal.invariant-loop-argument
invariant-loop-argument l = (source : Table) (to : Names) → IsBook source to l.book → written to l.out ≡ puts (written to l.initial.out) (map (λ f. saves_one (ENamed frame_name) (save_of (field_of to f))) (take l.argument-index l.arguments))
