use Rattle.std.proofs.Common.{◌≡◌, ◌++◌, take}
use Rattle.std.specs.Prelude.{flat_map}
use Rattle.cpc_tree.specs.Spelling.{byte_spelling}
use Rattle.cpc_printer_layout.specs.Layout.{quote_of}
use Rattle.cpc_printer_layout.proofs.spelling.literal.Given as goal

abbrev pub invariant-loop-b : goal.invariant-loop-b
invariant-loop-b l = l.out.items ≡ l.initial.out.items ++ flat_map (byte_spelling (quote_of l.quote)) (take l.b-index l.bytes)
