use Rattle.std.proofs.Common.{◌≡◌, drop, map, max, false}
use Rattle.cpc_tree.specs.Erase.{Names, field_of}
use Rattle.cpc_tree.specs.ItemPrint.{fields_depth}
use Rattle.cpc_printer.specs.Depths.{capped}
use Rattle.cpc_printer.proofs.nesting.fields_depth.Given as goal

-- the depth of those that were counted and of those that are left
abbrev pub invariant-loop-field : goal.invariant-loop-field
invariant-loop-field l = (names : Names) → max l.depth (capped (fields_depth false (map (field_of names) (drop l.field-index l.list)))) ≡ capped (fields_depth false (map (field_of names) l.list))
