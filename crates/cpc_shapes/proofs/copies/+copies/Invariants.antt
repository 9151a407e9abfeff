use Rattle.std.proofs.Common.{◌≡◌, map, take}
use Rattle.cpc_tree.specs.Erase.{Names, type_of}
use Rattle.cpc_shapes.proofs.copies.+copies.Given as goal

-- the copies so far are of the types so far
abbrev pub invariant-copies_of-loop-of : goal.invariant-copies_of-loop-of
invariant-copies_of-loop-of l = (names : Names) → map (type_of names) l.copies.items ≡ map (type_of names) (take l.of-index l.list)
