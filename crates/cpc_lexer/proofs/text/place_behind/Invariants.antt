use Rattle.std.proofs.Common.{◌≡◌, ◌≤◌, ◌+◌, take}
use Rattle.cpc_tree.specs.Cut.{place_behind}
use Rattle.cpc_lexer.proofs.text.place_behind.Given as goal

abbrev pub invariant-loop-b : goal.invariant-loop-b
invariant-loop-b l = (record { line = l.line; column = l.column } ≡ place_behind l.fn.place (take l.b-index l.bytes)) × (l.line ≤ l.fn.place.line + l.b-index) × (l.column ≤ l.fn.place.column + l.b-index)
