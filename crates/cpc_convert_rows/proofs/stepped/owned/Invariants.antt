use Rattle.std.proofs.Common.{◌≡◌, ◌<◌, ◌++◌, suc, [], drop, map, length, get_or}
use Rattle.cpc_forms.specs.Flow.{Place}
use Rattle.cpc_forms.specs.Pieces.{owned_from}
use Rattle.cpc_forms_code.specs.Splits.{places_of}
use Rattle.cpc_convert_routines.specs.Routines.{owner_number}
use Rattle.cpc_convert_rows.proofs.stepped.owned.Given as goal

-- with the nodes that are left, all are in their rows
abbrev pub invariant-loop-node : goal.invariant-loop-node
invariant-loop-node l = record {
  long : length l.rows.items ≡ suc l.count;
  rows : (o : Place) → owner_number o < length l.rows.items → get_or (map (λ row. row.items) l.rows.items) (owner_number o) [] ++ owned_from o l.node (places_of (drop l.node l.owners)) ≡ owned_from o 0 (places_of l.owners);
}
