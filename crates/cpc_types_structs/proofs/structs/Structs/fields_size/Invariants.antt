use Rattle.std.proofs.Common.{◌≡◌, ◌+◌, ◌<◌, ◌^◌, map, drop, option_map}
use Rattle.cpc_tree.specs.Erase.{Names, field_of}
use Rattle.cpc_tree.specs.Syntax.{Program}
use Rattle.cpc_shapes.specs.Counted.{fields_count}
use Rattle.cpc_types_structs.specs.Sized.{capped, AreSizes}
use Rattle.cpc_types_structs.proofs.structs.Structs.fields_size.Given as goal

-- the cells of the fields so far, and of those that are left
abbrev pub invariant-loop-field : goal.invariant-loop-field
invariant-loop-field l = record {
  low : l.total < 2 ^ 64;
  rest : (names : Names) (p : Program) → AreSizes l.self names p
      → option_map capped (fields_count p (map (field_of names) l.fields)) ≡ option_map (λ n. capped (l.total + n)) (fields_count p (map (field_of names) (drop l.field-index l.fields)));
}
