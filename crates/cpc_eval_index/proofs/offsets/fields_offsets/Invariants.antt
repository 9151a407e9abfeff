use Rattle.std.proofs.Common.{◌≡◌, ◌<◌, ◌^◌, ◌++◌, map, drop}
use Rattle.cpc_tree.specs.Erase.{Names, field_of}
use Rattle.cpc_tree.specs.Syntax.{Program}
use Rattle.cpc_types_structs.specs.Sized.{AreSizes}
use Rattle.cpc_eval_index.specs.Offsets.{offsets_from}
use Rattle.cpc_eval_index.proofs.offsets.fields_offsets.Given as goal

-- with the offsets of the fields that are left, all are there
abbrev pub invariant-loop-field : goal.invariant-loop-field
invariant-loop-field l = record {
  low : l.offset < 2 ^ 64;
  rest : (names : Names) (p : Program) → AreSizes l.structs names p
      → l.row.items ++ offsets_from p l.offset (map (field_of names) (drop l.field-index l.fields)) ≡ offsets_from p 0 (map (field_of names) l.fields);
}
