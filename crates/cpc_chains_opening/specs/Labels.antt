-- The label of a row that may want none.
use Rattle.std.specs.Prelude.{ℕ, Bool, true, false, Option, Some, None}
use Rattle.cpc_base.specs.Bytes.{Text}
use Rattle.cpc_convert_routines.specs.Names.{node_label}

-- where it is wanted
abbrev pub label_where : (is_wanted : Bool) → ℕ → Option Text
label_where true n = Some (node_label n)
label_where false n = None
