-- Strings that globals start with.
use Rattle.std.specs.Prelude.{Option, Some, None}
use Rattle.cpc_base.specs.Bytes.{Text}
use Rattle.cpc_base.specs.declared.stop.Place.{Place}
use Rattle.cpc_tree.specs.Located.{LExpr, LText}

-- a string that is the whole start
abbrev pub text_in : Option LExpr → Option (Place × Text)
text_in (Some (LText q bytes)) = Some (q, bytes)
text_in o = None
