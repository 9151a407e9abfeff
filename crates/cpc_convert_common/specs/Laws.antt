-- Laws of names that are made, and of native code whose spawns are calls.
use Rattle.std.specs.Prelude.{◌≡◌, Bool, true, false, bytes_eq}
use Rattle.cpc_base.specs.Bytes.{Text}
use Rattle.cpc_tree.specs.Syntax.{Stmt}
use Rattle.cpc_tree.specs.Points.{Path, after}
use Rattle.cpc_convert_common.specs.Converted.{marked, respawned}
use Rattle.cpc_convert_common.specs.Marks.{has_marks}

-- a name that is made has two underscores side by side, and so is none that has none
abbrev pub MadeNamesAreApart : Type 0
MadeNamesAreApart = (f rest x : Text) → has_marks x ≡ false → (has_marks (marked f rest) ≡ true) × (bytes_eq (marked f rest) x ≡ false)

-- a call in place of a spawn leaves every way of control where it is
abbrev pub SpawnsAsCallsGoOn : Type 0
SpawnsAsCallsGoOn = (s : Stmt) (p : Path) (holds : Bool) → after (respawned s) p holds ≡ after s p holds
