-- What names mean in a piece, as a statement.
use Rattle.std.specs.Prelude.{◌≡◌, false}
use Rattle.cpc_base.specs.Bytes.{Text}
use Rattle.cpc_tree.specs.Syntax.{Program}
use Rattle.cpc_tree.specs.Typing.{named, item_named}
use Rattle.cpc_convert_common.specs.Marks.{has_marks}
use Rattle.cpc_forms.specs.Flow.{Place}
use Rattle.cpc_convert_routines.specs.Routines.{Routine}
use Rattle.cpc_chains_event.specs.FlatLaws.{piece_scope}

-- no local of a piece hides a name without marks: those of native functions, globals and primitives mean what they mean among the items
abbrev pub NothingIsHidden : Type 0
NothingIsHidden = (p q : Program) (r : Routine) (l : Place) (x : Text) → has_marks x ≡ false → named q (piece_scope p r l) x ≡ item_named 0 q x
