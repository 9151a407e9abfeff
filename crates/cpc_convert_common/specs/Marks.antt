-- Names with two underscores side by side, as no function, variable, label or declared tag of an accepted text has.
use Rattle.std.specs.Prelude.{◌==◌, Bool, true, false, [], ◌∷◌, if◌then◌else◌}
use Rattle.cpc_base.specs.Bytes.{Text}

-- whether a text has two underscores side by side, where what stands before it ends in one or not
abbrev pub marks_in : (after_bar : Bool) → Text → Bool
marks_in after_bar [] = false
marks_in true (c ∷ x) = if c == 95 then true else marks_in false x
marks_in false (c ∷ x) = if c == 95 then marks_in true x else marks_in false x

-- whether a name has two underscores side by side
abbrev pub has_marks : Text → Bool
has_marks x = marks_in false x
