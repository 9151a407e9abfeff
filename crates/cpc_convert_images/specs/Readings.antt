-- How the code reads names, and what it needs to know for that.
use Rattle.std.specs.Prelude.{◌≡◌, ℕ, Bool, map, slice_get, Some, None}
use Rattle.cpc_tree.specs.Erase.{Names, text_of}
use Rattle.cpc_check_rules.specs.Apart.{AreApart}
use Rattle.cpc_forms_code.specs.declared.boxed.Variable.{Variable}
use Rattle.cpc_forms_code.specs.Seen.{scope_seen, AreNamed}
use Rattle.cpc_convert_image_laws.specs.Images as I
use Rattle.cpc_convert_image_laws.specs.Locals.{readings_in}
use Rattle.cpc_convert_names.specs.Names.{variable_name}
use Rattle.cpc_convert_names.specs.Counted.{locals_from}
use Rattle.cpc_convert_images.specs.declared.readings.Readings.{Readings}

-- the readings, by these marks of registers
abbrev pub readings_by : Names → (marks : ℕ → Bool) → Readings → I.Readings
readings_by names marks r = readings_in marks variable_name (scope_seen names r.variables.now r.scope)

-- by these texts, the first of which are those of the source and tell names apart, the variables have these marks, and the locals are theirs
pub record AreRead (from to : Names) (marks : ℕ → Bool) (r : Readings) : Type 0 where
  pub apart : AreApart from
  pub named : AreNamed from r.variables.now
  pub marked : (k : ℕ) (v : Variable) → slice_get r.variables.now k ≡ Some v → v.is_register ≡ marks k
  pub locals : map (text_of to) r.locals.now ≡ locals_from to 0 r.variables.now

-- no name is in scope, or these are read so
pub data Reads (from to : Names) (marks : ℕ → Bool) (r : Readings) : Type 0 where
  Bare : r.scope ≡ None → Reads from to marks r
  Inside : AreRead from to marks r → Reads from to marks r
