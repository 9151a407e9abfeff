-- What fields are taken of.
use Rattle.std.specs.Prelude.{[], ◌∷◌, if◌then◌else◌, Option, Some}
use Rattle.std.specs.Option.{is_none}
use Rattle.cpc_base.specs.declared.stop.Place.{Place}
use Rattle.cpc_tree.specs.Syntax.{Ty, TyVoid, TyStruct}
use Rattle.cpc_tree.specs.Typing.{Typed, fields}
use Rattle.cpc_check_rules.specs.Scopes.{Scope}
use Rattle.cpc_check_rules.specs.Rule.{Broken, at_if}
use Rattle.cpc_check_rules.specs.declared.rule.Rule.TheVariants as R
use Rattle.cpc_check_values.specs.declared.fields.Base.{Base}
use Rattle.cpc_check_values.specs.declared.fields.Base.TheVariants.{Fields, Incomplete, Other}

-- by its type
abbrev pub base_of : Scope → Option Ty → Base
base_of s (Some (TyStruct tag)) = if is_none (fields s.items tag) then Incomplete else Fields
base_of s (Some TyVoid) = Incomplete
base_of s o = Other

-- what a field breaks that is taken of this at a place, and whose name stands at another
abbrev pub base_breaks : Base → Place → Place → Option Typed → Broken
base_breaks Fields q x whole = at_if (is_none whole) x R.NoField
base_breaks Incomplete q x whole = (q, R.Incomplete) ∷ []
base_breaks Other q x whole = (q, R.Disagree) ∷ []
