-- Laws of the rules and of reading in the two dialects, as statements.
use Rattle.std.specs.Prelude.{◌≡◌, true, []}
use Rattle.cpc_base.specs.Bytes.{Text}
use Rattle.cpc_base.specs.declared.stop.Dialect.{Dialect}
use Rattle.cpc_base.specs.declared.stop.Dialect.TheVariants as D
use Rattle.cpc_tree.specs.Located.{LProgram, bare}
use Rattle.cpc_tree.specs.Grammar.{Parses}
use Rattle.cpc_check_rules.specs.Rules.{breaks}
use Rattle.cpc_check_laws.specs.Native.Native.{are_native}
use Rattle.cpc_check_laws.specs.Native.Rows.{rules_of}

-- a program of native code that breaks no rule of the dialect Cpc breaks none of the dialect Event
abbrev pub NativeProgramsPass : Type 0
NativeProgramsPass = (p : LProgram) → are_native p.items ≡ true → breaks D.Cpc p ≡ [] → breaks D.Event p ≡ []

-- a text that is read as a program in the dialect Cpc is read as it in the dialect Event
abbrev pub EventReadsMore : Type 0
EventReadsMore = (text : Text) (p : LProgram) → Parses D.Cpc text p → Parses D.Event text p

-- whether a rule is broken does not depend on places: programs that are equal without their places break the same rules,
-- in the same order of the row
abbrev pub PlacesDoNotMatter : Type 0
PlacesDoNotMatter = (dialect : Dialect) (p q : LProgram) → bare p ≡ bare q → rules_of (breaks dialect p) ≡ rules_of (breaks dialect q)

-- where one of two programs that are equal without their places breaks no rule, the other breaks none
abbrev pub UnbrokenAtAnyPlaces : Type 0
UnbrokenAtAnyPlaces = (dialect : Dialect) (p q : LProgram) → bare p ≡ bare q → breaks dialect p ≡ [] → breaks dialect q ≡ []
