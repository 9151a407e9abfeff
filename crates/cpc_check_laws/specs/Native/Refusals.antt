-- What does depend on places, or on the program: the laws of places say no more than they should.
use Rattle.std.specs.Prelude.{ℕ, ◌≡◌, [], ◌∷◌, None, codes}
use Rattle.cpc_base.specs.declared.stop.Place.{Place}
use Rattle.cpc_base.specs.declared.stop.Dialect.{Dialect}
use Rattle.cpc_tree.specs.Syntax.{TyVoid}
use Rattle.cpc_tree.specs.Located.{LGlobal, LProgram, bare}
use Rattle.cpc_check_rules.specs.declared.rule.Rule.TheVariants.{Incomplete, NoMain}
use Rattle.cpc_check_rules.specs.Rule.{IsFirst}
use Rattle.cpc_check_rules.specs.Rules.{breaks}
use Rattle.cpc_check_laws.specs.Native.Rows.{rules_of}

-- the start of a line
abbrev pub line : ℕ → Place
line n = record { line = n; column = 1 }

-- a program of nothing, whose text ends at a place
abbrev pub nothing : (end : Place) → LProgram
nothing end = record { items = []; end = end }

-- a program of one global `void x`, which is of an incomplete type
abbrev pub one_global : Place → (end : Place) → LProgram
one_global q end = record { items = LGlobal (record { place = q; text = codes "x" }) TyVoid None ∷ []; end = end }

-- the places at which programs that are equal without their places break their rules may differ
abbrev pub PlacesAreTold : Type 0
PlacesAreTold = (dialect : Dialect) → (bare (nothing (line 1)) ≡ bare (nothing (line 2))) × (¬ (breaks dialect (nothing (line 1)) ≡ breaks dialect (nothing (line 2))))

-- so may the first of the rules that they break
abbrev pub FirstIsByPlaces : Type 0
FirstIsByPlaces = (dialect : Dialect) → (bare (one_global (line 1) (line 2)) ≡ bare (one_global (line 2) (line 1)))
    × IsFirst (breaks dialect (one_global (line 1) (line 2))) (line 1) Incomplete × IsFirst (breaks dialect (one_global (line 2) (line 1))) (line 1) NoMain

-- programs that are not equal without their places may break other rules
abbrev pub RulesAreOfPrograms : Type 0
RulesAreOfPrograms = (dialect : Dialect) → ¬ (rules_of (breaks dialect (nothing (line 2))) ≡ rules_of (breaks dialect (one_global (line 1) (line 2))))
