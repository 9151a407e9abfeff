-- Programs that show what does depend on places, or on the program.
use Rattle.std.proofs.Common.{◌≡◌, ℕ, List, [], ◌∷◌, length, refl, ap}
use Rattle.cpc_base.specs.declared.stop.Dialect.TheVariants as D
use Rattle.cpc_check_rules.specs.declared.rule.Rule.{Rule}
use Rattle.cpc_check_rules.specs.Rule.{Broken}
use Rattle.cpc_check_rules.specs.Rules.{breaks}
use Rattle.cpc_check_rules.proofs.Firsts.{is_first}
use Rattle.cpc_check_laws.specs.Native.Refusals.{line, one_global, PlacesAreTold, FirstIsByPlaces, RulesAreOfPrograms}

one_is_not_two : ¬ (◌≡◌ {A = ℕ} 1 2)
one_is_not_two e = absurd cc

-- the line at which the first rule of a row is broken
abbrev first_line : Broken → ℕ
first_line [] = 0
first_line (b ∷ bs) = b.0.line

abbrev size_of : List Rule → ℕ
size_of rules = length rules

pub places_are_told : PlacesAreTold
places_are_told D.Cpc = (refl, λ e. one_is_not_two (ap first_line e))
places_are_told D.Event = (refl, λ e. one_is_not_two (ap first_line e))

pub first_is_by_places : FirstIsByPlaces
first_is_by_places D.Cpc = (refl, is_first (breaks D.Cpc (one_global (line 1) (line 2))) _ _ refl, is_first (breaks D.Cpc (one_global (line 2) (line 1))) _ _ refl)
first_is_by_places D.Event = (refl, is_first (breaks D.Event (one_global (line 1) (line 2))) _ _ refl, is_first (breaks D.Event (one_global (line 2) (line 1))) _ _ refl)

pub rules_are_of_programs : RulesAreOfPrograms
rules_are_of_programs D.Cpc = λ e. one_is_not_two (ap size_of e)
rules_are_of_programs D.Event = λ e. one_is_not_two (ap size_of e)
