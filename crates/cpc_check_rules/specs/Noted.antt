-- The first broken rule of a row, found one by one.
use Rattle.std.specs.Prelude.{Bool, ◌&&◌, ◌||◌, ◌==◌, nat_lt, if◌then◌else◌, [], ◌∷◌, Option, Some, None, option_map}
use Rattle.cpc_base.specs.declared.stop.Place.{Place}
use Rattle.cpc_check_rules.specs.declared.rule.Rule.{Rule}
use Rattle.cpc_check_rules.specs.declared.first.Breach.{Breach}
use Rattle.cpc_check_rules.specs.declared.first.First.{First}
use Rattle.cpc_check_rules.specs.Rule.{Broken, number}

-- one pair stands before another
abbrev pub comes_before : Place × Rule → Place × Rule → Bool
comes_before a b = nat_lt a.0.line b.0.line || (a.0.line == b.0.line && (nat_lt a.0.column b.0.column
    || (a.0.column == b.0.column && nat_lt (number a.1) (number b.1))))

-- the first so far, and one more
abbrev pub earlier : Option (Place × Rule) → Place × Rule → Option (Place × Rule)
earlier None b = Some b
earlier (Some a) b = if comes_before b a then Some b else Some a

-- the first so far, and a row
abbrev pub noted : Option (Place × Rule) → Broken → Option (Place × Rule)
noted o [] = o
noted o (b ∷ bs) = noted (earlier o b) bs

-- a breach of the code as a pair
abbrev pub pair_of : Breach → Place × Rule
pair_of b = (b.place, b.rule)

-- the first so far, as the code has it
abbrev pub first_of : First → Option (Place × Rule)
first_of first = option_map pair_of first.breach
