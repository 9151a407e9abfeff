-- Rules that are broken, with their places, and the first of these.
use Rattle.std.specs.Prelude.{◌≡◌, ℕ, ◌≤◌, ◌<◌, ◌⊎◌, Bool, true, false, List, [], ◌∷◌, All, codes}
use Rattle.cpc_base.specs.Bytes.{Text}
use Rattle.cpc_base.specs.declared.stop.Place.{Place}
use Rattle.std.specs.List.{Contains}
use Rattle.cpc_check_rules.specs.declared.rule.Rule.{Rule}
use Rattle.cpc_check_rules.specs.declared.rule.Rule.TheVariants.{Undeclared, Twice, Disagree, NoPlace, WrongNumber, CpsInNative, NoLabel, LabelTwice, Stray, NoField, Incomplete, Reserved, BadReturn, NotClosed, CpsAsValue, NoMain, TooMany, TooBroad, CallInside, RtCall, CpsForm}

-- the number by which a rule is told
abbrev pub number : Rule → ℕ
number Undeclared = 1
number Twice = 2
number Disagree = 3
number NoPlace = 4
number WrongNumber = 5
number CpsInNative = 6
number NoLabel = 7
number LabelTwice = 8
number Stray = 9
number NoField = 10
number Incomplete = 11
number Reserved = 12
number BadReturn = 13
number NotClosed = 14
number CpsAsValue = 15
number NoMain = 16
number TooMany = 17
number TooBroad = 18
number CallInside = 19
number RtCall = 20
number CpsForm = 21

-- the words by which it is told
abbrev pub rule_text : Rule → Text
rule_text Undeclared = codes "undeclared name"
rule_text Twice = codes "declared twice"
rule_text Disagree = codes "types disagree"
rule_text NoPlace = codes "not a place to write"
rule_text WrongNumber = codes "wrong number of arguments"
rule_text CpsInNative = codes "cps call in a native function"
rule_text NoLabel = codes "no such label"
rule_text LabelTwice = codes "label twice"
rule_text Stray = codes "break or continue outside"
rule_text NoField = codes "no such field"
rule_text Incomplete = codes "incomplete or oversized type"
rule_text Reserved = codes "reserved name"
rule_text BadReturn = codes "return disagrees"
rule_text NotClosed = codes "detached function not closed"
rule_text CpsAsValue = codes "cps function as a value"
rule_text NoMain = codes "no main"
rule_text TooMany = codes "too many variables"
rule_text TooBroad = codes "too broad"
rule_text CallInside = codes "call inside an expression"
rule_text RtCall = codes "rt call in dialect Cpc"
rule_text CpsForm = codes "cps form in dialect Event"

-- broken rules, each at its place
abbrev pub Broken : Type 0
Broken = List (Place × Rule)

-- one rule, where it is broken
abbrev pub at_if : Bool → Place → Rule → Broken
at_if true q rule = (q, rule) ∷ []
at_if false q rule = []

-- one place stands before another in the text
abbrev pub IsBefore : Place → Place → Type 0
IsBefore q r = (q.line < r.line) ⊎ ((q.line ≡ r.line) × (q.column < r.column))

-- pairs in order: by their places, and at one place by the numbers of their rules
abbrev pub IsNoLater : Place × Rule → Place × Rule → Type 0
IsNoLater a b = IsBefore a.0 b.0 ⊎ ((a.0 ≡ b.0) × (number a.1 ≤ number b.1))

-- the first broken rule: no other stands before it
abbrev pub IsFirst : Broken → Place → Rule → Type 0
IsFirst broken q rule = Contains broken (q, rule) × All (λ other. IsNoLater (q, rule) other) broken
