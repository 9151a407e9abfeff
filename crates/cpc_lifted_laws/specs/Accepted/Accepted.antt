-- Programs that are accepted: those that are read from tokens and break no rule of the dialect Cpc.
use Rattle.std.specs.Prelude.{◌≡◌, List, []}
use Rattle.cpc_base.specs.declared.stop.Dialect.TheVariants as D
use Rattle.cpc_base.specs.declared.stop.Place.{Place}
use Rattle.cpc_tree.specs.Grammar.{IsProgram}
use Rattle.cpc_tree.specs.Located.{LProgram, bare}
use Rattle.cpc_tree.specs.Syntax.{Program}
use Rattle.cpc_tree.specs.Tokens.{Placed}
use Rattle.cpc_check_rules.specs.Rules.{breaks}

-- it holds of each accepted program
abbrev pub OfAccepted : (Program → Type 0) → Type 0
OfAccepted Holds = (list : List Placed) (end : Place) (p : LProgram) → IsProgram D.Cpc list end p → breaks D.Cpc p ≡ [] → Holds (bare p)
