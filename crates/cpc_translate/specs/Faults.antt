-- How the fault of a text is told: where it stands, the stage of reading that it stopped, its number there and its name.
use Rattle.std.specs.Prelude.{ℕ, codes}
use Rattle.cpc_base.specs.Bytes.{Text}
use Rattle.cpc_base.specs.declared.stop.Place.{Place}
use Rattle.cpc_lexer.specs.Faults as L
use Rattle.cpc_parser_types.specs.Views as P
use Rattle.cpc_check_rules.specs.Rule.{number, rule_text}
use Rattle.cpc_translate.specs.declared.fault.TextFault.{TextFault}
use Rattle.cpc_translate.specs.declared.fault.TextFault.TheVariants.{Lex, Parse, Check}

abbrev pub place_of : TextFault → Place
place_of (Lex f) = f.place
place_of (Parse f) = f.place
place_of (Check b) = b.place

abbrev pub stage_of : TextFault → Text
stage_of (Lex f) = codes "lex"
stage_of (Parse f) = codes "parse"
stage_of (Check b) = codes "check"

abbrev pub number_of : TextFault → ℕ
number_of (Lex f) = f.number
number_of (Parse f) = f.number
number_of (Check b) = number b.rule

abbrev pub name_of : TextFault → Text
name_of (Lex f) = L.fault_name f.number
name_of (Parse f) = P.fault_name f.number
name_of (Check b) = rule_text b.rule
