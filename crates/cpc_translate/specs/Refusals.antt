-- Which fault a text has: the first of its cut, or else the first token at which no program is left, or else the first rule
-- that its program breaks.
use Rattle.std.specs.Prelude.{List}
use Rattle.cpc_base.specs.Bytes.{Text}
use Rattle.cpc_base.specs.declared.stop.Dialect.{Dialect}
use Rattle.cpc_tree.specs.Tokens.{Placed}
use Rattle.cpc_tree.specs.Cut.{IsCut, IsLexFault, text_start, place_behind}
use Rattle.cpc_tree.specs.Located.{LProgram}
use Rattle.cpc_tree.specs.Grammar.{Parses, IsParseFault}
use Rattle.cpc_check_rules.specs.Rule.{IsFirst}
use Rattle.cpc_check_rules.specs.Rules.{breaks}
use Rattle.cpc_check_rules.specs.declared.first.Breach.{Breach}
use Rattle.cpc_lexer.specs.declared.fault.LexFault.{LexFault}
use Rattle.cpc_parser_types.specs.declared.refusal.ParseFault.{ParseFault}
use Rattle.cpc_translate.specs.declared.fault.TextFault.{TextFault}
use Rattle.cpc_translate.specs.declared.fault.TextFault.TheVariants.{Lex, Parse, Check}
use Rattle.cpc_base.specs.declared.stop.Stop.{Stop}
use Rattle.cpc_base.specs.declared.stop.Stop.TheVariants as S

pub data IsTextFault (dialect : Dialect) (text : Text) : TextFault → Type 0 where
  uncut : (f : LexFault) → IsLexFault text dialect f.place f.number → IsTextFault dialect text (Lex f)
  unread : (f : ParseFault) (list : List Placed) → IsCut text dialect list → IsParseFault dialect list (place_behind text_start text) f.place f.number
      → IsTextFault dialect text (Parse f)
  unruly : (b : Breach) (p : LProgram) → Parses dialect text p → IsFirst (breaks dialect p) b.place b.rule → IsTextFault dialect text (Check b)

-- how what stops the cut is told
abbrev pub uncut_as : Stop LexFault → Stop TextFault
uncut_as S.Memory = S.Memory
uncut_as (S.Fault f) = S.Fault (Lex f)

-- how what stops the reading of its tokens is told
abbrev pub unread_as : Stop ParseFault → Stop TextFault
unread_as S.Memory = S.Memory
unread_as (S.Fault f) = S.Fault (Parse f)
