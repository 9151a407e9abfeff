-- What is promised of prints of event programs.
use Rattle.std.specs.Prelude.{◌≡◌, ◌<◌, [], All}
use Rattle.cpc_base.specs.Bytes.{Text}
use Rattle.cpc_base.specs.declared.stop.Dialect.TheVariants as D
use Rattle.cpc_tree.specs.Located.{LProgram, bare}
use Rattle.cpc_tree.specs.Grammar.{Parses}
use Rattle.cpc_check_rules.specs.Rules.{breaks}
use Rattle.cpc_printer.specs.Style.{IsPrint, ReadsBack}
use Rattle.cpc_chains_event.specs.Converted.{converted}

-- where a text is accepted, a print of its event program is read as the event program
abbrev pub ConvertedReadsBack : Type 0
ConvertedReadsBack = (text : Text) (p : LProgram) → All (λ b. b < 256) text → Parses D.Cpc text p → breaks D.Cpc p ≡ [] → (printed : Text) → IsPrint printed (converted (bare p)) → ReadsBack D.Event printed (converted (bare p))
