use Rattle.cpc_printer_layout.proofs.NextBytes.{joins_other}
use Rattle.cpc_printer_layout.proofs.joining.joins_mark.Goals as goal

pub returns-in_default : goal.returns-in_default
returns-in_default c = let d = c.in_default in joins_other c.args.mark c.args.b d.not-Plus d.not-Minus d.not-Star d.not-Slash d.not-Percent d.not-Ampersand d.not-Bar d.not-Caret d.not-Exclamation d.not-Less d.not-Greater d.not-ShiftLeft d.not-ShiftRight d.not-Equal
