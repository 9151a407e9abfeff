use Rattle.std.proofs.Common.{◌≡◌, ap, ◌∙◌, not}
use Rattle.cpc_base.proofs.Truth.{not_of_not}
use Rattle.cpc_tree.specs.Erase.{program_of, in_table}
use Rattle.cpc_printer_layout.specs.Sheets.{row_of}
use Rattle.cpc_printer.specs.Style.{is_tight_for, printed_row}
use Rattle.cpc_printer.proofs.Back.{answer_print, answer_back}
use Rattle.cpc_printer.proofs.text.print.Goals as goal

pub returns : goal.returns
returns c =
    let program = program_of c.args.program.now in
    let names = in_table c.args.program.now.names in
    let style : c.new-sheet.result.is_tight ≡ is_tight_for program = c.new-sheet.ensures.style ∙ (ap not c.fits.ensures ∙ not_of_not _) in
    let none = c.new-sheet.ensures.row names in
    let put = c.in_ok-items.ensures.row names in
    let all : row_of names c.items.new.out ≡ printed_row program = rw (none, style, c.deref.ensures.value) at put in
    let row = answer_print program (row_of names c.items.new.out) c.text.result all c.text.ensures.laid c.text.ensures.cuts in
    record { row = row; back = answer_back c.args.program.now c.text.result row }
