use Rattle.std.proofs.Common.{◌≡◌, ap, sym, ◌∙◌, ◌++◌}
use Rattle.cpc_tree.specs.Erase.{in_table}
use Rattle.cpc_tree.specs.Spelling.{spelling}
use Rattle.cpc_printer_layout.specs.Sheets.{lexeme_of}
use Rattle.cpc_printer_layout.proofs.Blanks.{set_behind}
use Rattle.cpc_printer_layout.proofs.page.set.Goals as goal

pub returns : goal.returns
returns c =
    let names = in_table c.args.names.now in
    let spelled : c.spell.new.out.items ≡ spelling (lexeme_of names c.args.piece.now.lexeme) = c.in_ok-spell.ensures ∙ ap (λ u. u ++ spelling (lexeme_of names c.args.piece.now.lexeme)) c.new-word.ensures.items in
    set_behind c.is_stuck.result names _ _ _ _ _ _ c.in_ok-put_gap.ensures (c.deref.ensures.value ∙ spelled) (λ e. c.is_stuck.ensures e names)
    (c.in_ok-extend_from_slice.ensures.items ∙ ap (λ u. c.put_gap.new.out.items ++ u) (c.deref-2.ensures.value ∙ sym c.deref.ensures.value))
