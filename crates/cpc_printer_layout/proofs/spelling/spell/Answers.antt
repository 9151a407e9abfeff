use Rattle.std.proofs.Common.{◌≡◌, [], sym, ap, ◌∙◌}
use Rattle.std.specs.Prelude.{unwrap_or}
use Rattle.std.proofs.lemmas.Option.{unwrap_or-slice_get}
use Rattle.std.proofs.lemmas.List.{append-nil}
use Rattle.cpc_tree.specs.Erase.{text_of, in_table}
use Rattle.cpc_tree.specs.Spelling.{spelling}
use Rattle.cpc_printer_layout.proofs.spelling.spell.Goals as goal

pub returns-in_default : goal.returns-in_default
unfolding spelling
returns-in_default c =
    let none : text_of (in_table c.args.names.now) c.in-Name.name ≡ [] = sym (unwrap_or-slice_get c.args.names.now c.in-Name.name.0 []) ∙ ap (λ o. unwrap_or o []) (sym c.in_default.ensures.text) in
    rw (c.in-Name.is, none) (sym (append-nil c.args.out.now.items))
