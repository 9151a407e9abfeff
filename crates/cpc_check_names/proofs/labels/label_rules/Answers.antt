use Rattle.std.proofs.Common.{map, ap, ◌∙◌}
use Rattle.cpc_tree.specs.Locate.{ident, located_stmt}
use Rattle.cpc_check_names.proofs.Held.{labels_told}
use Rattle.cpc_check_names.proofs.labels.label_rules.Goals as goal

pub returns : goal.returns
returns c = λ names apart.
    let l = ap (map (ident names)) c.deref.ensures.value ∙ c.in_ok-labels.ensures names in
    let j = ap (map (ident names)) c.deref-2.ensures.value ∙ c.in_ok-jumps.ensures names in
    let known = c.in_ok-known.ensures in
    labels_told _ _ _ (located_stmt names c.args.body.now) _ _ l j (known.told names apart) (c.note_missing.ensures names _ (known.held names apart))
