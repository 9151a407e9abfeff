use Rattle.std.proofs.Common.{ap, ◌∙◌, ◌++◌, []}
use Rattle.cpc_forms_code.specs.Splits.{place_of}
use Rattle.cpc_chains_event.specs.Rows.{piece_statements}
use Rattle.cpc_chains_lines.specs.Written.{Written, puts}
use Rattle.cpc_chains_opening.specs.Parts.{opening_of}
use Rattle.cpc_chains_opening.proofs.Written.{puts_plain}
use Rattle.cpc_chains_pieces.proofs.making.statements.Goals as goal

pub returns : goal.returns
returns c = λ source from to p r st w of.
    let l = place_of c.args.owner in
    let nodes = c.in_ok-nodes.ensures r w.stepped of in
    let leaders = c.in_ok-leaders.ensures r w.stepped (c.deref.ensures.value ∙ nodes) in
    let begun = c.in_ok-opening.ensures source from to p r st w of (c.deref-2.ensures.value ∙ nodes) (c.deref-3.ensures.value ∙ leaders) ∙ (ap (λ x. puts x (opening_of p r l)) (c.new-out.ensures to) ∙ puts_plain [] (opening_of p r l)) in
    ap (λ (x : Written). x.done) (c.in_ok-write_all.ensures source from to p r st w (c.deref-4.ensures.value ∙ nodes) (c.deref-5.ensures.value ∙ leaders) (ap (λ (x : Written). x.label) begun))
    ∙ ap (λ (x : Written). x.done ++ piece_statements p r l) begun
