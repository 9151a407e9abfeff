use Rattle.std.proofs.Common.{◌≡◌, ◌∙◌, Err, ap, sym, subst}
use Rattle.std.specs.Prelude.{IfOk}
use Rattle.std.proofs.lemmas.Result.{IfOk-weaker}
use Rattle.cpc_base.specs.Bytes.{Text}
use Rattle.cpc_base.specs.Outside.{Rose}
use Rattle.cpc_base.specs.declared.stop.Dialect.TheVariants.{Cpc}
use Rattle.cpc_check.specs.Accepted.{Accepts}
use Rattle.cpc_cli.proofs.TopLemmas.{text_refused}
use Rattle.cpc_cli.proofs.reading.translated.Goals as goal

pub returns-clause-refused : goal.returns-clause-refused
returns-clause-refused g c = λ end is.
    let unread = λ (name : Text). Rose (g.F.Shelf.faults c.args.shelf.now name) (g.F.Shelf.faults c.read_text.new.shelf name) in
    text_refused (g.F.Shelf.files c.args.shelf.now) c.args.file.now c.as_slice.result.now unread end
    (λ files told. let text = c.in-Ok.ensures.text files told in (text.0, text.1, (text.2.0, c.as_slice.ensures.value ∙ text.2.1)))
    (c.translated_text.ensures.refused end is)

pub returns-clause-same : goal.returns-clause-same
returns-clause-same g c = IfOk-weaker c.translated_text.result _ _ (λ q same files told.
    let text = c.in-Ok.ensures.text files told in
    let is = c.as_slice.ensures.value ∙ text.2.1 in
    (text.0, text.1, (text.2.0, (same.0, subst (λ t. Accepts Cpc t same.0) is same.1, same.2)))) c.translated_text.ensures.same
