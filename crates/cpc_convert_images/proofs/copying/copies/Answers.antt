use Rattle.std.proofs.Common.{◌∙◌, true, refl}
use Rattle.cpc_tree.specs.Erase.{exprs_of}
use Rattle.cpc_convert_images.specs.Readings.{Bare, readings_by}
use Rattle.cpc_convert_images.proofs.Reading.{none_in_scope}
use Rattle.cpc_convert_images.proofs.Unread.{same_all}
use Rattle.cpc_convert_images.proofs.copying.copies.Goals as goal

pub returns : goal.returns
returns c = λ names.
    c.in_ok-made.ensures names names (λ k. true) (Bare c.unread.ensures) refl
    ∙ same_all (readings_by names (λ k. true) c.unread.result) (none_in_scope names (λ k. true) c.unread.result c.unread.ensures) (exprs_of names c.args.row.now)
