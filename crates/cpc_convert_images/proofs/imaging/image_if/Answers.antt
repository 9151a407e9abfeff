use Rattle.std.proofs.Common.{Some, ap, sym, ◌∙◌}
use Rattle.cpc_tree.specs.Erase.{expr_of}
use Rattle.cpc_convert_images.specs.Readings.{readings_by}
use Rattle.cpc_convert_images.proofs.Rows.{if_image}
use Rattle.cpc_convert_images.proofs.imaging.image_if.Goals as goal

pub returns-in_ok-made-in-Some : goal.returns-in_ok-made-in-Some
returns-in_ok-made-in-Some c = λ from to marks reads alike.
    if_image from to (readings_by from marks c.args.readings) c.args.e.now c.expr.result.now c.new.result (c.in-Some.is ∙ ap Some (sym c.expr.ensures)) alike (λ same. ap (expr_of to) c.new.ensures ∙ c.in_ok-made-in-Some.ensures from to marks reads same)
