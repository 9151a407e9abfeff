use Rattle.std.proofs.Common.{◌≡◌}
use Rattle.cpc_convert_images.specs.Readings.{readings_by}
use Rattle.cpc_convert_images.proofs.Rows.{alike_at, images_more, call_image}
use Rattle.cpc_convert_images.proofs.imaging.+imaged.Goals as goal

pub image-returns-in_ok-arguments-in-CallIn : goal.image-returns-in_ok-arguments-in-CallIn
image-returns-in_ok-arguments-in-CallIn t c = λ from to marks reads alike.
    let function = c.deref-in-CallIn.ensures in
    let arguments = c.deref-in-CallIn-2.ensures.value in
    let is_f : c.deref-in-CallIn.result.now ≡ c.in-CallIn.function.value = cc in
    let is_es : c.deref-in-CallIn-2.result.now ≡ c.in-CallIn.arguments.items = cc in
    call_image from to (readings_by from marks c.args.readings) c.args.e.now c.in-CallIn.place c.in-CallIn.function c.in_ok-function-in-CallIn.function c.in-CallIn.arguments c.in_ok-arguments-in-CallIn.arguments
    c.deref-in-CallIn.result.now c.deref-in-CallIn-2.result.now c.in-CallIn.is is_f is_es alike (λ same. c.in_ok-function-in-CallIn.ensures from to marks reads same) (λ same. c.in_ok-arguments-in-CallIn.ensures from to marks reads same)

pub images-loop-e-preserved : goal.images-loop-e-preserved
images-loop-e-preserved t c = λ from to marks reads alike.
    let same = alike_at from to c.args.row.now c.loop-e.e-index c.e-item.result alike c.loop-e-test.true c.e-item.is in
    images_more from to (readings_by from marks c.args.readings) c.args.row.now c.loop-e.all.items c.push.new.self.items c.loop-e.e-index c.e-item.result c.in_ok-made.made c.in_ok-push.ensures.items
    (c.loop-e.invariant from to marks reads alike) c.loop-e-test.true c.e-item.is (c.in_ok-made.ensures from to marks reads same)
