use Rattle.std.proofs.Common.{ap, ◌∙◌, ◌++◌, [], ◌∷◌}
use Rattle.cpc_forms_code.specs.Programs.{cps_functions}
use Rattle.cpc_box.proofs.Items.{cps_more}
use Rattle.cpc_box.proofs.boxing.boxed.Goals as goal

pub loop-place-preserved : goal.loop-place-preserved
loop-place-preserved c =
    let x = c.item-item.result in
    record {
      functions = c.in_ok-add.ensures.functions ∙ (ap (λ l. l ++ cps_functions (x ∷ [])) c.loop-place.invariant.functions ∙ cps_more c.deref-item-items.result.now c.loop-place.place x c.loop-place-test.true c.item-item.is);
      sources = c.in_ok-add.ensures.sources c.loop-place.invariant.sources;
    }
