use Rattle.std.proofs.Common.{◌<◌, ◌∙◌, subst, arith}
use Rattle.cpc_forms_code.specs.Splits.{place_of}
use Rattle.cpc_convert_rows.proofs.Wanting.{wanted_left}
use Rattle.cpc_convert_rows.proofs.wanted.wanted_rows.Goals as goal

pub loop-place-preserved : goal.loop-place-preserved
loop-place-preserved c = record {
  long = c.mark_row.ensures.long ∙ c.loop-place.invariant.long;
  marks = λ p r k is below.
      let under = subst (λ n. k < n) c.mark_row.ensures.long below in
      wanted_left p r (place_of c.args.owner) c.args.numbers.now c.loop-place.place k c.behind-following.result _ _ (omega arith) c.behind-following.ensures (c.mark_row.ensures.each p r k is under)
      ∙ c.loop-place.invariant.marks p r k is under;
}
