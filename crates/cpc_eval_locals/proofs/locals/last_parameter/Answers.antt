use Rattle.std.proofs.Common.{◌∙◌, length, refl, arith}
use Rattle.std.proofs.lemmas.Option.{slice_get_read}
use Rattle.cpc_eval_locals.specs.Locals.{held_of}
use Rattle.cpc_eval_locals.proofs.Holding.{parameter_more}
use Rattle.cpc_eval_locals.proofs.locals.last_parameter.Goals as goal

pub loop-slot-preserved : goal.loop-slot-preserved
loop-slot-preserved c = record {
  within = omega arith;
  rest = λ names told.
      let l = c.loop-slot in
      let p = c.index-parameters-slot.result in
      parameter_more names (names c.args.name) c.args.parameters.now l.slot p (held_of names l.held) _ c.loop-slot-test.true (omega arith) c.index-parameters-slot.is
      (c.with_parameter-held.ensures names told.apart (λ none. told.unnamed l.slot p (slice_get_read c.args.parameters.now (length c.args.parameters.now) l.slot p refl c.loop-slot-test.true c.index-parameters-slot.is) none c.args.name))
      ∙ l.invariant.rest names told;
}
