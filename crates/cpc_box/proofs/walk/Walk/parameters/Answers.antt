use Rattle.std.proofs.Common.{[], map, take, Some, refl, sym, ap, ◌∙◌}
use Rattle.std.proofs.lemmas.Option.{slice_get-get_or}
use Rattle.cpc_tree.specs.Erase.{parameter_of}
use Rattle.cpc_tree.specs.Registers.{parameter_scope}
use Rattle.cpc_box.specs.Walked.{NoLocal}
use Rattle.cpc_box.proofs.Going.{none}
use Rattle.cpc_box.proofs.Parameters.{parameter_more}
use Rattle.cpc_box.proofs.walk.Walk.parameters.Goals as goal

pub loop-parameter-init : goal.loop-parameter-init
loop-parameter-init c = λ names told. record { walked = none names c.args.kept.now c.args.self.now c.args.self.now refl; scope = NoLocal }

pub loop-parameter-preserved : goal.loop-parameter-preserved
loop-parameter-preserved c = λ names told.
    let i = c.loop-parameter.parameter-index in
    let ps = c.args.parameters.now in
    let p = c.parameter-item.result in
    let so = c.loop-parameter.invariant names told in
    parameter_more names c.args.kept.now c.args.self.now c.loop-parameter.self c.parameter.new.self ps i p c.loop-parameter.inner c.in_ok-parameter.field-0 c.requires c.loop-parameter-test.true c.parameter-item.is so
    (c.in_ok-parameter.ensures names (parameter_scope 0 (map (parameter_of names) (take i ps)) []) so.scope (told.unnamed i p (slice_get-get_or ps i p c.loop-parameter-test.true ∙ ap Some (sym c.parameter-item.is))))
