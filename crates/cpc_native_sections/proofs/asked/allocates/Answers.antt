use Rattle.std.proofs.Common.{◌≡◌, [], ◌∷◌, false, pos, sym, ap, subst, ◌∙◌, arith}
use Rattle.std.specs.Prelude.{int_lt, unsigned_abs}
use Rattle.std.proofs.lemmas.Int.{ints, to_z-of_z}
use mir.Val.{to_z, of_z}
use mir.Syntax.{w128}
use Rattle.cpc_meaning.specs.Requests as R
use Rattle.cpc_eval_values.specs.Shown.{value_of}
use Rattle.cpc_native_sections.specs.Led.{LeadsTo, asking_of}
use Rattle.cpc_native_sections.proofs.Asking.{led_made}
use Rattle.cpc_native_sections.proofs.Running.{still_running}
use Rattle.cpc_native_sections.proofs.asked.allocates.Goals as goal

pub returns-clause-led : goal.returns-clause-led
returns-clause-led c =
    let old = c.args.machine.now in
    let mid = c.makes.new.machine in
    let same = c.makes.ensures.same in
    let z = c.in-Int.count in
    let again : to_z w128 (of_z w128 z) ≡ z = grind (arith, ints, to_z-of_z) in
    let not_below : int_lt z (pos 0) ≡ false = ap (λ x. int_lt x (pos 0)) (sym again) ∙ c.if-count-lt0.false in
    λ names runs f no_copy.
    subst (λ v. LeadsTo names c.replies.new.machine c.replies.result (asking_of names old f no_copy (names c.args.function) (record { asked = R.Builtin R.Malloc; arguments = value_of names v ∷ [] }))) (sym c.in-Int.is)
    (led_made names old mid c.replies.new.machine f no_copy c.args.function c.replies.result same c.in-Int.field-0 z _ c.in_ok-block.block not_below (ap unsigned_abs (sym again)) c.in_ok-block.ensures.store c.in_ok-block.ensures.block
    (c.replies.ensures.led names (still_running names old mid same.index same.texts runs) f no_copy))
