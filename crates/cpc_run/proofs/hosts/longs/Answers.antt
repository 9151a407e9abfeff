use Rattle.std.proofs.Common.{◌≡◌, ◌∷◌, [], ◌++◌, take, sym, ap, subst, ◌∙◌, arith}
use Rattle.std.proofs.lemmas.Int.{ints, to_z-of_z}
use mir.Val.{to_z, of_z}
use mir.Syntax.{w64}
use Rattle.std.proofs.lemmas.List.{take_more}
use Rattle.cpc_meaning.specs.Answer.{Gives}
use Rattle.cpc_meaning.specs.Machine.{ints_of}
use Rattle.cpc_eval_values.specs.Shown.{values_of}
use Rattle.cpc_run_code.proofs.Numbers.{ints_more}
use Rattle.cpc_run.proofs.hosts.longs.Goals as goal

pub loop-value-preserved : goal.loop-value-preserved
loop-value-preserved c = λ names.
    let xs = c.args.values.now in
    let i = c.loop-value.value-index in
    let z = c.long.result in
    let same : to_z w64 (of_z w64 z) ≡ z = grind (arith, ints, to_z-of_z) in
    subst (λ ys. ints_of (values_of names ys) ≡ Gives c.push.new.self.items) (sym (take_more xs i _ c.loop-value-test.true))
    (ints_more names (take i xs) _ c.loop-value.numbers.items z (c.loop-value.invariant names) (c.long.ensures names) ∙ ap (λ y. Gives (c.loop-value.numbers.items ++ y ∷ [])) (sym same) ∙ ap (λ ys. Gives ys) (sym c.in_ok-push.ensures.items))
