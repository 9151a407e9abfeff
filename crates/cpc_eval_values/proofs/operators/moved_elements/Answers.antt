use Rattle.std.proofs.Common.{◌≡◌, pos, ◌*ℤ◌, to_z, of_z, to_z-of_z, sym, ◌∙◌, arith}
use Rattle.std.specs.Int.{w128}
use Rattle.cpc_meaning.specs.Eval as E
use Rattle.cpc_eval_values.specs.Shown.{store_of, value_of}
use Rattle.cpc_eval_values.specs.Counted.{capped}
use Rattle.cpc_eval_values.proofs.Sized.{by_size}
use Rattle.cpc_eval_values.proofs.operators.moved_elements.Goals as goal

pub returns-in-Some-clause-value : goal.returns-in-Some-clause-value
returns-in-Some-clause-value c = λ names p t known.
    let z : to_z w128 (of_z w128 c.args.count) ≡ c.args.count = grind (arith, to_z-of_z) in
    by_size p t c.args.size (λ n. E.moved (store_of names c.args.store.now) (value_of names c.args.value) (c.args.count *ℤ pos n)) _ known (λ n e.
    let size : c.in-Some.cells ≡ capped n = cc (sym c.in-Some.is ∙ e) in
    rw z at (c.moved_by.ensures.value names n size))

pub returns-in-None-clause-value : goal.returns-in-None-clause-value
returns-in-None-clause-value c = λ names p t known.
    by_size p t c.args.size _ _ known (λ n e. let no : ⊥ = cc (sym c.in-None.is ∙ e) in absurd no)
