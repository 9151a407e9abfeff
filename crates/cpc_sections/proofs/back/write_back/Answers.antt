use Rattle.std.proofs.Common.{◌≡◌, ◌+◌, suc, drop, sym, ap, ◌∙◌, arith}
use Rattle.cpc_meaning.specs.Copies.{write_back}
use Rattle.cpc_eval_values.specs.Shown.{values_of, store_of}
use Rattle.cpc_sections.proofs.Writing.{next_at, one_back, not_back, refused}
use Rattle.cpc_sections.proofs.back.write_back.Goals as goal

pub returns-in_err-save : goal.returns-in_err-save
returns-in_err-save c = λ names.
    let b = c.args.block in
    let k = c.loop-k.k in
    let cells = c.args.cells.now in
    let j = c.args.offset + k in
    c.loop-k.invariant names
    ∙ ap (λ xs. write_back (values_of names xs) b.class b.number j (store_of names c.loop-k.store)) (next_at cells k _ c.loop-k-test.true)
    ∙ not_back names _ (values_of names (drop (k + 1) cells)) b.class b.number j c.loop-k.store c.in_err-save.field-0.0 c.in_err-save.ensures.value
    ∙ sym (refused (store_of names c.save.new.self) c.from_residual.result c.in_err-save.field-0.0 c.from_residual.ensures.1)

pub loop-k-preserved : goal.loop-k-preserved
loop-k-preserved c = λ names.
    let b = c.args.block in
    let k = c.loop-k.k in
    let cells = c.args.cells.now in
    let j = c.args.offset + k in
    let rest = values_of names (drop (k + 1) cells) in
    let next : suc j ≡ c.args.offset + (k + 1) = omega arith in
    c.loop-k.invariant names
    ∙ ap (λ xs. write_back (values_of names xs) b.class b.number j (store_of names c.loop-k.store)) (next_at cells k _ c.loop-k-test.true)
    ∙ one_back names _ rest b.class b.number j c.loop-k.store c.save.new.self c.in_ok-save.ensures.value
    ∙ ap (λ m. write_back rest b.class b.number m (store_of names c.save.new.self)) next
