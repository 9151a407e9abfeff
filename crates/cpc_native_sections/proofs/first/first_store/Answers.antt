use Rattle.std.proofs.Common.{ap, ◌∙◌}
use Rattle.cpc_store.specs.Store.{alloc}
use Rattle.cpc_store.specs.declared.values.Class.TheVariants.{Static}
use Rattle.cpc_eval_values.specs.Shown.{values_of, store_of}
use Rattle.cpc_native_sections.proofs.Running.{store_made}
use Rattle.cpc_native_sections.proofs.first.first_store.Goals as goal

pub returns : goal.returns
returns c = λ names.
    c.in_ok-make_block.ensures.made names ∙ ap (λ s. alloc Static (values_of names c.args.cells.now) (store_of names s)) c.new-store.ensures
    ∙ store_made names c.args.cells.now c.if-is_empty.ensures
