use Rattle.std.proofs.Common.{sym, ap, ◌∙◌}
use Rattle.cpc_store.specs.Store.{next_block}
use Rattle.cpc_store.proofs.CodeLemmas.{next_block-map}
use Rattle.cpc_run_code.specs.Code.{store_in}
use Rattle.cpc_run_code.proofs.code.Code.made.Goals as goal

pub returns : goal.returns
unfolding store_in
returns c = λ names. c.made.ensures ∙ ap (next_block c.args.class) c.store.ensures ∙ sym (next_block-map names c.args.class c.args.self.now.machine.store)
