use Rattle.std.proofs.Common.{sym, ap, ◌∙◌}
use Rattle.cpc_tree.specs.Primitives.{primitive_named}
use Rattle.cpc_meaning.specs.Ways.{meant_manner}
use Rattle.cpc_eval_index.specs.Indexed.{items_of}
use Rattle.cpc_forms_code.specs.Seen.{scope_seen}
use Rattle.cpc_box.proofs.Named.{local_manner, no_local}
use Rattle.cpc_box.proofs.around.named_manner.Goals as goal

pub returns-in-Some : goal.returns-in-Some
returns-in-Some c = λ names spells named. sym (local_manner (items_of names c.args.around.index.now) (scope_seen names c.args.variables.now c.args.scope) (names c.args.name) _ (primitive_named (names c.args.name)) (c.in-Some.ensures names spells.apart named))

pub returns-in-None : goal.returns-in-None
returns-in-None c = λ names spells named.
    c.outside_manner.ensures names spells ∙ ap (λ m. meant_manner m (primitive_named (names c.args.name))) (sym (no_local (items_of names c.args.around.index.now) (scope_seen names c.args.variables.now c.args.scope) (names c.args.name) (c.in-None.ensures names spells.apart named)))
