use Rattle.std.proofs.lemmas.Result.{on_ok_weaker}
use Rattle.cpc_tree.specs.Locate.{ident}
use Rattle.cpc_check_values.specs.Stands.{where_of}
use Rattle.cpc_check_values.proofs.Starting.{started_told}
use Rattle.cpc_check_values.proofs.started.started_rules.Goals as goal

pub returns : goal.returns
returns c = on_ok_weaker c.argument_rules.result
    (λ h names s. started_told names (where_of names c.args.w.now) (ident names c.args.word) c.args.arguments.now _ _ _ _ _ _ _ (c.meant.ensures names s.apart) (c.start_callee-callee.ensures names s.apart)
    (c.note_wrong.ensures names) (c.note_count.ensures names) (h names s))
    c.argument_rules.ensures
