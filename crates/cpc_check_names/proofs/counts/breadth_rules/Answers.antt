use Rattle.std.proofs.Common.{map, sym, ap, ◌∙◌}
use Rattle.std.proofs.lemmas.Result.{on_ok_weaker}
use Rattle.cpc_tree.specs.Locate.{located_item}
use Rattle.cpc_check_rules.specs.Rules.{breadth_breaks}
use Rattle.cpc_check_rules.specs.Noted.{noted, first_of}
use Rattle.cpc_check_names.proofs.counts.breadth_rules.Goals as goal

pub returns-in-Cpc : goal.returns-in-Cpc
returns-in-Cpc c = on_ok_weaker c.broad_rules.result (λ h names.
    h names ∙ ap (λ dialect. noted (first_of c.args.first.now) (breadth_breaks dialect (map (located_item names) c.args.items.now))) (sym c.in-Cpc.is)) c.broad_rules.ensures
