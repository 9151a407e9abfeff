use Rattle.std.proofs.Common.{◌++◌, ◌∷◌, [], None, ap, ◌∙◌}
use Rattle.cpc_base.proofs.Lists.{appended_empty}
use Rattle.cpc_tree.specs.Erase.{stmt_of}
use Rattle.cpc_graph.specs.Ends.{ends_of}
use Rattle.cpc_graph.specs.Ways.{way, ways_of}
use Rattle.cpc_graph.proofs.Formed.{onward}
use Rattle.cpc_graph.proofs.linking.body_ways.Goals as goal

pub returns : goal.returns
returns c = λ names label finds e.
    c.in_ok-push.ensures
    ∙ (ap (λ x. c.link.new.ways.items ++ x ∷ []) c.only.ensures
    ∙ ap (λ l. l ++ way None None ∷ []) (c.in_ok-link.ensures.ways names label [] finds (e ∙ appended_empty (ends_of (stmt_of names c.args.body.now) 0)) ∙ ap (λ l. l ++ ways_of (stmt_of names c.args.body.now) 0 (onward c.args.end label)) c.new-ways.ensures.items))
