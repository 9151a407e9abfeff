use Rattle.std.proofs.Common.{ap, sym, ◌∙◌, arith, get_or, ◌++◌, map, []}
use Rattle.std.proofs.lemmas.List.{length-set}
use Rattle.cpc_lift_laws.specs.Search as S
use Rattle.cpc_lift_closures.proofs.Rows as R
use Rattle.cpc_lift_closures.proofs.links.rows_of.Goals as goal

pub loop-link-preserved : goal.loop-link-preserved
loop-link-preserved c =
    let rows = c.loop-link.rows.items in
    let links = c.args.links.now in
    let i = c.loop-link.link-index in
    let link = get_or links i (record { from = 0; to = 0 }) in
    record {
      length = length-set rows link.to c.push.new.self ∙ c.loop-link.invariant.length;
      rows = λ m lt.
          R.link_added (λ row. row.items) rows link.from link.to _ c.index_mut.result.now c.push.new.self m
          (omega (arith, c.requires i (record { from = 0; to = 0 }) (omega arith), c.loop-link.invariant.length)) (omega (arith, lt, c.loop-link.invariant.length)) c.index_mut.ensures.value c.in_ok-push.ensures.items
          ∙ ap (λ l. get_or (map (λ row. row.items) rows) m [] ++ S.before l m) (sym (R.links_left links i (record { from = 0; to = 0 }) (omega arith)))
          ∙ c.loop-link.invariant.rows m lt;
    }
