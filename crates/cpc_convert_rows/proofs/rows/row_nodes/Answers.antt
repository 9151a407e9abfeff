use Rattle.cpc_forms_code.specs.Splits.{place_of}
use Rattle.cpc_convert_rows.proofs.Turned.{ordered}
use Rattle.cpc_convert_rows.proofs.rows.row_nodes.Goals as goal

pub returns : goal.returns
returns c = λ r is of.
    ordered r.split (place_of c.args.owner) c.first_of-first.result c.is_first.result c.owned-owned.result.now c.new-all.result.items c.add_if.new.all.items c.add_behind.new.all.items c.add_before.new.all.items
    (c.first_of-first.ensures r is.entry) (c.owned-owned.ensures r is of) (c.is_first.ensures r is) c.new-all.ensures.items c.in_ok-add_if.ensures (c.in_ok-add_behind.ensures r is) (c.in_ok-add_before.ensures r is)
