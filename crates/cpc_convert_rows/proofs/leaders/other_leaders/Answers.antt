use Rattle.std.proofs.Common.{◌∙◌, arith}
use Rattle.cpc_forms_code.specs.Splits.{place_of}
use Rattle.cpc_convert_rows.proofs.Turned.{leader_seen}
use Rattle.cpc_convert_rows.proofs.leaders.other_leaders.Goals as goal

pub loop-leader-preserved : goal.loop-leader-preserved
loop-leader-preserved c = λ r is are.
    leader_seen (place_of c.args.owner) r _ c.in_ok-marks.marks.items c.args.nodes.now _ c.args.stepped.now.split.now.leaders.items c.loop-leader.all.items c.add_if.new.all.items c.loop-leader.leader-index _ c.is_other.result
    c.deref.ensures.value c.deref-leader-items.ensures.value c.in_ok-marks.ensures.long is.led (omega arith) are (c.in_ok-marks.ensures.marks r is) (λ ns m lt. c.is_other.ensures r ns is m lt) c.in_ok-add_if.ensures
    ∙ c.loop-leader.invariant r is are
