use Rattle.std.proofs.Common.{◌<◌, ap, sym, not, subst, length, ◌∙◌, ◌++◌, get_or, arith}
use Rattle.cpc_tree.specs.Lists.{holds_number}
use Rattle.cpc_chains_event.specs.Rows.{number_where}
use Rattle.cpc_convert_rows.specs.Marks.{AreMarked}
use Rattle.cpc_convert_rows.proofs.Turned.{chosen_left}
use Rattle.cpc_convert_rows.proofs.Placing.{holds_at}
use Rattle.cpc_convert_rows.proofs.numbers.Placed.completed.Goals as goal

pub loop-leader-preserved : goal.loop-leader-preserved
loop-leader-preserved c = λ are below.
    let ns = c.args.self.all.items in
    let i = c.loop-leader.leader-index in
    let n = get_or c.args.leaders.now i 0 in
    let within : n < length c.args.self.marks.items = below n (holds_at c.args.leaders.now i (omega arith)) in
    let new = c.is_unmarked.ensures ns (subst (λ m. AreMarked m ns) (sym c.deref.ensures.value) are) (subst (λ m. n < length m) (sym c.deref.ensures.value) within) in
    chosen_left (λ k. not (holds_number ns k)) c.args.leaders.now i c.loop-leader.all.items c.add_if.new.all.items (omega arith) (c.in_ok-add_if.ensures ∙ ap (λ b. c.loop-leader.all.items ++ number_where b n) new)
    ∙ c.loop-leader.invariant are below
