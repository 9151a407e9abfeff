use Rattle.std.proofs.Common.{arith, sym, ◌∙◌}
use Rattle.std.proofs.lemmas.Bool.Decides.{nat_tests}
use Rattle.cpc_check_rules.specs.Noted.{first_of}
use Rattle.cpc_check_names.proofs.Broad.{broad_more, broad_end}
use Rattle.cpc_check_names.proofs.counts.broad_rules.Goals as goal

pub returns-then-all-gt-BREADTH_LIMIT : goal.returns-then-all-gt-BREADTH_LIMIT
returns-then-all-gt-BREADTH_LIMIT c = λ names.
    let e = broad_more names (first_of c.loop-item.first) (first_of c.add_breadth.new.first) c.args.items.now c.loop-item.item-index c.item-item.result c.loop-item.all c.in_ok-all.all (omega arith) c.item-item.is (c.in_ok-all.ensures names) in
    let i = c.loop-item.invariant.1 names in
    let t = c.if-all-gt-BREADTH_LIMIT.true in
    grind (arith, nat_tests, e, i)

pub loop-item-preserved : goal.loop-item-preserved
loop-item-preserved c = (
  omega arith,
  λ names.
      let e = broad_more names (first_of c.loop-item.first) (first_of c.add_breadth.new.first) c.args.items.now c.loop-item.item-index c.item-item.result c.loop-item.all c.in_ok-all.all (omega arith) c.item-item.is (c.in_ok-all.ensures names) in
      let i = c.loop-item.invariant.1 names in
      let t = c.if-all-gt-BREADTH_LIMIT.false in
      grind (arith, nat_tests, e, i),
)

pub returns : goal.returns
returns c = λ names.
    let e = broad_end names (first_of c.loop-item.first) c.args.items.now c.loop-item.item-index c.loop-item.all (omega arith) in
    sym e ∙ c.loop-item.invariant.1 names
