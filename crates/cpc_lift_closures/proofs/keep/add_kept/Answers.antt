use Rattle.std.proofs.Common.{◌<◌, ◌∙◌, arith, length}
use Rattle.std.proofs.lemmas.List.{length-set}
use Rattle.cpc_lift_closures.proofs.Keeping as K
use Rattle.cpc_lift_closures.proofs.keep.add_kept.Goals as goal

pub loop-owner-preserved : goal.loop-owner-preserved
loop-owner-preserved c =
    let rows = c.loop-owner.rows.items in
    let owner = c.loop-owner.owner in
    let old = c.loop-owner.invariant in
    let below : owner < length rows = omega (arith, c.requires, old.long) in
    record {
      long = length-set rows owner c.add_if.new.row ∙ old.long;
      done = λ k lt within.
          K.more_done (λ row. row.items) rows c.args.rows.now.items c.args.marks.now c.args.variable owner c.index_mut.result.now c.add_if.new.row below c.index_mut.ensures.value c.in_ok-add_if.ensures old.done old.left k lt within;
      left = λ k le.
          K.less_left (λ row. row.items) rows c.args.rows.now.items c.args.marks.now c.args.variable owner c.index_mut.result.now c.add_if.new.row below c.index_mut.ensures.value c.in_ok-add_if.ensures old.done old.left k le;
    }
