use Rattle.std.proofs.Common.{◌-◌, ap, sym, ◌∙◌, if◌then◌else◌, map, Some, arith}
use Rattle.cpc_shapes.specs.Counted.{tag_of}
use Rattle.cpc_shapes.specs.Indexed.{last_below}
use Rattle.cpc_eval_index.proofs.Standing.{scan_next}
use Rattle.cpc_eval_index.proofs.ends.last_struct.Goals as goal

pub returns-then-is_struct-clause-value : goal.returns-then-is_struct-clause-value
returns-then-is_struct-clause-value c =
    let xs = c.args.items.now in
    let n = c.loop-left.left in
    sym (c.loop-left.invariant.same
    ∙ scan_next xs c.args.tag.0 n c.index-items-left.result (omega arith) (omega arith) c.index-items-left.is
    ∙ ap (λ b. if b then Some (n - 1) else last_below (n - 1) (map tag_of xs) c.args.tag.0) (sym c.is_struct.ensures ∙ c.if-is_struct.true))

pub loop-left-preserved : goal.loop-left-preserved
loop-left-preserved c =
    let xs = c.args.items.now in
    let n = c.loop-left.left in
    record {
      within = omega arith;
      same = c.loop-left.invariant.same
          ∙ scan_next xs c.args.tag.0 n c.index-items-left.result (omega arith) (omega arith) c.index-items-left.is
          ∙ ap (λ b. if b then Some (n - 1) else last_below (n - 1) (map tag_of xs) c.args.tag.0) (sym c.is_struct.ensures ∙ c.if-is_struct.false);
    }
