use Rattle.std.proofs.Common.{◌<◌, ap, sym, subst, map, length, get_or, ◌∙◌, arith}
use Rattle.cpc_forms_code.specs.Splits.{place_of}
use Rattle.cpc_chains_event.specs.Rows.{put_rows, row_of}
use Rattle.cpc_chains_lines.specs.Written.{Written, written}
use Rattle.cpc_chains_pieces.proofs.Rowed.{row_more, rows_done}
use Rattle.cpc_chains_pieces.proofs.rows.write_rows.Goals as goal

pub loop-place-preserved : goal.loop-place-preserved
loop-place-preserved c = λ source from to p r st is all long marks none.
    let ns = c.args.numbers.now in
    let i = c.loop-place.place in
    let n = get_or ns i 0 in
    let w = c.in_ok-row.ensures source from to p r st is (all i 0 (omega arith)) in
    let within : n < length c.args.marks.now = subst (λ k. n < k) (sym long) (all i 0 (omega arith)) in (
      ap (λ (x : Written). x.label) w,
      row_more p r (place_of c.args.owner) ns i (put_rows (map (row_of p r (place_of c.args.owner)) ns)) (written to c.loop-place.out).done _ c.behind.result c.is_marked.result (omega arith) c.behind.ensures
          (c.is_marked.ensures.set ∙ marks n within) (ap (λ (x : Written). x.done) w)
          ∙ (c.loop-place.invariant source from to p r st is all long marks none).1,
    )

pub returns : goal.returns
returns c = λ source from to p r st is all long marks none.
    let ns = c.args.numbers.now in
    let before = c.loop-place.invariant source from to p r st is all long marks none in
    rows_done p r (place_of c.args.owner) ns c.loop-place.place (put_rows (map (row_of p r (place_of c.args.owner)) ns)) (written to c.loop-place.out) _ (omega arith) before.0 before.1
