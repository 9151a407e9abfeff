use Rattle.std.proofs.Common.{◌<◌, sym, subst, ap, All, map, length, ◌∙◌, ◌++◌}
use Rattle.cpc_forms_code.specs.Splits.{place_of}
use Rattle.cpc_chains_event.specs.Rows.{row_of, put_rows, is_wanted, rows_statements}
use Rattle.cpc_chains_lines.specs.Around.{IsNode}
use Rattle.cpc_chains_lines.specs.Written.{written}
use Rattle.cpc_convert_rows.specs.Marks.{is_set}
use Rattle.cpc_chains_opening.proofs.Knowing.{many, numbers_within}
use Rattle.cpc_chains_opening.proofs.Written.{plain}
use Rattle.cpc_chains_pieces.proofs.making.write_all.Goals as goal

pub returns : goal.returns
returns c = λ source from to p r st w nodes leaders none.
    let l = place_of c.args.owner in
    let a = c.args.around in
    let numbers = c.in_ok-numbers.ensures p r l w.stepped nodes leaders in
    let given = c.deref-2.ensures.value ∙ numbers in
    let marks = c.deref-3.ensures.value in
    let done = (written to c.args.out.now).done in
    c.in_ok-write_rows.ensures source from to p r st w.stepped (subst (All (IsNode a)) (sym given) (numbers_within source from to p r a c.args.stepped.now l st w))
    (ap length marks ∙ (c.in_ok-marks.ensures.long ∙ many from p r a c.args.stepped.now w)) (λ k lt.
    ap (λ ms. is_set ms k) marks ∙ (c.in_ok-marks.ensures.marks p r k w.stepped (subst (λ ms. k < length ms) marks lt) ∙ ap (λ ns. is_wanted k (put_rows (map (row_of p r l) ns))) (c.deref.ensures.value ∙ sym c.deref-2.ensures.value)))
    none
    ∙ ap (λ ns. plain (done ++ rows_statements (put_rows (map (row_of p r l) ns)) (put_rows (map (row_of p r l) ns)))) given
