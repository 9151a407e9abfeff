use Rattle.std.proofs.Common.{◌≡◌, Bool, true, sym, ap, ◌∙◌}
use Rattle.cpc_tree.specs.Erase.{stmt_of}
use Rattle.cpc_tree.specs.Points.{Simple}
use Rattle.cpc_meaning.specs.Act.{target_of}
use Rattle.cpc_convert_routines.specs.Arriving.{arriving_found}
use Rattle.cpc_convert_routines.specs.Taken.{has_place}
use Rattle.cpc_chains_lines.specs.Puts.{loads_if}
use Rattle.cpc_chains_lines.specs.Written.{written, puts}
use Rattle.cpc_chains_lines.proofs.Arrival.{has_one}
use Rattle.cpc_chains_lines.proofs.Loading.{loaded_so}
use Rattle.cpc_chains_lines.proofs.arriving.load_at.Goals as goal

pub returns-in_ok-load-in-Some : goal.returns-in_ok-load-in-Some
returns-in_ok-load-in-Some c = λ source from to p r st means.
    let s = stmt_of from c.args.s.now in
    let value = st.book.own.value in
    let is_put : has_place (target_of (Simple s)) ≡ true = has_one (target_of (Simple s)) _ (sym (c.in-Some.ensures from)) in
    loaded_so _ _ _ _ _ _ _ _ value (c.in_ok-of-in-Some.ensures source from to p r st means) value (c.in_ok-load-in-Some.ensures source from to p r st)
    ∙ ap (λ (b : Bool). puts (written to c.args.out.now) (loads_if b (arriving_found p (Simple s)))) (sym is_put)
