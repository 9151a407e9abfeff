use Rattle.cpc_chains_lines.proofs.Loading.{loaded_so}
use Rattle.cpc_chains_opening.proofs.taking.load_next.Goals as goal

pub returns : goal.returns
returns c = λ source from to p r st.
    let next = st.book.own.next in
    loaded_so _ _ _ _ _ _ _ _ next (c.in_ok-of.ensures source from to p r st) next (c.in_ok-load.ensures source from to p r st)
