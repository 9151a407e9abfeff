use Rattle.cpc_chains_lines.proofs.Loading.{words_declared}
use Rattle.cpc_chains_opening.proofs.taking.declare_words.Goals as goal

pub returns : goal.returns
returns c = λ source from to p r st.
    words_declared c.args.gives c.args.calls c.args.returns r.function.result _ _ _ _ _ _ st.book.own.given st.book.own.under
    (c.in_ok-declare_pointer.ensures source from to p r st) (c.in_ok-declare_pointer-2.ensures source from to p r st) (c.in_ok-declare_result.ensures source from to p r st)
