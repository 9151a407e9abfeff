use Rattle.std.proofs.Common.{◌∙◌, ℕ, Option, sym, ap}
use Rattle.cpc_base.specs.Bytes.{Text}
use Rattle.cpc_tree.specs.Syntax as S
use Rattle.cpc_chains_event.specs.Lines as L
use Rattle.cpc_chains_lines.specs.Written.{written, put, puts}
use Rattle.cpc_chains_lines.specs.Puts.{statements_before}
use Rattle.cpc_chains_lines.proofs.Puts.{goes_jump}
use Rattle.cpc_chains_lines.proofs.ways.go_on.Goals as goal

pub returns-in_ok-goto-in-Some : goal.returns-in_ok-goto-in-Some
returns-in_ok-goto-in-Some c = λ source from to p r st leads.
    let w = written to c.args.out.now in
    c.in_ok-goto-in-Some.ensures to
    ∙ (ap (λ (l : Text). put w (S.Goto l)) (c.label.ensures source from to p r st (leads c.in-Some.number c.in-Some.is))
    ∙ (ap (puts w) (sym (goes_jump c.args.following c.in-Some.number (sym c.is_next.ensures ∙ c.if-is_next.false)))
    ∙ ap (λ (o : Option ℕ). puts w (statements_before c.args.following (L.goes o))) (sym c.in-Some.is)))
