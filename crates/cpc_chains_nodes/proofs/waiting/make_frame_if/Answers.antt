use Rattle.std.proofs.Common.{◌∙◌, sym, ap, ℕ, Option}
use Rattle.cpc_chains_event.specs.Lines as L
use Rattle.cpc_chains_lines.specs.Written.{written, puts}
use Rattle.cpc_chains_nodes.proofs.waiting.make_frame_if.Goals as goal

pub returns-in_ok-make_frame-in-Some : goal.returns-in_ok-make_frame-in-Some
returns-in_ok-make_frame-in-Some c = λ source from to p r st leads.
    c.in_ok-make_frame-in-Some.ensures source from to p r st (leads c.in-Some.leader c.in-Some.is)
    ∙ ap (λ (o : Option ℕ). puts (written to c.args.out.now) (L.frame_lines_if r (to c.args.pointer) o)) (sym c.in-Some.is)
