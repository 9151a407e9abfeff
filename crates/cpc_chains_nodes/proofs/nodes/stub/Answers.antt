use Rattle.std.proofs.Common.{◌∙◌, ap, [], ◌∷◌, ◌++◌}
use Rattle.cpc_base.specs.Bytes.{Text}
use Rattle.cpc_forms.specs.Flow.{At}
use Rattle.cpc_convert_routines.specs.Names.{to_name}
use Rattle.cpc_chains_event.specs.Lines as L
use Rattle.cpc_chains_lines.specs.Written.{written, puts}
use Rattle.cpc_chains_lines.proofs.Puts.{behind}
use Rattle.cpc_chains_nodes.proofs.Read.{told}
use Rattle.cpc_chains_nodes.proofs.nodes.stub.Goals as goal

pub returns : goal.returns
returns c = λ source from to p r st is_node following.
    let u = written to c.args.out.now in
    let frame = L.frame_lines r to_name (At c.args.leader) in
    let made = c.in_ok-make_frame.ensures source from to p r st is_node ∙ ap (λ (x : Text). puts u (L.frame_lines r x (At c.args.leader))) st.book.own.given in
    let over = c.in_ok-hand_over.ensures to ∙ ap (λ (x : Text). puts (written to c.make_frame.new.out) (L.hands_over x ∷ [])) st.book.own.given in
    told following u _ (frame ++ (L.hands_over to_name ∷ [])) (behind u (written to c.make_frame.new.out) _ frame (L.hands_over to_name ∷ []) made over)
