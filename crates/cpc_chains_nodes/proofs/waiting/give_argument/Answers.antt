use Rattle.std.proofs.Common.{◌≡◌, ◌<◌, ◌∙◌, sym, ap, length, arith}
use Rattle.cpc_base.specs.Bytes.{Text}
use Rattle.cpc_base.proofs.Lists.{found_within}
use Rattle.cpc_tree.specs.Erase.{expr_of}
use Rattle.cpc_tree.specs.Syntax as S
use Rattle.cpc_convert_image_laws.specs.Images as I
use Rattle.cpc_chains_store_laws.specs.Frames.{frame_through}
use Rattle.cpc_convert_routines.specs.Names.{to_name}
use Rattle.cpc_convert_routines.specs.Routines.{is_plain}
use Rattle.cpc_convert_names.specs.Called.{variables_in}
use Rattle.cpc_chains_lines.specs.Known.{plain_seen}
use Rattle.cpc_chains_lines.specs.Around.{reads}
use Rattle.cpc_chains_lines.specs.Written.{written, puts}
use Rattle.cpc_chains_nodes.proofs.Arguments.{given_at}
use Rattle.cpc_chains_nodes.proofs.Read.{assign_put}
use Rattle.cpc_chains_nodes.proofs.waiting.give_argument.Goals as goal

pub returns : goal.returns
returns c = λ source from to p r st called same.
    let u = written to c.args.out.now in
    let vs = variables_in c.args.callee.now.lifted.now in
    let tag = to c.args.callee.now.start in
    let e = expr_of from c.args.argument.now in
    let names = reads from r c.args.around c.args.scope in
    let long : length c.variables.result.now ≡ length vs = ap length c.variables.ensures in
    let inside : c.args.number < length vs = omega (arith, long) in
    let w = found_within vs c.args.number inside in
    let frame = c.in_ok-frame.ensures to ∙ ap (λ (x : Text). frame_through x tag) st.book.own.given in
    let local = c.local.ensures to w.0 called w.1 in
    let target = c.in_ok-target.ensures to ∙ (ap (λ (x : S.Expr). S.EArrow x (to c.local.result)) frame ∙ ap (λ (x : Text). S.EArrow (frame_through to_name tag) x) local) in
    let made = c.in_ok-made.ensures from to (is_plain r) (c.readings.ensures.read source from to p r st) same ∙ ap (λ (n : I.Readings). I.image n e) (c.readings.ensures.are from r) in
    assign_put u _ _ _ _ _ _ (c.in_ok-assign.ensures to) target made ∙ ap (puts u) (sym (given_at (plain_seen to) tag vs c.args.number w.0 names e w.1))
