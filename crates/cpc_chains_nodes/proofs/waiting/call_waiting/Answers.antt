use Rattle.std.proofs.Common.{◌∙◌, sym, ap, [], ◌∷◌, ◌++◌, Option, option_map}
use Rattle.cpc_base.specs.Bytes.{Text}
use Rattle.cpc_tree.specs.Erase.{exprs_of, function_of}
use Rattle.cpc_tree.specs.Syntax as S
use Rattle.cpc_convert_routines.specs.Names.{to_name, under_name}
use Rattle.cpc_chains_event.specs.Lines as L
use Rattle.cpc_convert_names.specs.Called.{AreCalled, function_in}
use Rattle.cpc_convert_names.specs.declared.called.Called.{Called}
use Rattle.cpc_chains_lines.specs.Known.{IsAlike}
use Rattle.cpc_chains_lines.specs.Around.{reads}
use Rattle.cpc_chains_lines.specs.Written.{written, puts}
use Rattle.cpc_chains_lines.proofs.Puts.{behind}
use Rattle.cpc_chains_lines.proofs.Within.{found as callee_found}
use Rattle.cpc_chains_nodes.proofs.Called.{lifted_found}
use Rattle.cpc_chains_nodes.proofs.waiting.call_waiting.Goals as goal

pub returns-in_ok-hand_over-in-Some : goal.returns-in_ok-hand_over-in-Some
returns-in_ok-hand_over-in-Some c = λ source from to p r st leads means same.
    let u = written to c.args.out.now in
    let framed = written to c.make_frame_if.new.out in
    let entered = written to c.call.new.out in
    let callee = c.in-Some.callee.now in
    let items = c.args.around.book.now.functions.items in
    let x = from c.args.name in
    let names = reads from r c.args.around c.args.scope in
    let es = exprs_of from c.args.arguments.now in
    let g = function_of from (function_in callee.lifted.now) in
    let found = sym (c.in-Some.ensures from st.spells.apart) in
    let called = callee_found (AreCalled to) from items x callee st.book.functions found in
    let alike = lifted_found (IsAlike from to) from items x callee st.functions found in
    let frame = c.in_ok-make_frame_if-in-Some.ensures source from to p r st leads ∙ ap (λ (y : Text). puts u (L.frame_lines_if r y c.args.arrival)) st.book.own.under in
    let over = c.in_ok-hand_over-in-Some.ensures to ∙ ap (λ (y : Text). puts entered (L.hands_over y ∷ [])) st.book.own.given in
    behind u framed _ (L.frame_lines_if r under_name c.args.arrival) (L.call_lines g names es ++ (L.hands_over to_name ∷ [])) frame
    (behind framed entered _ (L.call_lines g names es) (L.hands_over to_name ∷ []) (c.in_ok-call-in-Some.ensures source from to p r st called alike same) over)
    ∙ ap (λ (o : Option S.Function). puts u (L.waits_lines r names c.args.arrival x o es)) (sym (means ∙ ap (option_map (λ (d : Called). function_of from (function_in d.lifted.now))) found))

pub returns-in_ok-wait-in-None : goal.returns-in_ok-wait-in-None
returns-in_ok-wait-in-None c = λ source from to p r st leads means same.
    c.in_ok-wait-in-None.ensures source from to p r st leads same
    ∙ ap (λ (o : Option S.Function). puts (written to c.args.out.now) (L.waits_lines r (reads from r c.args.around c.args.scope) c.args.arrival (from c.args.name) o (exprs_of from c.args.arguments.now)))
    (sym (means ∙ ap (option_map (λ (d : Called). function_of from (function_in d.lifted.now))) (sym (c.in-None.ensures from st.spells.apart))))
