use Rattle.std.proofs.Common.{◌≡◌, ◌<◌, ◌+◌, ◌∙◌, sym, ap, suc, List, [], ◌∷◌, ◌++◌, map, length, arith}
use Rattle.cpc_base.specs.Bytes.{Text}
use Rattle.cpc_tree.specs.Erase.{expr_of, exprs_of, function_of}
use Rattle.cpc_tree.specs.Registers as R
use Rattle.cpc_tree.specs.Syntax as S
use Rattle.cpc_chains_store_laws.specs.Driver.{code_field, next_field}
use Rattle.cpc_chains_store_laws.specs.Frames.{asks_block, fills_frame}
use Rattle.cpc_convert_routines.specs.Names.{start_name, to_name, under_name}
use Rattle.cpc_convert_names.specs.Called.{function_in, variables_in}
use Rattle.cpc_chains_lines.specs.Known.{plain_seen}
use Rattle.cpc_convert_images.proofs.Rows.{alike_at}
use Rattle.cpc_chains_lines.specs.Around.{reads}
use Rattle.cpc_chains_lines.specs.Written.{written, puts}
use Rattle.cpc_chains_lines.specs.Puts.{gives}
use Rattle.cpc_chains_lines.proofs.Puts.{behind}
use Rattle.cpc_chains_nodes.proofs.Arguments.{give_put, all_given}
use Rattle.cpc_chains_nodes.proofs.waiting.call.Goals as goal

pub loop-number-preserved : goal.loop-number-preserved
loop-number-preserved c = λ source from to p r st called same.
    let xs = map (plain_seen to) (variables_in c.args.callee.now.lifted.now) in
    let i = c.loop-number.number in
    let e = c.index-arguments-number.result in
    let inside : i < length c.args.arguments.now = c.loop-number-test.true in
    let more : i + 1 ≡ suc i = omega arith in
    give_put (to c.args.callee.now.start) xs (reads from r c.args.around c.args.scope) from c.args.arguments.now i (i + 1) e _ _ _ c.index-arguments-number.is inside more (c.loop-number.invariant source from to p r st called same)
    (c.in_ok-give_argument.ensures source from to p r st called (alike_at from to c.args.arguments.now i e same inside c.index-arguments-number.is))

pub returns : goal.returns
returns c = λ source from to p r st called alike same.
    let u = written to c.args.out.now in
    let asked = written to c.ask_block.new.out in
    let begun = written to c.begin_frame.new.out in
    let l = c.args.callee.now.lifted.now in
    let g = function_of from (function_in l) in
    let xs = map (plain_seen to) (variables_in l) in
    let names = reads from r c.args.around c.args.scope in
    let es = exprs_of from c.args.arguments.now in
    let tag = to c.args.callee.now.start in
    let is_tag = called.start ∙ ap start_name (sym (ap (λ (f : S.Function). f.called) alike.function)) in
    let are = sym alike.variables ∙ alike.are in
    let asks = c.in_ok-ask_block.ensures source to st.book ∙ (ap (λ (x : Text). puts u (asks_block x tag ∷ [])) st.book.own.given ∙ ap (λ (x : Text). puts u (asks_block to_name x ∷ [])) is_tag) in
    let below = c.named-below.ensures to ∙ ap S.ENamed st.book.own.under in
    let begins = c.in_ok-begin_frame.ensures source to st.book
    ∙ (ap (λ (x : Text). puts asked (fills_frame (S.ENamed x) (S.ENamed x) code_field next_field tag (expr_of to c.named-below.result) [])) st.book.own.given
    ∙ (ap (λ (x : Text). puts asked (fills_frame (S.ENamed to_name) (S.ENamed to_name) code_field next_field x (expr_of to c.named-below.result) [])) is_tag
    ∙ ap (λ (x : S.Expr). puts asked (fills_frame (S.ENamed to_name) (S.ENamed to_name) code_field next_field (start_name g.called) x [])) below)) in
    let given = all_given tag xs names from c.args.arguments.now c.loop-number.number (written to c.loop-number.out) _ c.loop-number-test.false (c.loop-number.invariant source from to p r st called same)
    ∙ (ap (λ (x : Text). puts begun (gives x 0 xs names es)) is_tag ∙ ap (λ (vs : List S.Variable). puts begun (gives (start_name g.called) 0 vs names es)) are) in
    behind u asked _ (asks_block to_name (start_name g.called) ∷ []) (fills_frame (S.ENamed to_name) (S.ENamed to_name) code_field next_field (start_name g.called) (S.ENamed under_name) [] ++ gives (start_name g.called) 0 (R.variables g) names es) asks
    (behind asked begun _ (fills_frame (S.ENamed to_name) (S.ENamed to_name) code_field next_field (start_name g.called) (S.ENamed under_name) []) (gives (start_name g.called) 0 (R.variables g) names es) begins given)
