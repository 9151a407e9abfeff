use Rattle.std.proofs.Common.{◌∙◌, [], ◌∷◌, ◌++◌, List, None, Some, codes, ap}
use Rattle.cpc_tree.specs.declared.program.Statement.{Statement}
use Rattle.cpc_tree.specs.Erase.{stmt_of, list_of}
use Rattle.cpc_tree.specs.Syntax.{Block, AndStmt, NoStmt, Declare, Assign, TyPointer, TyStruct, ENamed, EArrow}
use Rattle.cpc_tree.proofs.Clauses.{block_is}
use Rattle.cpc_chains_store_laws.specs.Driver.{taken, taken_name, frame_tag, value_field}
use Rattle.cpc_chains_items.proofs.driving.drive_body.Goals as goal

pub returns : goal.returns
returns c = λ source to b.
    let f = c.in_ok-take.field-0 in
    let s = c.in_ok-answer.field-0 in
    let t = c.in_ok-go_round.field-0 in
    let items = c.in_ok-push-3.ensures.items ∙ ap (λ (u : List Statement). u ++ t ∷ []) (c.in_ok-push-2.ensures.items ∙ ap (λ (u : List Statement). u ++ s ∷ []) (c.in_ok-push.ensures.items ∙ ap (λ (u : List Statement). u ++ f ∷ []) c.new-inner.ensures.items)) in
    let begins = Declare taken_name (TyPointer (TyStruct frame_tag)) (Some (ENamed (codes "k__"))) in
    let answers = Assign (EArrow taken value_field) None (ENamed (codes "r__")) in
    block_is to c.args.place c.push-3.new.self ∙ ap Block (ap (list_of to) items
    ∙ (ap (λ u. AndStmt u (AndStmt (stmt_of to s) (AndStmt (stmt_of to t) NoStmt))) (c.in_ok-take.ensures source to b)
    ∙ (ap (λ u. AndStmt begins (AndStmt u (AndStmt (stmt_of to t) NoStmt))) (c.in_ok-answer.ensures source to b)
    ∙ ap (λ u. AndStmt begins (AndStmt answers (AndStmt u NoStmt))) (c.in_ok-go_round.ensures source to b))))
