use Rattle.std.proofs.Common.{◌≡◌, ℕ, ◌++◌, List, drop, ap, sym, ◌∙◌, append-nil, ⊎_elim}
use Rattle.std.proofs.lemmas.List.{drop_all}
use Rattle.std.proofs.lemmas.Result.{on_ok_weaker}
use Rattle.cpc_tree.specs.declared.program.Expr.{Expr}
use Rattle.cpc_tree.specs.Erase.{expr_of, exprs_of}
use Rattle.cpc_tree.specs.Registers.{addresses, addresses_all}
use Rattle.cpc_eval_variables.specs.Scoped.{scope_of}
use Rattle.cpc_eval_variables.proofs.Addressing.{unary_plain, call_taken, both_added, index_added, choice_added, operands_added, unary_named, all_more}
use Rattle.cpc_eval_variables.proofs.addresses.+added.Goals as goal

pub add_addresses-returns-in-None : goal.add_addresses-returns-in-None
add_addresses-returns-in-None t c = on_ok_weaker c.add_addresses.result (λ h names told.
    let scope = scope_of names c.args.scope.now in
    h names told ∙ ap (λ a. c.args.found.now.items ++ a) (unary_plain names scope c.args.e.now _ _ c.in-Unary.operand c.deref.result.now c.deref-in-None.result.now c.addressed_name.result c.in-Unary.is
    c.deref.ensures c.deref-in-None.ensures (c.addressed_name.ensures names scope) c.in-None.is)) c.add_addresses.ensures

pub add_addresses-returns-in_ok-add_addresses-in-CallIn : goal.add_addresses-returns-in_ok-add_addresses-in-CallIn
add_addresses-returns-in_ok-add_addresses-in-CallIn t c = on_ok_weaker c.add_all_addresses.result (λ h names told.
    let scope = scope_of names c.args.scope.now in
    let k = c.in_ok-add_addresses-in-CallIn.ensures names told in
    let m = h names told in
    let e = call_taken names scope c.args.e.now _ _ _ c.in-CallIn.is in
    let v = c.deref-in-CallIn.ensures in
    let u = c.deref-in-CallIn-2.ensures.value in
    let all : addresses scope (expr_of names c.args.e.now) ≡ addresses scope (expr_of names c.deref-in-CallIn.result.now) ++ addresses_all scope (exprs_of names c.deref-in-CallIn-2.result.now) = cc in
    both_added _ _ _ _ _ _ k m all) c.add_all_addresses.ensures

pub add_addresses-returns-in_ok-add_addresses-in-Choose-2 : goal.add_addresses-returns-in_ok-add_addresses-in-Choose-2
add_addresses-returns-in_ok-add_addresses-in-Choose-2 t c = on_ok_weaker c.add_addresses-in-Choose-3.result (λ h names told.
    choice_added names (scope_of names c.args.scope.now) c.args.e.now _ c.in-Choose.test c.in-Choose.yes c.in-Choose.no _ _ _ _ _ _ _ c.in-Choose.is c.deref-in-Choose.ensures c.deref-in-Choose-2.ensures c.deref-in-Choose-3.ensures
    (c.in_ok-add_addresses-in-Choose.ensures names told) (c.in_ok-add_addresses-in-Choose-2.ensures names told) (h names told)) c.add_addresses-in-Choose-3.ensures

pub add_addresses-returns-in_ok-add_addresses-in-Index : goal.add_addresses-returns-in_ok-add_addresses-in-Index
add_addresses-returns-in_ok-add_addresses-in-Index t c = on_ok_weaker c.add_addresses-in-Index-2.result (λ h names told.
    index_added names (scope_of names c.args.scope.now) c.args.e.now _ c.in-Index.operand c.in-Index.index _ _ _ _ _ c.in-Index.is c.deref-in-Index.ensures c.deref-in-Index-2.ensures
    (c.in_ok-add_addresses-in-Index.ensures names told) (h names told)) c.add_addresses-in-Index-2.ensures

pub add_addresses-returns-in_ok-add_addresses-in-Binary : goal.add_addresses-returns-in_ok-add_addresses-in-Binary
add_addresses-returns-in_ok-add_addresses-in-Binary t c = on_ok_weaker c.add_addresses-in-Binary-2.result (λ h names told.
    operands_added names (scope_of names c.args.scope.now) c.args.e.now c.in-Binary.left c.in-Binary.right _ _ _ _ _ c.in-Binary.is c.deref-in-Binary.ensures c.deref-in-Binary-2.ensures
    (c.in_ok-add_addresses-in-Binary.ensures names told) (h names told)) c.add_addresses-in-Binary-2.ensures

pub add_addresses-returns-in-Some : goal.add_addresses-returns-in-Some
add_addresses-returns-in-Some t c = on_ok_weaker c.add_named.result (λ h names told.
    let scope = scope_of names c.args.scope.now in
    h names told ∙ ap (λ a. c.args.found.now.items ++ a) (unary_named names scope c.args.e.now _ _ c.in-Unary.operand c.deref.result.now c.in-Some.name c.addressed_name.result c.in-Unary.is
    c.deref.ensures (c.addressed_name.ensures names scope) c.in-Some.is)) c.add_named.ensures

pub add_addresses-returns-in-Cast : goal.add_addresses-returns-in-Cast
add_addresses-returns-in-Cast t c = on_ok_weaker c.add_addresses-in-Cast.result (λ h names told.
    let A : Expr → List ℕ = λ q. addresses (scope_of names c.args.scope.now) (expr_of names q) in
    h names told ∙ ap (λ a. c.args.found.now.items ++ a) (ap A c.deref-in-Cast.ensures ∙ sym (⊎_elim (λ w. ap A w.2) (⊎_elim (λ w. ap A w.2) (λ w. ap A w.2)) c.in-Cast.is))) c.add_addresses-in-Cast.ensures

pub add_addresses-returns-in-Name : goal.add_addresses-returns-in-Name
add_addresses-returns-in-Name t c = λ names told.
    let A : Expr → List ℕ = λ q. addresses (scope_of names c.args.scope.now) (expr_of names q) in
    sym (append-nil c.args.found.now.items)
    ∙ ap (λ a. c.args.found.now.items ++ a) (sym (⊎_elim (λ w. ap A w.1) (⊎_elim (λ w. ap A w.3) (⊎_elim (λ w. ap A w.2) (⊎_elim (λ w. ap A w.2) (λ w. ap A w.2)))) c.in-Name.is))

pub add_all_addresses-loop-e-preserved : goal.add_all_addresses-loop-e-preserved
add_all_addresses-loop-e-preserved t c = λ names told.
    all_more names (scope_of names c.args.scope.now) c.args.row.now c.loop-e.e-index c.e-item.result c.loop-e.found.items c.add_addresses.new.found.items c.loop-e-test.true c.e-item.is
    (c.in_ok-add_addresses.ensures names told) ∙ c.loop-e.invariant names told

pub add_all_addresses-returns : goal.add_all_addresses-returns
add_all_addresses-returns t c = λ names told.
    let xs = c.loop-e.found.items in
    sym (append-nil xs) ∙ (sym (ap (λ es. xs ++ addresses_all (scope_of names c.args.scope.now) (exprs_of names es)) (drop_all c.loop-e.e-index c.args.row.now c.loop-e-test.false)) ∙ c.loop-e.invariant names told)
