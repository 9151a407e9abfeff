use Rattle.std.proofs.Common.{◌≡◌, ◌++◌}
use Rattle.std.proofs.lemmas.Result.{on_ok_weaker}
use Rattle.cpc_tree.specs.Erase.{expr_of, exprs_of}
use Rattle.cpc_eval_variables.proofs.Addressing.{both_added}
use Rattle.cpc_lift_laws.specs.Used.{used_in, used_among}
use Rattle.cpc_lift.specs.Scoped.{scope_at}
use Rattle.cpc_lift.proofs.Linked.{call_uses}
use Rattle.cpc_lift.proofs.names.+used.Goals as goal

pub add_used-returns-in_ok-add_used-in-CallIn : goal.add_used-returns-in_ok-add_used-in-CallIn
add_used-returns-in_ok-add_used-in-CallIn t c = on_ok_weaker c.add_all_used.result (λ h names apart named.
    let scope = scope_at names c.args.at.now in
    let k = c.in_ok-add_used-in-CallIn.ensures names apart named in
    let m = h names apart named in
    let e = call_uses names scope c.args.e.now _ _ _ c.in-CallIn.is in
    let v = c.deref-in-CallIn.ensures in
    let u = c.deref-in-CallIn-2.ensures.value in
    let all : used_in scope (expr_of names c.args.e.now) ≡ used_in scope (expr_of names c.deref-in-CallIn.result.now) ++ used_among scope (exprs_of names c.deref-in-CallIn-2.result.now) = cc in
    both_added _ _ _ _ _ _ k m all) c.add_all_used.ensures
