use Rattle.std.proofs.Common.{List, take, Bor, subst, sym, append-nil, ◌≡◌, ◌+◌, ◌++◌, length, ap, ◌∙◌, option_map, refl, arith}
use Rattle.std.proofs.lemmas.Result.{on_ok_weaker}
use Rattle.cpc_tree.specs.declared.program.CType.{CType}
use Rattle.cpc_tree.specs.declared.program.Statement.{Statement}
use Rattle.cpc_tree.specs.Erase.{expr_of, stmt_of, list_of, maybe_at}
use Rattle.cpc_tree.specs.Points.{locals, locals_in, locals_arm, extended, extended_all}
use Rattle.cpc_tree.specs.Registers.{addresses, addresses_by, addresses_in, addresses_if, addresses_arm}
use Rattle.cpc_tree.proofs.Nodes.{row_end}
use Rattle.cpc_eval_variables.specs.Scoped.{scope_of}
use Rattle.cpc_eval_variables.specs.Typed.{types_in, types_of}
use Rattle.cpc_eval_variables.proofs.Addressing.{both_added}
use Rattle.cpc_eval_variables.proofs.Walking.{kept_longer, kept_on, later_count, told_same, header_added, block_locals, block_addresses, for_locals, for_addresses, types_more, scope_more, addressed_more, both_types, scope_same, if_locals, if_added, while_added, while_locals, do_added, do_locals, label_locals, label_addresses}
use Rattle.cpc_eval_variables.proofs.walk.Walk.+walked.Goals as goal

pub inside-returns-in-Block-clause-types : goal.inside-returns-in-Block-clause-types
inside-returns-in-Block-clause-types t c = on_ok_weaker c.block.result (λ h names.
    h names ∙ ap (λ l. types_of names c.args.self.now.types.items ++ types_in l) (block_locals names c.args.s.now _ _ c.deref.result.now c.in-Block.is c.deref.ensures.value)) c.block.ensures.types

pub inside-returns-in-Block-clause-addressed : goal.inside-returns-in-Block-clause-addressed
inside-returns-in-Block-clause-addressed t c = on_ok_weaker c.block.result (λ h names told.
    h names told ∙ ap (λ l. c.args.self.now.addressed.items ++ l) (block_addresses names c.args.s.now (scope_of names c.args.self.now.scope) c.args.n _ _ c.deref.result.now c.in-Block.is c.deref.ensures.value)) c.block.ensures.addressed

pub row-loop-s-preserved : goal.row-loop-s-preserved
row-loop-s-preserved t c =
    let e = c.in_ok-statement.ensures in
    let row = c.args.row.now in
    let i = c.loop-s.s-index in
    let s = c.s-item.result in
    let at = c.loop-s-test.true in
    let ts = c.loop-s.self.types.items in
    let us = c.statement.new.self.types.items in
    let longer = kept_longer us ts e.counted in
    record {
      before = omega arith;
      parameters = e.parameters ∙ c.loop-s.invariant.parameters;
      kept = kept_on c.args.self.now.scope.locals.items c.loop-s.self.scope.locals.items c.statement.new.self.scope.locals.items e.kept c.loop-s.invariant.kept;
      counted = kept_on c.args.self.now.types.items ts us e.counted c.loop-s.invariant.counted;
      scope = λ names.
          let count = later_count names ts us (locals (stmt_of names s)) c.loop-s.n c.len.result c.len-before.result (e.types names) (omega arith) (omega arith) in
          scope_more names row i c.loop-s.n _ s (scope_of names c.loop-s.self.scope) (scope_of names c.statement.new.self.scope) at c.s-item.is count (e.scope names) ∙ c.loop-s.invariant.scope names;
      types = λ names. types_more names row i s ts us at c.s-item.is (e.types names) ∙ c.loop-s.invariant.types names;
      addressed = λ names told.
          let count = later_count names ts us (locals (stmt_of names s)) c.loop-s.n c.len.result c.len-before.result (e.types names) (omega arith) (omega arith) in
          let k = e.addressed names (told_same names _ _ c.loop-s.invariant.parameters told) in
          addressed_more names row i c.loop-s.n _ s (scope_of names c.loop-s.self.scope) (scope_of names c.statement.new.self.scope) _ _ at c.s-item.is count (e.scope names) k ∙ c.loop-s.invariant.addressed names told;
    }

pub counted-returns-clause-behind : goal.counted-returns-clause-behind
counted-returns-clause-behind t c = λ names.
    later_count names c.args.self.now.types.items c.inside.new.self.types.items (locals (stmt_of names c.args.s.now)) c.args.n c.len.result c.len-before.result (c.in_ok-inside.ensures.types names) (omega arith) (omega arith)

pub inside-returns-in_default-clause-parameters : goal.inside-returns-in_default-clause-parameters
inside-returns-in_default-clause-parameters t c = refl

pub inside-returns-in_ok-inside-in-For-clause-addressed : goal.inside-returns-in_ok-inside-in-For-clause-addressed
inside-returns-in_ok-inside-in-For-clause-addressed t c = λ names told.
    let head = c.in_ok-after-in-For.ensures in
    let step = c.in_ok-step-in-For.ensures in
    let old = scope_of names c.args.self.now.scope in
    let first = list_of names c.deref-in-For.result.now in
    let behind = extended_all old c.args.n first in
    let arm = maybe_at names c.in-For.step in
    let body = stmt_of names c.deref-in-For-2.result.now in
    let at : scope_of names c.header.new.self.scope ≡ behind = head.scope names in
    let same : scope_of names c.step.new.self.scope ≡ behind = scope_same names c.step.new.self.scope c.header.new.self.scope step.parameters step.locals ∙ at in
    let told1 = told_same names _ _ head.parameters told in
    let told2 = told_same names _ _ step.parameters told1 in
    let q = step.addressed names told1 ∙ ap (λ s. c.header.new.self.addressed.items ++ addresses_arm s c.args.n arm) at in
    let w = c.in_ok-inside-in-For.ensures.addressed names told2
    ∙ (ap (λ s. c.step.new.self.addressed.items ++ addresses_by s c.in_ok-after-in-For.after body) same ∙ ap (λ i. c.step.new.self.addressed.items ++ addresses_by behind i body) (head.behind names)) in
    header_added c.args.self.now.addressed.items (addresses_in old c.args.n first ++ addresses_if behind (option_map (expr_of names) c.in-For.test)) (addresses_arm behind c.args.n arm) (addresses_by behind (c.args.n + length (locals_in first)) body)
    c.header.new.self.addressed.items c.step.new.self.addressed.items c.inside-in-For.new.self.addressed.items (head.addressed names told) q w
    ∙ ap (λ l. c.args.self.now.addressed.items ++ l)
    (for_addresses names c.args.s.now old c.args.n c.in-For.place c.in-For.first c.in-For.test c.in-For.step c.in-For.body c.deref-in-For.result.now c.deref-in-For-2.result.now c.in-For.is c.deref-in-For.ensures.value c.deref-in-For-2.ensures)

pub inside-returns-in_ok-inside-in-For-clause-types : goal.inside-returns-in_ok-inside-in-For-clause-types
inside-returns-in_ok-inside-in-For-clause-types t c = λ names.
    let a = locals_in (list_of names c.deref-in-For.result.now) in
    let b = locals (stmt_of names c.deref-in-For-2.result.now) in
    both_types (types_of names c.args.self.now.types.items) a b (types_of names c.header.new.self.types.items) (types_of names c.inside-in-For.new.self.types.items) (c.in_ok-after-in-For.ensures.types names)
    (c.in_ok-inside-in-For.ensures.types names ∙ ap (λ ts. types_of names ts ++ types_in b) c.in_ok-step-in-For.ensures.types)
    ∙ ap (λ l. types_of names c.args.self.now.types.items ++ types_in l)
    (for_locals names c.args.s.now c.in-For.place c.in-For.first c.in-For.test c.in-For.step c.in-For.body c.deref-in-For.result.now c.deref-in-For-2.result.now c.in-For.is c.deref-in-For.ensures.value c.deref-in-For-2.ensures)

pub inside-returns-in_ok-after-in-If-clause-addressed : goal.inside-returns-in_ok-after-in-If-clause-addressed
inside-returns-in_ok-after-in-If-clause-addressed t c = on_ok_weaker c.arm.result (λ h names told.
    let yes = c.in_ok-after-in-If.ensures in
    if_added names c.args.s.now (scope_of names c.args.self.now.scope) (scope_of names c.counted.new.self.scope) c.args.n c.in_ok-after-in-If.after
    _ c.in-If.test c.in-If.yes c.in-If.no c.deref-in-If.result.now _ _ _ _ c.in-If.is c.deref-in-If.ensures
    (scope_same names c.counted.new.self.scope c.args.self.now.scope yes.parameters yes.locals) (yes.behind names)
    (subst (λ e. c.add_addresses.new.found.items ≡ c.args.self.now.addressed.items ++ addresses (scope_of names c.args.self.now.scope) (expr_of names e)) c.expr.ensures (c.in_ok-add_addresses-in-If.ensures names told)) (yes.addressed names told) (h names (told_same names _ _ yes.parameters told))) c.arm.ensures.addressed

pub inside-returns-in_ok-after-in-If-clause-types : goal.inside-returns-in_ok-after-in-If-clause-types
inside-returns-in_ok-after-in-If-clause-types t c = on_ok_weaker c.arm.result (λ h names.
    let s = c.deref-in-If.result.now in
    both_types (types_of names c.args.self.now.types.items) (locals (stmt_of names s)) (locals_arm (maybe_at names c.in-If.no)) _ _ (c.in_ok-after-in-If.ensures.types names) (h names)
    ∙ ap (λ l. types_of names c.args.self.now.types.items ++ types_in l) (if_locals names c.args.s.now _ c.in-If.test c.in-If.yes c.in-If.no s c.in-If.is c.deref-in-If.ensures)) c.arm.ensures.types

pub inside-returns-in_ok-add_addresses-in-While-clause-addressed : goal.inside-returns-in_ok-add_addresses-in-While-clause-addressed
inside-returns-in_ok-add_addresses-in-While-clause-addressed t c = on_ok_weaker c.inside.result (λ h names told.
    while_added names c.args.s.now (scope_of names c.args.self.now.scope) c.args.n _ c.in-While.test c.in-While.body c.deref-in-While.result.now _ _ _ c.in-While.is c.deref-in-While.ensures
    (subst (λ e. c.add_addresses-in-While.new.found.items ≡ c.args.self.now.addressed.items ++ addresses (scope_of names c.args.self.now.scope) (expr_of names e)) c.expr-in-While.ensures (c.in_ok-add_addresses-in-While.ensures names told)) (h names told)) c.inside.ensures.addressed

pub inside-returns-in_ok-inside-in-DoWhile-clause-addressed : goal.inside-returns-in_ok-inside-in-DoWhile-clause-addressed
inside-returns-in_ok-inside-in-DoWhile-clause-addressed t c = on_ok_weaker c.add_addresses-in-DoWhile.result (λ h names told.
    let body = c.in_ok-inside-in-DoWhile.ensures in
    do_added names c.args.s.now (scope_of names c.args.self.now.scope) (scope_of names c.inside-in-DoWhile.new.self.scope) c.args.n _ c.in-DoWhile.body c.in-DoWhile.test c.deref-in-DoWhile.result.now _ _ _
    c.in-DoWhile.is c.deref-in-DoWhile.ensures (scope_same names c.inside-in-DoWhile.new.self.scope c.args.self.now.scope body.parameters body.locals)
    (body.addressed names told) (subst (λ e. c.add_addresses-in-DoWhile.new.found.items ≡ c.inside-in-DoWhile.new.self.addressed.items ++ addresses (scope_of names c.inside-in-DoWhile.new.self.scope) (expr_of names e)) c.expr-in-DoWhile.ensures (h names (told_same names _ _ body.parameters told)))) c.add_addresses-in-DoWhile.ensures

pub header-returns-clause-addressed : goal.header-returns-clause-addressed
header-returns-clause-addressed t c = λ names told.
    let row = c.in_ok-row.ensures in
    both_added _ _ _ _ _ _ (row.addressed names told)
    (c.in_ok-add_addresses_if.ensures names (told_same names _ _ row.parameters told) ∙ ap (λ s. c.row.new.self.addressed.items ++ addresses_if s (option_map (expr_of names) c.args.test.now)) (row.scope names)) refl

pub block-returns-in_err-row-clause-parameters : goal.block-returns-in_err-row-clause-parameters
block-returns-in_err-row-clause-parameters t c = c.in_err-row.ensures.parameters

pub counted-returns-in_err-inside-clause-parameters : goal.counted-returns-in_err-inside-clause-parameters
counted-returns-in_err-inside-clause-parameters t c = c.in_err-inside.ensures.parameters

pub header-returns-in_err-row-clause-parameters : goal.header-returns-in_err-row-clause-parameters
header-returns-in_err-row-clause-parameters t c = c.in_err-row.ensures.parameters

pub inside-returns-in_err-after-in-If-clause-parameters : goal.inside-returns-in_err-after-in-If-clause-parameters
inside-returns-in_err-after-in-If-clause-parameters t c = c.in_err-after-in-If.ensures.parameters

pub inside-returns-in_err-inside-in-DoWhile-clause-parameters : goal.inside-returns-in_err-inside-in-DoWhile-clause-parameters
inside-returns-in_err-inside-in-DoWhile-clause-parameters t c = c.in_err-inside-in-DoWhile.ensures.parameters

pub inside-returns-in_err-after-in-For-clause-parameters : goal.inside-returns-in_err-after-in-For-clause-parameters
inside-returns-in_err-after-in-For-clause-parameters t c = c.in_err-after-in-For.ensures.parameters

pub step-returns-in_err-arm-clause-parameters : goal.step-returns-in_err-arm-clause-parameters
step-returns-in_err-arm-clause-parameters t c = c.in_err-arm.ensures.parameters

pub header-returns-in_err-add_addresses_if-clause-parameters : goal.header-returns-in_err-add_addresses_if-clause-parameters
header-returns-in_err-add_addresses_if-clause-parameters t c = c.in_ok-row.ensures.parameters

pub inside-returns-in_err-add_addresses-in-If-clause-parameters : goal.inside-returns-in_err-add_addresses-in-If-clause-parameters
inside-returns-in_err-add_addresses-in-If-clause-parameters t c = refl

pub inside-returns-in_err-add_addresses-in-While-clause-parameters : goal.inside-returns-in_err-add_addresses-in-While-clause-parameters
inside-returns-in_err-add_addresses-in-While-clause-parameters t c = refl

pub inside-returns-in_err-step-in-For-clause-parameters : goal.inside-returns-in_err-step-in-For-clause-parameters
inside-returns-in_err-step-in-For-clause-parameters t c = c.in_err-step-in-For.ensures.parameters ∙ c.in_ok-after-in-For.ensures.parameters

pub inside-returns-in_err-inside-in-For-clause-parameters : goal.inside-returns-in_err-inside-in-For-clause-parameters
inside-returns-in_err-inside-in-For-clause-parameters t c = c.in_err-inside-in-For.ensures.parameters ∙ (c.in_ok-step-in-For.ensures.parameters ∙ c.in_ok-after-in-For.ensures.parameters)

pub row-returns-in_err-statement-clause-parameters : goal.row-returns-in_err-statement-clause-parameters
row-returns-in_err-statement-clause-parameters t c = c.in_err-statement.ensures.parameters ∙ c.loop-s.invariant.parameters

pub arm-returns-in-None-clause-parameters : goal.arm-returns-in-None-clause-parameters
arm-returns-in-None-clause-parameters t c = refl

pub arm-returns-in-None-clause-locals : goal.arm-returns-in-None-clause-locals
arm-returns-in-None-clause-locals t c = refl

pub block-returns-clause-parameters : goal.block-returns-clause-parameters
block-returns-clause-parameters t c = c.leave.ensures.parameters ∙ c.in_ok-row.ensures.parameters

pub block-returns-clause-locals : goal.block-returns-clause-locals
block-returns-clause-locals t c = c.leave.ensures.items ∙ (ap (λ n. take n c.row.new.self.scope.locals.items) c.depth-depth.ensures ∙ c.in_ok-row.ensures.kept)

pub block-returns-clause-counted : goal.block-returns-clause-counted
block-returns-clause-counted t c = c.in_ok-row.ensures.counted

pub block-returns-clause-types : goal.block-returns-clause-types
block-returns-clause-types t c = c.in_ok-row.ensures.types

pub block-returns-clause-addressed : goal.block-returns-clause-addressed
block-returns-clause-addressed t c = c.in_ok-row.ensures.addressed

pub counted-returns-clause-parameters : goal.counted-returns-clause-parameters
counted-returns-clause-parameters t c = c.in_ok-inside.ensures.parameters

pub counted-returns-clause-locals : goal.counted-returns-clause-locals
counted-returns-clause-locals t c = c.in_ok-inside.ensures.locals

pub counted-returns-clause-counted : goal.counted-returns-clause-counted
counted-returns-clause-counted t c = c.in_ok-inside.ensures.counted

pub counted-returns-clause-types : goal.counted-returns-clause-types
counted-returns-clause-types t c = c.in_ok-inside.ensures.types

pub counted-returns-clause-addressed : goal.counted-returns-clause-addressed
counted-returns-clause-addressed t c = c.in_ok-inside.ensures.addressed

pub counted-returns-clause-within : goal.counted-returns-clause-within
counted-returns-clause-within t c = let longer = kept_longer c.inside.new.self.types.items c.args.self.now.types.items c.in_ok-inside.ensures.counted in omega arith

pub header-returns-clause-parameters : goal.header-returns-clause-parameters
header-returns-clause-parameters t c = c.in_ok-row.ensures.parameters

pub header-returns-clause-kept : goal.header-returns-clause-kept
header-returns-clause-kept t c = c.in_ok-row.ensures.kept

pub header-returns-clause-scope : goal.header-returns-clause-scope
header-returns-clause-scope t c = c.in_ok-row.ensures.scope

pub header-returns-clause-counted : goal.header-returns-clause-counted
header-returns-clause-counted t c = c.in_ok-row.ensures.counted

pub header-returns-clause-types : goal.header-returns-clause-types
header-returns-clause-types t c = c.in_ok-row.ensures.types

pub header-returns-clause-behind : goal.header-returns-clause-behind
header-returns-clause-behind t c = λ names.
    later_count names c.args.self.now.types.items c.row.new.self.types.items (locals_in (list_of names c.args.first.now)) c.args.n c.len.result c.len-before.result (c.in_ok-row.ensures.types names) (omega arith) (omega arith)

pub header-returns-clause-within : goal.header-returns-clause-within
header-returns-clause-within t c = let longer = kept_longer c.row.new.self.types.items c.args.self.now.types.items c.in_ok-row.ensures.counted in omega arith

pub header-returns-clause-longer : goal.header-returns-clause-longer
header-returns-clause-longer t c = let longer = kept_longer c.row.new.self.types.items c.args.self.now.types.items c.in_ok-row.ensures.counted in omega arith

pub inside-returns-in-Declare-clause-parameters : goal.inside-returns-in-Declare-clause-parameters
inside-returns-in-Declare-clause-parameters t c = c.alone.ensures.parameters

pub inside-returns-in-Declare-clause-locals : goal.inside-returns-in-Declare-clause-locals
inside-returns-in-Declare-clause-locals t c = c.alone.ensures.locals

pub inside-returns-in-Declare-clause-counted : goal.inside-returns-in-Declare-clause-counted
inside-returns-in-Declare-clause-counted t c = c.alone.ensures.counted

pub inside-returns-in-Declare-clause-types : goal.inside-returns-in-Declare-clause-types
inside-returns-in-Declare-clause-types t c = on_ok_weaker c.alone.result (λ h names. h names ∙ ap (λ (q : Statement). types_of names c.args.self.now.types.items ++ types_in (locals (stmt_of names q))) (sym c.in-Declare.is)) c.alone.ensures.types

pub inside-returns-in-Declare-clause-addressed : goal.inside-returns-in-Declare-clause-addressed
inside-returns-in-Declare-clause-addressed t c = on_ok_weaker c.alone.result (λ h names told. h names told ∙ ap (λ (q : Statement). c.args.self.now.addressed.items ++ addresses_by (scope_of names c.args.self.now.scope) c.args.n (stmt_of names q)) (sym c.in-Declare.is)) c.alone.ensures.addressed

pub inside-returns-in-Block-clause-parameters : goal.inside-returns-in-Block-clause-parameters
inside-returns-in-Block-clause-parameters t c = c.block.ensures.parameters

pub inside-returns-in-Block-clause-locals : goal.inside-returns-in-Block-clause-locals
inside-returns-in-Block-clause-locals t c = c.block.ensures.locals

pub inside-returns-in-Block-clause-counted : goal.inside-returns-in-Block-clause-counted
inside-returns-in-Block-clause-counted t c = c.block.ensures.counted

pub inside-returns-in_ok-after-in-If-clause-parameters : goal.inside-returns-in_ok-after-in-If-clause-parameters
inside-returns-in_ok-after-in-If-clause-parameters t c = c.arm.ensures.parameters ∙ c.in_ok-after-in-If.ensures.parameters

pub inside-returns-in_ok-after-in-If-clause-locals : goal.inside-returns-in_ok-after-in-If-clause-locals
inside-returns-in_ok-after-in-If-clause-locals t c = on_ok_weaker c.arm.result (λ h. h ∙ c.in_ok-after-in-If.ensures.locals) c.arm.ensures.locals

pub inside-returns-in_ok-after-in-If-clause-counted : goal.inside-returns-in_ok-after-in-If-clause-counted
inside-returns-in_ok-after-in-If-clause-counted t c = on_ok_weaker c.arm.result (λ h. kept_on c.args.self.now.types.items c.counted.new.self.types.items c.arm.new.self.types.items h c.in_ok-after-in-If.ensures.counted) c.arm.ensures.counted

pub inside-returns-in_ok-add_addresses-in-While-clause-parameters : goal.inside-returns-in_ok-add_addresses-in-While-clause-parameters
inside-returns-in_ok-add_addresses-in-While-clause-parameters t c = c.inside.ensures.parameters

pub inside-returns-in_ok-add_addresses-in-While-clause-locals : goal.inside-returns-in_ok-add_addresses-in-While-clause-locals
inside-returns-in_ok-add_addresses-in-While-clause-locals t c = c.inside.ensures.locals

pub inside-returns-in_ok-add_addresses-in-While-clause-counted : goal.inside-returns-in_ok-add_addresses-in-While-clause-counted
inside-returns-in_ok-add_addresses-in-While-clause-counted t c = c.inside.ensures.counted

pub inside-returns-in_ok-add_addresses-in-While-clause-types : goal.inside-returns-in_ok-add_addresses-in-While-clause-types
inside-returns-in_ok-add_addresses-in-While-clause-types t c = on_ok_weaker c.inside.result (λ h names.
    h names ∙ ap (λ l. types_of names c.args.self.now.types.items ++ types_in l) (while_locals names c.args.s.now _ c.in-While.test c.in-While.body c.deref-in-While.result.now c.in-While.is c.deref-in-While.ensures)) c.inside.ensures.types

pub inside-returns-in_ok-inside-in-DoWhile-clause-parameters : goal.inside-returns-in_ok-inside-in-DoWhile-clause-parameters
inside-returns-in_ok-inside-in-DoWhile-clause-parameters t c = c.in_ok-inside-in-DoWhile.ensures.parameters

pub inside-returns-in_ok-inside-in-DoWhile-clause-locals : goal.inside-returns-in_ok-inside-in-DoWhile-clause-locals
inside-returns-in_ok-inside-in-DoWhile-clause-locals t c = on_ok_weaker c.add_addresses-in-DoWhile.result (λ h. c.in_ok-inside-in-DoWhile.ensures.locals) c.add_addresses-in-DoWhile.ensures

pub inside-returns-in_ok-inside-in-DoWhile-clause-counted : goal.inside-returns-in_ok-inside-in-DoWhile-clause-counted
inside-returns-in_ok-inside-in-DoWhile-clause-counted t c = on_ok_weaker c.add_addresses-in-DoWhile.result (λ h. c.in_ok-inside-in-DoWhile.ensures.counted) c.add_addresses-in-DoWhile.ensures

pub inside-returns-in_ok-inside-in-DoWhile-clause-types : goal.inside-returns-in_ok-inside-in-DoWhile-clause-types
inside-returns-in_ok-inside-in-DoWhile-clause-types t c = on_ok_weaker c.add_addresses-in-DoWhile.result (λ h names.
    c.in_ok-inside-in-DoWhile.ensures.types names ∙ ap (λ l. types_of names c.args.self.now.types.items ++ types_in l) (do_locals names c.args.s.now _ c.in-DoWhile.body c.in-DoWhile.test c.deref-in-DoWhile.result.now c.in-DoWhile.is c.deref-in-DoWhile.ensures)) c.add_addresses-in-DoWhile.ensures

pub inside-returns-in_ok-inside-in-For-clause-parameters : goal.inside-returns-in_ok-inside-in-For-clause-parameters
inside-returns-in_ok-inside-in-For-clause-parameters t c = c.leave.ensures.parameters ∙ (c.in_ok-inside-in-For.ensures.parameters ∙ (c.in_ok-step-in-For.ensures.parameters ∙ c.in_ok-after-in-For.ensures.parameters))

pub inside-returns-in_ok-inside-in-For-clause-locals : goal.inside-returns-in_ok-inside-in-For-clause-locals
inside-returns-in_ok-inside-in-For-clause-locals t c = c.leave.ensures.items ∙ (ap (λ n. take n c.inside-in-For.new.self.scope.locals.items) c.depth-depth.ensures ∙ (ap (take (length c.args.self.now.scope.locals.items)) (c.in_ok-inside-in-For.ensures.locals ∙ c.in_ok-step-in-For.ensures.locals) ∙ c.in_ok-after-in-For.ensures.kept))

pub inside-returns-in_ok-inside-in-For-clause-counted : goal.inside-returns-in_ok-inside-in-For-clause-counted
inside-returns-in_ok-inside-in-For-clause-counted t c =
    let T : List (Bor CType) → Type 0 = λ l. take (length l) c.inside-in-For.new.self.types.items ≡ l in
    kept_on c.args.self.now.types.items c.header.new.self.types.items c.inside-in-For.new.self.types.items (subst T c.in_ok-step-in-For.ensures.types c.in_ok-inside-in-For.ensures.counted) c.in_ok-after-in-For.ensures.counted

pub inside-returns-in-Label-clause-parameters : goal.inside-returns-in-Label-clause-parameters
inside-returns-in-Label-clause-parameters t c = c.inside-in-Label.ensures.parameters

pub inside-returns-in-Label-clause-locals : goal.inside-returns-in-Label-clause-locals
inside-returns-in-Label-clause-locals t c = c.inside-in-Label.ensures.locals

pub inside-returns-in-Label-clause-counted : goal.inside-returns-in-Label-clause-counted
inside-returns-in-Label-clause-counted t c = c.inside-in-Label.ensures.counted

pub inside-returns-in-Label-clause-types : goal.inside-returns-in-Label-clause-types
inside-returns-in-Label-clause-types t c = on_ok_weaker c.inside-in-Label.result (λ h names.
    h names ∙ ap (λ l. types_of names c.args.self.now.types.items ++ types_in l) (label_locals names c.args.s.now c.in-Label.label c.in-Label.inner c.deref-in-Label.result.now c.in-Label.is c.deref-in-Label.ensures)) c.inside-in-Label.ensures.types

pub inside-returns-in-Label-clause-addressed : goal.inside-returns-in-Label-clause-addressed
inside-returns-in-Label-clause-addressed t c = on_ok_weaker c.inside-in-Label.result (λ h names told.
    h names told ∙ ap (λ l. c.args.self.now.addressed.items ++ l) (label_addresses names c.args.s.now (scope_of names c.args.self.now.scope) c.args.n c.in-Label.label c.in-Label.inner c.deref-in-Label.result.now c.in-Label.is c.deref-in-Label.ensures)) c.inside-in-Label.ensures.addressed

pub row-returns-clause-parameters : goal.row-returns-clause-parameters
row-returns-clause-parameters t c = c.loop-s.invariant.parameters

pub row-returns-clause-kept : goal.row-returns-clause-kept
row-returns-clause-kept t c = c.loop-s.invariant.kept

pub row-returns-clause-counted : goal.row-returns-clause-counted
row-returns-clause-counted t c = c.loop-s.invariant.counted

pub row-returns-clause-scope : goal.row-returns-clause-scope
row-returns-clause-scope t c = λ names.
    sym (ap (extended_all (scope_of names c.loop-s.self.scope) c.loop-s.n) (row_end names c.args.row.now c.loop-s.s-index c.loop-s-test.false)) ∙ c.loop-s.invariant.scope names

pub row-returns-clause-types : goal.row-returns-clause-types
row-returns-clause-types t c = λ names.
    let ts = types_of names c.loop-s.self.types.items in
    sym (append-nil ts) ∙ (sym (ap (λ ss. ts ++ types_in (locals_in ss)) (row_end names c.args.row.now c.loop-s.s-index c.loop-s-test.false)) ∙ c.loop-s.invariant.types names)

pub row-returns-clause-addressed : goal.row-returns-clause-addressed
row-returns-clause-addressed t c = λ names told.
    let xs = c.loop-s.self.addressed.items in
    sym (append-nil xs) ∙ (sym (ap (λ ss. xs ++ addresses_in (scope_of names c.loop-s.self.scope) c.loop-s.n ss) (row_end names c.args.row.now c.loop-s.s-index c.loop-s-test.false)) ∙ c.loop-s.invariant.addressed names told)

pub statement-returns-in-Declare-clause-parameters : goal.statement-returns-in-Declare-clause-parameters
statement-returns-in-Declare-clause-parameters t c = c.declare.ensures.parameters

pub statement-returns-in-Declare-clause-kept : goal.statement-returns-in-Declare-clause-kept
statement-returns-in-Declare-clause-kept t c = c.declare.ensures.kept

pub statement-returns-in-Declare-clause-scope : goal.statement-returns-in-Declare-clause-scope
statement-returns-in-Declare-clause-scope t c = on_ok_weaker c.declare.result (λ h names. h names ∙ ap (λ (q : Statement). extended (scope_of names c.args.self.now.scope) c.args.n (stmt_of names q)) (sym c.in-Declare.is)) c.declare.ensures.scope

pub statement-returns-in-Declare-clause-counted : goal.statement-returns-in-Declare-clause-counted
statement-returns-in-Declare-clause-counted t c = c.declare.ensures.counted

pub statement-returns-in-Declare-clause-types : goal.statement-returns-in-Declare-clause-types
statement-returns-in-Declare-clause-types t c = on_ok_weaker c.declare.result (λ h names. h names ∙ ap (λ (q : Statement). types_of names c.args.self.now.types.items ++ types_in (locals (stmt_of names q))) (sym c.in-Declare.is)) c.declare.ensures.types

pub statement-returns-in-Declare-clause-addressed : goal.statement-returns-in-Declare-clause-addressed
statement-returns-in-Declare-clause-addressed t c = on_ok_weaker c.declare.result (λ h names told. h names told ∙ ap (λ (q : Statement). c.args.self.now.addressed.items ++ addresses_by (scope_of names c.args.self.now.scope) c.args.n (stmt_of names q)) (sym c.in-Declare.is)) c.declare.ensures.addressed

pub step-returns-clause-parameters : goal.step-returns-clause-parameters
step-returns-clause-parameters t c = c.in_ok-arm.ensures.parameters

pub step-returns-clause-locals : goal.step-returns-clause-locals
step-returns-clause-locals t c = c.in_ok-arm.ensures.locals

pub step-returns-clause-addressed : goal.step-returns-clause-addressed
step-returns-clause-addressed t c = c.in_ok-arm.ensures.addressed
