use Rattle.std.proofs.Common.{arith, append-nil}
use Rattle.std.proofs.lemmas.Grind.{common_steps}
use Rattle.cpc_base.proofs.Lists.{no_length}
use Rattle.cpc_base.proofs.Results.{on_ok}
use Rattle.cpc_printer.proofs.TypeRows.{param_array, param_other, list_none, behind_code}
use Rattle.cpc_printer.specs.Types.{called_by}
use Rattle.cpc_printer.proofs.types.+declarators.Goals as goal

pub parameter-returns-in-Array-clause-row : goal.parameter-returns-in-Array-clause-row
parameter-returns-in-Array-clause-row t c = λ names. simp (c.in-Array.is, param_array, append-nil)

pub parameter_types-returns-in-None-clause-row : goal.parameter_types-returns-in-None-clause-row
parameter_types-returns-in-None-clause-row t c =
    let e = no_length c.args.list.now c.in-None.ensures.cases in
    simp (e, list_none) c.word.ensures.row

pub behind-returns-in_ok-parameter_types-in-Code-clause-row : goal.behind-returns-in_ok-parameter_types-in-Code-clause-row
behind-returns-in_ok-parameter_types-in-Code-clause-row t c =
    on_ok c.mark-in-Code-2.result (λ h names.
    let e = behind_code names c.args.out.now.is_tight c.args.of.now _ _ c.in-Code.is in
    grind (arith, common_steps, h names, e)) c.mark-in-Code-2.ensures.row

pub parameter-returns-in_ok-base-in_default-clause-row : goal.parameter-returns-in_ok-base-in_default-clause-row
parameter-returns-in_ok-base-in_default-clause-row t c =
    on_ok c.declarator.result (λ h names.
    let e = param_other names c.args.out.now.is_tight (called_by names c.args.what) c.args.of.now c.in_default.not-Pointer c.in_default.not-Array in
    grind (arith, common_steps, h names, e)) c.declarator.ensures.row
