use Rattle.std.proofs.Common.{◌≡◌, ◌∙◌, Some, refl, sym, ap}
use Rattle.std.specs.Prelude.{option_map}
use Rattle.std.specs.Arc.{arc_value}
use Rattle.cpc_tree.specs.Erase.{in_table}
use Rattle.cpc_run_workers.proofs.run.run_with_workers.Goals as goal

pub returns-in-Some-clause-missing : goal.returns-in-Some-clause-missing
returns-in-Some-clause-missing g c = λ x e.
    let i : option_map (in_table (arc_value c.args.program.now).program.names) (Some c.in-Some.name) ≡ Some x = rw (sym c.deref.ensures) (c.in-Some.ensures ∙ rw c.deref.ensures e) in
    (record { name = c.in-Some.name; named = cc i; told = c.not_begun.ensures }, refl)

pub returns-clause-missing : goal.returns-clause-missing
returns-clause-missing g c = λ x e.
    let there : option_map (in_table c.deref.result.now.program.names) c.missing_host.result ≡ Some x = c.missing_host.ensures ∙ rw c.deref.ensures e in
    absurd (let i = sym (ap (option_map (in_table c.deref.result.now.program.names)) c.in_default.is) ∙ there in cc i)
