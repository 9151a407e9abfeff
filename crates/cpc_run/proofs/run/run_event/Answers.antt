use Rattle.std.proofs.Common.{refl, sym, ap, ◌∙◌}
use Rattle.std.specs.Prelude.{option_map}
use Rattle.cpc_tree.specs.Erase.{in_table}
use Rattle.cpc_run.proofs.Ends.{checked_never_stuck, checked_served}
use Rattle.cpc_run.proofs.Missing.{checked_has_hosts}
use Rattle.cpc_run.proofs.run.run_event.Goals as goal

pub run_program-requires-clause-never_stuck : goal.run_program-requires-clause-never_stuck
run_program-requires-clause-never_stuck g c = λ h.
    let p = c.args.program.now in
    checked_never_stuck c.accepted_callbacks_never_stuck.ensures p.program p.dialect h c.requires.dialect p.read p.unbroken

pub returns-in-Some-clause-missing : goal.returns-in-Some-clause-missing
returns-in-Some-clause-missing g c = λ x e. (record { name = c.in-Some.name; named = let i = c.in-Some.ensures ∙ e in cc i; told = c.report.ensures }, refl)

pub returns-in-Some-clause-told : goal.returns-in-Some-clause-told
returns-in-Some-clause-told g c = λ e. absurd (let i = c.in-Some.ensures ∙ e in cc i)

pub returns-clause-missing : goal.returns-clause-missing
returns-clause-missing g c = λ x e. absurd (let i = sym (ap (λ o. option_map (in_table c.args.program.now.program.names) o) c.in_default.is) ∙ c.missing_host.ensures ∙ e in cc i)

pub run_program-requires-clause-given : goal.run_program-requires-clause-given
run_program-requires-clause-given g c =
    let p = c.args.program.now in
    let (names, other, both) = c.is_spelled_twice.ensures in
    let served = checked_served c.accepted_are_served.ensures.law p.program p.dialect c.requires.dialect p.read p.unbroken in
    record {
      names = names;
      other = other;
      first = record { spelled = both.first; served = served; numbers = c.checked_has_numbers.ensures };
      second = record { spelled = both.second; served = served; numbers = c.checked_has_numbers.ensures };
      others = both.others;
    }

pub run_program-requires-clause-hosts : goal.run_program-requires-clause-hosts
run_program-requires-clause-hosts g c =
    let p = c.args.program.now in
    let none = sym c.missing_host.ensures ∙ ap (λ o. option_map (in_table p.program.names) o) c.in_default.is in
    checked_has_hosts _ c.accepted_ask_declared.ensures.law p.program p.dialect p.read p.unbroken none
