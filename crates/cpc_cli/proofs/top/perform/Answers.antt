use Rattle.cpc_cli.proofs.HostLemmas.{check_any, translate_any}
use Rattle.cpc_cli.proofs.top.perform.Goals as goal

pub returns-in-Check-clause-ended : goal.returns-in-Check-clause-ended
returns-in-Check-clause-ended g c = let e = c.check_file.ensures.ended in rw c.in-Check.is (e.0, e.1, check_any _ _ _ _ _ _ _ _ e.2)

pub returns-in-Translate-clause-ended : goal.returns-in-Translate-clause-ended
returns-in-Translate-clause-ended g c = let e = c.translate_file.ensures.ended in rw c.in-Translate.is (e.0, e.1, translate_any _ _ _ _ _ _ _ _ e.2)

pub returns-in-Run-clause-ended : goal.returns-in-Run-clause-ended
returns-in-Run-clause-ended g c = rw c.in-Run.is c.run_file.ensures.ended

pub returns-in-Exec-clause-ended : goal.returns-in-Exec-clause-ended
returns-in-Exec-clause-ended g c = rw c.in-Exec.is c.exec_file.ensures.ended

pub returns-in-Sample-clause-ended : goal.returns-in-Sample-clause-ended
returns-in-Sample-clause-ended g c = rw c.in-Sample.is c.run_sample.ensures.ended

pub returns-in-Check-clause-asked : goal.returns-in-Check-clause-asked
returns-in-Check-clause-asked g c = rw c.in-Check.is c.check_file.ensures.asked

pub returns-in-Translate-clause-asked : goal.returns-in-Translate-clause-asked
returns-in-Translate-clause-asked g c = rw c.in-Translate.is c.translate_file.ensures.asked

pub returns-in-Run-clause-asked : goal.returns-in-Run-clause-asked
returns-in-Run-clause-asked g c = rw c.in-Run.is c.run_file.ensures.asked

pub returns-in-Exec-clause-asked : goal.returns-in-Exec-clause-asked
returns-in-Exec-clause-asked g c = rw c.in-Exec.is c.exec_file.ensures.asked

pub returns-in-Sample-clause-asked : goal.returns-in-Sample-clause-asked
returns-in-Sample-clause-asked g c = rw c.in-Sample.is c.run_sample.ensures.asked
