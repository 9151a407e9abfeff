use Rattle.std.proofs.Common.{rules, ◌≡◌, sym, subst, take}
use Rattle.cpc_run_workers.specs.Reports.{IsCutShort}
use Rattle.cpc_cli.specs.Command.{length_line}
use Rattle.cpc_cli.proofs.TopLemmas.{is_cut}
use Rattle.cpc_cli.proofs.running.close_sample.Goals as goal

pub returns-in-Err-clause-closed : goal.returns-in-Err-clause-closed
returns-in-Err-clause-closed g c =
    let wrote = c.in-Err.ensures.prefix in
    let is : c.as_bytes.result.now ≡ length_line c.args.length = search rules in
    (take wrote.0 c.as_bytes.result.now, wrote.2, (c.in-Err.ensures.cause, subst (IsCutShort (take wrote.0 c.as_bytes.result.now)) is (is_cut wrote.0 c.as_bytes.result.now wrote.1)))
