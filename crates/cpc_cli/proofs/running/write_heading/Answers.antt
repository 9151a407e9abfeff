use Rattle.std.proofs.Common.{◌∙◌, ap, codes, take, ◌++◌}
use Rattle.cpc_base.proofs.Pieces.{append_known-append}
use Rattle.std.specs.Io.KnownBytes.{append_known}
use Rattle.cpc_cli.proofs.TopLemmas.{in_printed, in_line}
use Rattle.cpc_cli.proofs.running.write_heading.Goals as goal

pub returns-in-Err-clause-wrote : goal.returns-in-Err-clause-wrote
returns-in-Err-clause-wrote g c =
    let wrote = c.in-Err.ensures.prefix in
    (take wrote.0 c.args.printed.now, wrote.2, in_printed c.args.text c.args.printed.now wrote.0 c.if-not-text.false wrote.1)

pub returns-in-Err-write_all-clause-wrote : goal.returns-in-Err-write_all-clause-wrote
returns-in-Err-write_all-clause-wrote g c =
    let wrote = c.in-Err-write_all.ensures.prefix in
    let line = take wrote.0 (codes "/* run */\n") in (
      c.args.printed.now ++ line,
      wrote.2 ∙ ap (λ t. append_known t line) c.in-Ok.ensures.all ∙ append_known-append (g.O.Sink.taken c.args.out.now) c.args.printed.now line,
      in_line c.args.text c.args.printed.now wrote.0 c.if-not-text.false wrote.1,
    )
