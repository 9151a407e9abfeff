use Rattle.std.proofs.Common.{◌≡◌, subst, sym}
use Rattle.cpc_tree.specs.Locate.{located}
use Rattle.cpc_tree.proofs.Places.{bare_program}
use Rattle.cpc_translate.specs.Promised.{IsPrint}
use Rattle.cpc_cli.proofs.TopLemmas.{translated_so}
use Rattle.cpc_cli.proofs.reading.translated_text.Goals as goal

pub returns-in-Ok-clause-printed : goal.returns-in-Ok-clause-printed
returns-in-Ok-clause-printed c =
    let t = c.in-Ok.ensures in
    let made = c.in-Ok.translated in record {
      printed = record {
        print = subst (IsPrint made.printed.items) (sym (bare_program made.read_back.program)) t.print;
        accepts = t.printed;
      };
      steps = c.requires.no_run.steps;
      cells = c.requires.no_run.cells;
    }

pub returns-in-Ok-clause-same : goal.returns-in-Ok-clause-same
returns-in-Ok-clause-same c =
    let t = c.in-Ok.ensures in
    let p = c.in-Ok.translated.source.program in
    (located p, t.source, translated_so p c.in-Ok.translated.read_back.program t.equal t.same t.within t.shape t.no_leak)
