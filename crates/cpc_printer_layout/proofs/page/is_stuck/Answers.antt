use Rattle.std.proofs.Common.{ap}
use Rattle.std.specs.Prelude.{option_map}
use Rattle.cpc_printer_layout.proofs.Laid.{apart_none, apart_some}
use Rattle.cpc_printer_layout.proofs.page.is_stuck.Goals as goal

pub returns-in_default : goal.returns-in_default
returns-in_default c _ names dialect known = apart_none _ names c.args.word.now (ap (λ o. option_map (λ x. x.now) o) c.in_default.is)

pub returns : goal.returns
returns c none names dialect known =
    apart_some _ c.in-Some.lexeme.now names dialect c.args.word.now c.in-Some-first.b.now c.joins.result (ap (λ o. option_map (λ x. x.now) o) c.in-Some.is) c.joins.ensures none c.in-Some-first.ensures.item.3.1 known
