use Rattle.std.proofs.Common.{sym, subst, ap, option_map}
use Rattle.cpc_base.specs.Outside.{Rose}
use Rattle.cpc_cli.specs.Ran.{NotTold}
use Rattle.cpc_cli.specs.Asked.{AsksUpTo, file_end}
use Rattle.cpc_cli.specs.Command.{history_limit}
use Rattle.cpc_cli.proofs.AskedLemmas.{asks_file, asks_nothing}
use Rattle.cpc_cli.proofs.running.polls_of.Goals as goal

pub returns-in-Some-clause-refused : goal.returns-in-Some-clause-refused
returns-in-Some-clause-refused g c = λ end is.
    let named = ap (option_map (λ name. name.now)) c.in-Some.is in
    let unread = λ (file : _). Rose (g.F.Shelf.faults c.args.shelf.now file) (g.F.Shelf.faults c.read_polls.new.shelf file) in
    subst (λ history. NotTold (g.F.Shelf.files c.args.shelf.now) history unread end) (sym named) (c.read_polls.ensures.refused end is)

pub returns-in-Some-clause-asked : goal.returns-in-Some-clause-asked
returns-in-Some-clause-asked g c =
    let named = ap (option_map (λ name. name.now)) c.in-Some.is in
    let before = g.F.Shelf.asked c.args.shelf.now in
    let now = g.F.Shelf.asked c.read_polls.new.shelf in
    subst (λ history. AsksUpTo before now (file_end history history_limit)) (sym named) (asks_file before now c.in-Some.name.now history_limit c.read_polls.ensures.asked)

pub returns-in-None-clause-asked : goal.returns-in-None-clause-asked
returns-in-None-clause-asked g c = asks_nothing (g.F.Shelf.asked c.args.shelf.now) _
