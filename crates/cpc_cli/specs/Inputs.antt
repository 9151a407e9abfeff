-- What the code knows of the files that the words name.
use Rattle.cpc_cli.specs.Command.{Labels}
use Rattle.cpc_cli.specs.declared.answer.Inputs.{Inputs}

abbrev pub labels : Inputs → Labels
labels inputs = record { text = inputs.text.now; history = inputs.history.now; limit = inputs.limit }
