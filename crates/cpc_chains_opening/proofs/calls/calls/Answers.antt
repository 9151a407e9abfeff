use Rattle.std.proofs.Common.{ap, sym, ◌∙◌}
use Rattle.cpc_forms_code.specs.Seen.{stood_seen}
use Rattle.cpc_chains_event.specs.Pieces.{is_entry}
use Rattle.cpc_chains_opening.proofs.calls.calls.Goals as goal

pub returns-in-Simple : goal.returns-in-Simple
returns-in-Simple c = λ source from to p r st entries. c.enters.ensures source from to p r st entries ∙ ap (is_entry p) (sym (ap (stood_seen from) c.in-Simple.is))
