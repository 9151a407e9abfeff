use Rattle.std.proofs.Common.{◌∙◌, ap, refl, Some, length, slice_set}
use Rattle.std.proofs.lemmas.Option.{slice_get_read}
use Rattle.cpc_split.proofs.Visits.{spread, visited_none}
use Rattle.cpc_split.specs.Seen.{places_of}
use Rattle.cpc_split.proofs.marks.Marks.visit.Goals as goal

pub returns-in_ok-push-in-None-clause-spread : goal.returns-in_ok-push-in-None-clause-spread
returns-in_ok-push-in-None-clause-spread c =
    let owners = c.args.self.now.owners.items in
    let none = slice_get_read owners (length owners) c.args.node c.index.result.now refl c.requires c.index.ensures ∙ ap Some c.in-None.is in
    ap (spread (places_of (slice_set owners c.args.node (Some c.args.owner)))) c.in_ok-push-in-None.ensures.items
    ∙ visited_none owners c.args.self.now.waiting.items c.args.node c.args.owner none
