use Rattle.cpc_native_points.specs.Leads.{Leads, begun}
use Rattle.cpc_native_points.specs.Seen.{part_of}
use Rattle.std.proofs.Common.{◌∷◌, Some}
use Rattle.cpc_tree.specs.Points as P
use Rattle.cpc_native_points.proofs.moves.enter_part.Goals as goal

pub returns-in-Some : goal.returns-in-Some
returns-in-Some c = λ names path e.
    let h : Leads names path c.into.result (P.Into (part_of c.args.part ∷ begun names (Some c.in-Some.field-0))) = rw c.in-Some.is at (c.into.ensures names path e) in
    rw c.in-Some.is h
