-- Where a section gives a pointer, a state holds one that leads into no block.
use Rattle.std.proofs.Common.{◌<◌, [], Option, Some, None, refl, arith}
use Rattle.cpc_tree.specs.Points.{Point}
use Rattle.cpc_meaning.specs.Plain.{Stack}
use Rattle.cpc_check_laws.specs.Kept.Kept.{Kept}
use Rattle.cpc_check_laws.specs.Kept.Refusals.{gives_pointer, state_after, SectionsAreNeeded}

-- the stack that runs
abbrev running : Option (Stack Point) → Stack Point
running (Some k) = k
running None = record { frames = []; arriving = None }

not_kept : ¬ Kept gives_pointer (state_after 5)
not_kept h = let below : 0 < 0 = (h.running (running (state_after 5).running) refl).code.arriving in omega (arith, below)

pub sections_are_needed : SectionsAreNeeded
sections_are_needed = record { stack = running (state_after 5).running; runs = refl; arrives = refl; none_made = refl; not_kept = not_kept }
