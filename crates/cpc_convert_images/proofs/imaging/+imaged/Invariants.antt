use Rattle.std.proofs.Common.{◌≡◌, ℕ, Bool, take}
use Rattle.cpc_tree.specs.Erase.{Names, exprs_of}
use Rattle.cpc_convert_image_laws.specs.Images as I
use Rattle.cpc_convert_images.specs.Readings.{Reads, readings_by}
use Rattle.cpc_convert_images.proofs.imaging.+imaged.Given as goal

-- the images so far
abbrev pub invariant-images-loop-e : goal.invariant-images-loop-e
invariant-images-loop-e l = (from to : Names) (marks : ℕ → Bool) → Reads from to marks l.readings → exprs_of from l.row ≡ exprs_of to l.row
    → exprs_of to l.all.items ≡ I.images (readings_by from marks l.readings) (exprs_of from (take l.e-index l.row))
