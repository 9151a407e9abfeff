-- Boxes that are live, and the first cell of one.
use Rattle.std.proofs.Common.{◌≡◌, ℕ, true, List, Option, Some, None, is_some, length, pos, refl, arith}
use Rattle.cpc_base.proofs.Truth.{le_holds}
use Rattle.cpc_store.specs.declared.values.Class.TheVariants.{Auto}
use Rattle.cpc_store.specs.Store.{Value, At, Store}
use Rattle.cpc_meaning.specs.Answer.{Gives}
use Rattle.cpc_meaning.specs.Eval.{Slot, moved_within}
use Rattle.cpc_convert_image_laws.specs.Images.{Reading, AsField}
use Rattle.cpc_convert_image_laws.specs.Held.{BoxesLive}

-- where a name is read as a field, the boxes are live
abbrev pub IsReadLive : Store → List Slot → Option Reading → Type 0
IsReadLive s slots (Some (AsField y f)) = BoxesLive s slots
IsReadLive s slots o = Unit {0}

pub read_live : (s : Store) (slots : List Slot) (o : Option Reading) → BoxesLive s slots → IsReadLive s slots o
read_live s slots None h = tt
read_live s slots (Some (AsField y f)) h = h
read_live s slots (Some o) h = tt

-- the first cell of a live block is there
pub starts : (o : Option (List Value)) (n : ℕ) → is_some o ≡ true → moved_within o Auto n (pos 0) ≡ Gives (At Auto n 0)
starts None n h = absurd (cc)
starts (Some cells) n h = simp (le_holds 0 (length cells) (omega arith)) refl
