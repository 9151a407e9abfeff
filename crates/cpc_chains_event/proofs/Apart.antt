-- Names that are made are apart: from those of the source, and from each other.
use Rattle.std.proofs.Common.{◌≡◌, ℕ, ◌<◌, ◌^◌, false, [], ◌++◌, get_or, decimal, bytes_eq, refl, ◌∙◌, ap, codes, arith}
use Rattle.cpc_base.specs.Bytes.{Text}
use Rattle.cpc_convert_common.specs.Marks.{has_marks}
use Rattle.cpc_convert_common.specs.Converted.{marked, spawner_name}
use Rattle.cpc_convert_common.proofs.Marks.{NoUnderscore, marked_differs, decimal_is, no_bar_of}
use Rattle.cpc_forms.specs.Flow.{Place, Start, At}
use Rattle.cpc_chains_store_laws.specs.Driver.{drive_name, frame_tag}
use Rattle.cpc_convert_routines.specs.Names.{start_name, leader_name, piece_name, value_tag, box_tag}

-- what stands behind the underscores of a piece's name
abbrev pub behind : Place → Text
behind Start = codes "start"
behind (At n) = codes "at" ++ decimal n

pub piece_is : (f : Text) (l : Place) → piece_name f l ≡ marked f (behind l)
unfolding start_name leader_name
piece_is f Start = refl
piece_is f (At n) = refl

pub spawner_is : (f : Text) → spawner_name f ≡ marked f (codes "spawn")
unfolding spawner_name
spawner_is f = refl

pub value_is : (f : Text) → value_tag f ≡ marked f (codes "value")
unfolding value_tag
value_is f = refl

pub box_is : (f : Text) (k : ℕ) → box_tag f k ≡ marked f (codes "box" ++ decimal k)
unfolding box_tag
box_is f k = refl

pub frame_is : frame_tag ≡ marked (codes "frame") (codes "")
frame_is = refl

pub driver_is : drive_name ≡ marked (codes "drive") (codes "")
driver_is = refl

-- the driver's name is none without marks
pub unlike_driver : (x : Text) → has_marks x ≡ false → bytes_eq drive_name x ≡ false
unlike_driver x h = ap (λ y. bytes_eq y x) driver_is ∙ marked_differs (codes "drive") (codes "") x h

pub no_underscore_behind : (l : Place) → NoUnderscore (behind l)
no_underscore_behind Start = no_bar_of _ (λ k. absurd (omega arith))
no_underscore_behind (At n) = no_bar_of _ (λ k. absurd (omega arith))

pub no_bar_nothing : NoUnderscore (codes "")
no_bar_nothing = no_bar_of _ (λ k. absurd (omega arith))

-- texts with different bytes at one place are apart
pub differ_at : (i : ℕ) (x y : Text) → (get_or x i 0 ≡ get_or y i 0 → ⊥) → x ≡ y → ⊥
differ_at i x y h k = h (ap (λ z. get_or z i 0) k)

-- the texts behind the underscores are apart
pub piece_spawn : (l : Place) → behind l ≡ codes "spawn" → ⊥
piece_spawn Start k = differ_at 1 (codes "start") (codes "spawn") (λ e. absurd (omega arith)) k
piece_spawn (At n) k = differ_at 0 (codes "at" ++ decimal n) (codes "spawn") (λ e. absurd (omega arith)) k

pub piece_nothing : (l : Place) → behind l ≡ codes "" → ⊥
piece_nothing Start k = differ_at 0 (codes "start") [] (λ e. absurd (omega arith)) k
piece_nothing (At n) k = differ_at 0 (codes "at" ++ decimal n) [] (λ e. absurd (omega arith)) k

pub spawn_nothing : codes "spawn" ≡ codes "" → ⊥
spawn_nothing k = differ_at 0 (codes "spawn") [] (λ e. absurd (omega arith)) k

-- a place whose number can be told apart
pub data Small : Place → Type 0 where
  StartIsSmall : Small Start
  NumberIsSmall : (n : ℕ) → n < 2 ^ 63 → Small (At n)

pub behind_is : (a b : Place) → Small a → Small b → behind a ≡ behind b → a ≡ b
behind_is _ _ StartIsSmall StartIsSmall k = refl
behind_is _ _ StartIsSmall (NumberIsSmall n h) k = absurd (differ_at 0 (codes "start") (codes "at" ++ decimal n) (λ e. absurd (omega arith)) k)
behind_is _ _ (NumberIsSmall n h) StartIsSmall k = absurd (differ_at 0 (codes "at" ++ decimal n) (codes "start") (λ e. absurd (omega arith)) k)
behind_is _ _ (NumberIsSmall m h) (NumberIsSmall n g) k = let e : decimal m ≡ decimal n = cc in ap At (decimal_is m n h g e)
