-- States that stand for each other still do where the source forgets what it need not keep.
use Rattle.std.proofs.Common.{◌≡◌, ℕ, zero, suc, Bool, true, List, [], ◌∷◌, map, slice_get, Option, Some, refl, sym, ◌∙◌, ap, subst}
use Rattle.cpc_base.specs.Bytes.{Text}
use Rattle.cpc_store.specs.Store.{Value, Blocks}
use Rattle.cpc_tree.specs.Lists.{holds_number}
use Rattle.cpc_tree.specs.Points.{Point}
use Rattle.cpc_meaning.specs.Eval.{Slot}
use Rattle.cpc_meaning.specs.Plain.{Frame, Stack}
use Rattle.cpc_forms.specs.Flow.{At}
use Rattle.cpc_forms.specs.Split.{Position, InGraph}
use Rattle.cpc_lift_laws.specs.Lifted.{tidy_slot, tidy_slots, tidy_frame, tidy_running, tidy}
use Rattle.cpc_lift_laws.proofs.Search.{at_first, further}
use Rattle.cpc_convert_image_laws.specs.Stacks.{frame_of, Native, NoMore, OneMore}
use Rattle.cpc_chains_store_laws.specs.Chains.{Saved}
use Rattle.cpc_lifted_laws.specs.Related.Cut.{value_in, copied}
use Rattle.cpc_chains_laws.specs.Related.Items.{saved_at, FramesWait, NoneWait, OneWaits}
use Rattle.cpc_chains_laws.specs.Related.Running.{SamePoint, InPiece, AtNode, Under, Bottom, PieceWaits, RunningFor, NothingRuns, NativeRuns, PieceRuns}
use Rattle.cpc_chains_laws.proofs.Related.Relation.{Source, Target, Related, MainIsReady, MainIsNext, Goes, IsOver}
use Rattle.cpc_chains_laws.proofs.Related.Setting.{Setting, NativeFacts, KeepsFacts}

-- ---- slots

-- a slot that is kept
pub slot_kept : (keep : ℕ → Bool) (slots : List Slot) (k : ℕ) → keep k ≡ true → slice_get (tidy_slots keep slots) k ≡ slice_get slots k
slot_kept keep [] k e = refl
slot_kept keep (slot ∷ slots) zero e = ap (λ b. Some (tidy_slot b slot)) e
slot_kept keep (slot ∷ slots) (suc k) e = slot_kept (λ j. keep (suc j)) slots k e

-- slots that are all kept
pub all_kept : (keep : ℕ → Bool) (slots : List Slot) → ((k : ℕ) → keep k ≡ true) → tidy_slots keep slots ≡ slots
all_kept keep [] e = refl
all_kept keep (slot ∷ slots) e = ap (λ b. tidy_slot b slot ∷ tidy_slots (λ j. keep (suc j)) slots) (e 0) ∙ ap (λ rest. slot ∷ rest) (all_kept (λ j. keep (suc j)) slots (λ j. e (suc j)))

-- what is copied of kept slots
pub copied_kept : (keep : ℕ → Bool) (slots : List Slot) (ks : List ℕ) → ((k : ℕ) → holds_number ks k ≡ true → keep k ≡ true) → copied (tidy_slots keep slots) ks ≡ copied slots ks
copied_kept keep slots [] h = refl
copied_kept keep slots (k ∷ ks) h =
    ap (λ o. value_in o ∷ copied (tidy_slots keep slots) ks) (slot_kept keep slots k (h k (at_first k ks)))
    ∙ ap (λ vs. value_in (slice_get slots k) ∷ vs) (copied_kept keep slots ks (λ j e. h j (further k j ks e)))

-- a frame that was saved
abbrev the_saved : Text → List Value → Saved
the_saved piece vs = record { piece = piece; values = vs }

module _ (z : Setting) (native : NativeFacts z) (facts : KeepsFacts z) where
  -- what is saved of a frame that waits
  pub saved_tidied : (f : Text) (n : ℕ) (slots : List Slot) → saved_at z.cut f (tidy_slots (z.kept f (InGraph (At n) n)) slots) n ≡ saved_at z.cut f slots n
  saved_tidied f n slots =
      ap (λ vs. the_saved (z.cut.piece f (At n)) vs) (copied_kept (z.kept f (InGraph (At n) n)) slots (z.cut.keeps f (At n)) (facts.keeps f n))

  -- what is saved of frames that wait
  pub waits_tidied : (frames : List (Frame Position)) (saved : List Saved) → FramesWait z.cut frames saved → FramesWait z.cut (map (tidy_frame z.kept) frames) saved
  waits_tidied _ _ NoneWait = NoneWait
  waits_tidied _ _ (OneWaits f n slots below saved r) =
      let keep : ℕ → Bool = z.kept f (InGraph (At n) n) in
      let e : copied (tidy_slots keep slots) (z.cut.keeps f (At n)) ≡ copied slots (z.cut.keeps f (At n)) = copied_kept keep slots (z.cut.keeps f (At n)) (facts.keeps f n) in
      subst (λ vs. FramesWait z.cut (frame_of f (InGraph (At n) n) (tidy_slots keep slots) ∷ map (tidy_frame z.kept) below) (record { piece = z.cut.piece f (At n); values = vs } ∷ saved)) e
      (OneWaits f n (tidy_slots keep slots) (map (tidy_frame z.kept) below) saved (waits_tidied below saved r))

  module _ (bs : Blocks) where
    abbrev Piece : List (Frame Position) → Option Value → List (Frame Point) → Option Value → List ℕ → Type 0
    Piece = InPiece z.codes z.cut z.there bs

    piece_tidied : (xs : List (Frame Position)) (o : Option Value) (ys : List (Frame Point)) (o' : Option Value) (owned : List ℕ) → Piece xs o ys o' owned → Piece (map (tidy_frame z.kept) xs) o ys o' owned
    piece_tidied _ _ _ _ _ (AtNode f l n slots o next piece o' there below saved owned waits chain pointer result frame) =
        AtNode f l n _ o next piece o' (facts.tidied f l n slots o next piece o' there) (map (tidy_frame z.kept) below) saved owned (waits_tidied below saved waits) chain pointer result frame

    under_tidied : (owned : List ℕ) (xs : List (Frame Position)) (ys : List (Frame Point)) → Under z.codes z.cut z.there bs owned xs ys → Under z.codes z.cut z.there bs owned (map (tidy_frame z.kept) xs) ys
    under_tidied _ _ _ Bottom = Bottom
    under_tidied _ _ _ (PieceWaits xs ys owned r) = PieceWaits (map (tidy_frame z.kept) xs) ys owned (λ v h. piece_tidied xs (Some v) ys (Some v) owned (r v h))

    abbrev Stacks : List ℕ → List (Frame Position) → List (Frame Point) → Type 0
    Stacks owned xs ys = Native z.codes (SamePoint z.cut) (Under z.codes z.cut z.there bs owned) xs ys

    native_slots : (f : Text) (a : Position) (b : Point) (slots : List Slot) → SamePoint z.cut f a b → tidy_slots (z.kept f a) slots ≡ slots
    native_slots f a b slots same = all_kept (z.kept f a) slots (λ k. ap (λ p. z.kept f p k) same.0 ∙ native.whole f b k same.1)

    stacks_tidied : (owned : List ℕ) (xs : List (Frame Position)) (ys : List (Frame Point)) → Stacks owned xs ys → Stacks owned (map (tidy_frame z.kept) xs) ys
    stacks_tidied owned _ _ (NoMore xs ys r) = NoMore _ ys (under_tidied owned xs ys r)
    stacks_tidied owned _ _ (OneMore f a b slots xs ys same held r) =
        subst (λ s. Stacks owned (frame_of f a s ∷ map (tidy_frame z.kept) xs) (frame_of f b slots ∷ ys)) (sym (native_slots f a b slots same))
        (OneMore f a b slots (map (tidy_frame z.kept) xs) ys same held (stacks_tidied owned xs ys r))

    abbrev Runs : Option (Stack Position) → Option (Stack Point) → List ℕ → Type 0
    Runs = RunningFor z.codes z.cut z.there bs

    pub running_tidied : (k : Option (Stack Position)) (j : Option (Stack Point)) (owned : List ℕ) → Runs k j owned → Runs (tidy_running z.kept k) j owned
    running_tidied _ _ _ NothingRuns = NothingRuns
    running_tidied _ _ _ (NativeRuns xs ys o owned r held) = NativeRuns (map (tidy_frame z.kept) xs) ys o owned (stacks_tidied owned xs ys r) held
    running_tidied _ _ _ (PieceRuns xs o ys o' owned r) = PieceRuns (map (tidy_frame z.kept) xs) o ys o' owned (piece_tidied xs o ys o' owned r)

  -- states
  pub related_tidied : (x : Source) (y : Target) → Related z.codes z.cut z.there x y → Related z.codes z.cut z.there (tidy z.kept x) y
  related_tidied _ _ (MainIsReady w) = MainIsReady w
  related_tidied _ _ (MainIsNext w) = MainIsNext w
  related_tidied _ _ (Goes w bs k j owned a tags b runs g owns fresh) = Goes w bs (tidy_running z.kept k) j owned a tags b (running_tidied bs k j owned runs) g owns fresh
  related_tidied _ _ (IsOver x y e i j) = IsOver (tidy z.kept x) y e i j
