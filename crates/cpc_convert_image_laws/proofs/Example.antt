-- The small source and its target have two frames, and what does not hold of images does not.
use Rattle.std.proofs.Common.{◌≡◌, ℕ, Bool, true, false, ◌||◌, ◌==◌, cond, List, [], ◌∷◌, Some, None, map, bytes_eq, refl, sym, subst}
use Rattle.std.specs.Prelude.{codes}
use Rattle.std.specs.List.{All}
use Rattle.std.proofs.lemmas.List.Elements.{All-nil, All-cons}
use Rattle.cpc_base.specs.Bytes.{Text}
use Rattle.cpc_tree.specs.Syntax.{Ty, TyVoid, TyInt, TyCondvar, TyPointer, TyCode, TyStruct, TyArray, Function}
use Rattle.cpc_tree.specs.Typing.{◌>>=◌, field_from, named, item_named, cells, field, function_named}
use Rattle.cpc_store.specs.declared.values.Class.TheVariants.{Static, Auto, Heap, Frame}
use Rattle.cpc_store.specs.Store.{empty_store}
use Rattle.cpc_meaning.specs.Eval.{Register, Boxed}
use Rattle.cpc_meaning.proofs.Functions.{same_text}
use Rattle.cpc_convert_image_laws.specs.Held.{IsHeldSlot, IsLiveSlot, IsHeldStore, BoxesLive}
use Rattle.cpc_convert_image_laws.specs.Relations.{Less, AsIs, Untold, Found, BothFound, Means}
use Rattle.cpc_convert_image_laws.specs.Native.{KeptItem, KeptGlobal, KeptFunction, KeptNothing}
use Rattle.cpc_convert_image_laws.specs.Locals.{AsValue, AsBlock, StandsFor}
use Rattle.cpc_convert_image_laws.specs.Frames.{IsIn, AreIn, StandsIn, TwoPrograms, TwoFrames}
use Rattle.cpc_convert_image_laws.specs.Example.{int, field_of, native_function, small, boxes, larger, small_scope, larger_scope, marks, spelled, small_readings, an_int, small_store, small_slots, larger_slots, is_small, ThereAreFrames, NotOfImages}
use Rattle.cpc_convert_image_laws.proofs.Options.{less_then}
use Rattle.cpc_convert_image_laws.proofs.Stores.{IsHeldCells, cells_none, cells_more, alloc_holds}
use Rattle.cpc_convert_image_laws.proofs.Locals.{scope_means}

-- ---- types

cells_more_there : (t : Ty) → Less (cells small t) (cells larger t)
cells_more_there TyVoid = AsIs _
cells_more_there (TyInt kind) = AsIs _
cells_more_there TyCondvar = AsIs _
cells_more_there (TyPointer t) = AsIs _
cells_more_there (TyCode r ps) = AsIs _
cells_more_there (TyStruct tag) = go (bytes_eq (codes "s") tag) refl
  where
    go : (b : Bool) → bytes_eq (codes "s") tag ≡ b → Less (cells small (TyStruct tag)) (cells larger (TyStruct tag))
    go true e = subst (λ tag. Less (cells small (TyStruct tag)) (cells larger (TyStruct tag))) (same_text (codes "s") tag e) (AsIs _)
    go false e = subst (λ b. Less (cond b (Some (int ∷ [])) None) (cells larger (TyStruct tag))) (sym e) (Untold _)
cells_more_there (TyArray t n) = less_then _ _ _ _ (cells_more_there t) λ xs. AsIs _

fields_more_there : (tag x : Text) → Less (field small tag x) (field larger tag x)
fields_more_there tag x = go (bytes_eq (codes "s") tag) refl
  where
    go : (b : Bool) → bytes_eq (codes "s") tag ≡ b → Less (field small tag x) (field larger tag x)
    go true e = subst (λ tag. Less (field small tag x) (field larger tag x)) (same_text (codes "s") tag e) (AsIs _)
    go false e = subst (λ b. Less (cond b (Some (field_of (codes "f") ∷ [])) None >>= λ fs. field_from small 0 fs x) (field larger tag x)) (sym e) (Untold _)

-- ---- programs

-- the one code, and functions that stand for themselves
abbrev is_code : Text → Bool
is_code x = bytes_eq x (codes "h")

abbrev any_two : Function → Function → Bool
any_two f g = true

found_both : (x : Text) → x ≡ codes "h" → Found (AreIn any_two) (function_named small x) (function_named larger x)
found_both x e = subst (λ x. Found (AreIn any_two) (function_named small x) (function_named larger x)) (sym e) (BothFound native_function native_function refl (record { result = refl; parameters = refl }))

abbrev two_programs : TwoPrograms
two_programs = record {
  source = small;
  target = larger;
  codes = is_code;
  pairs = any_two;
  common = record { types = record { cells = cells_more_there; fields = fields_more_there }; codes = λ x h. found_both x (same_text x (codes "h") h) };
}

-- ---- names

abbrev same_number : ℕ → Ty → ℕ → Bool
same_number k t k' = k == k'

abbrev IsMeant : Text → Type 0
IsMeant x = Means (IsIn is_code) (StandsIn same_number) larger larger_scope small_slots larger_slots x (small_readings x) (named small small_scope x)

means_by : (x : Text) → StandsFor (StandsIn same_number) marks spelled boxes larger larger_scope small_slots larger_slots x (named small small_scope x) → KeptItem (IsIn is_code) x (item_named 0 small x) (named larger larger_scope x) → IsMeant x
means_by x h i = scope_means (IsIn is_code) (StandsIn same_number) small larger marks spelled boxes small_scope larger_scope small_slots larger_slots x h i

-- one of two
either_name : (a b : Bool) (A : Type 0) → (a || b) ≡ true → (a ≡ true → A) → (b ≡ true → A) → A
either_name true b A e f g = f refl
either_name false b A e f g = g e

at_name : (x y : Text) → bytes_eq x y ≡ true → IsMeant y → IsMeant x
at_name x y e h = subst IsMeant (sym (same_text x y e)) h

each_meant : (x : Text) → is_small x ≡ true → IsMeant x
each_meant x e =
    either_name (bytes_eq x (codes "x")) _ (IsMeant x) e (λ h. at_name x (codes "x") h (means_by (codes "x") (0, refl, AsValue 0 0 (an_int 5) refl refl, refl, tt) KeptNothing)) λ e.
    either_name (bytes_eq x (codes "b")) _ (IsMeant x) e (λ h. at_name x (codes "b") h (means_by (codes "b") (1, refl, AsBlock 1 1 0 refl refl, refl, refl) KeptNothing)) λ e.
    either_name (bytes_eq x (codes "a")) _ (IsMeant x) e (λ h. at_name x (codes "a") h (means_by (codes "a") (2, refl, AsBlock 2 2 1 refl refl, refl, refl) KeptNothing)) λ e.
    either_name (bytes_eq x (codes "v")) _ (IsMeant x) e (λ h. at_name x (codes "v") h (means_by (codes "v") (3, refl, AsBlock 3 3 2 refl refl, refl, refl) KeptNothing)) λ e.
    either_name (bytes_eq x (codes "g")) _ (IsMeant x) e (λ h. at_name x (codes "g") h (means_by (codes "g") tt (KeptGlobal 0 _))) λ e.
    at_name x (codes "h") e (means_by (codes "h") tt (KeptFunction _ _ _ refl))

-- ---- stores

pub empty_held : (C : Text → Type 0) → IsHeldStore C empty_store
empty_held C Static n k cells v e f = absurd (cc)
empty_held C Auto n k cells v e f = absurd (cc)
empty_held C Heap n k cells v e f = absurd (cc)
empty_held C Frame n k cells v e f = absurd (cc)

ints_held : (C : Text → Type 0) (ns : List ℕ) → IsHeldCells C (map an_int ns)
ints_held C [] = cells_none C
ints_held C (n ∷ ns) = cells_more C (an_int n) (map an_int ns) tt (ints_held C ns)

small_held : (C : Text → Type 0) → IsHeldStore C small_store
small_held C =
    alloc_holds C Auto (an_int 9 ∷ []) _
    (alloc_holds C Auto (an_int 1 ∷ an_int 2 ∷ an_int 3 ∷ []) _
    (alloc_holds C Auto (an_int 7 ∷ []) _ (alloc_holds C Static (an_int 4 ∷ []) empty_store (empty_held C) (ints_held C (4 ∷ []))) (ints_held C (7 ∷ []))) (ints_held C (1 ∷ 2 ∷ 3 ∷ [])))
    (ints_held C (9 ∷ []))

slots_held : (C : Text → Type 0) → All (IsHeldSlot C) small_slots
slots_held C =
    All-cons (IsHeldSlot C) (Register (an_int 5)) (Boxed 0 ∷ Boxed 1 ∷ Boxed 2 ∷ []) tt
    (All-cons (IsHeldSlot C) (Boxed 0) (Boxed 1 ∷ Boxed 2 ∷ []) tt
    (All-cons (IsHeldSlot C) (Boxed 1) (Boxed 2 ∷ []) tt
    (All-cons (IsHeldSlot C) (Boxed 2) [] tt (All-nil (IsHeldSlot C)))))

slots_live : BoxesLive small_store small_slots
slots_live =
    All-cons (IsLiveSlot small_store) (Register (an_int 5)) (Boxed 0 ∷ Boxed 1 ∷ Boxed 2 ∷ []) tt
    (All-cons (IsLiveSlot small_store) (Boxed 0) (Boxed 1 ∷ Boxed 2 ∷ []) refl
    (All-cons (IsLiveSlot small_store) (Boxed 1) (Boxed 2 ∷ []) refl
    (All-cons (IsLiveSlot small_store) (Boxed 2) [] refl (All-nil (IsLiveSlot small_store)))))

abbrev two_frames : TwoFrames
two_frames = record {
  programs = two_programs;
  used = is_small;
  readings = small_readings;
  stands = same_number;
  scope = small_scope;
  scope' = larger_scope;
  slots = small_slots;
  slots' = larger_slots;
  store = small_store;
  frames = [];
  is_source = small_held (IsIn is_code);
  held = slots_held (IsIn is_code);
  live = slots_live;
  names = each_meant;
}

pub there_are_frames : ThereAreFrames
there_are_frames = (two_frames, refl, refl, refl, refl)

-- ---- what does not hold

pub not_of_images : NotOfImages
not_of_images = record { not_there = refl; there = refl; known = refl; not_found = refl }
