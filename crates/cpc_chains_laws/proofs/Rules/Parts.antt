-- The items of an event program, part by part, and what names stand for among them.
use Rattle.std.proofs.Common.{◌≡◌, ◌⊎◌, inl, inr, ⊎_elim, Bool, true, false, List, [], ◌∷◌, ◌++◌, map, reverse, bytes_eq, refl, sym, ◌∙◌, ap, codes}
use Rattle.cpc_base.specs.Bytes.{Text}
use Rattle.cpc_num.specs.declared.kinds.Kind.TheVariants.{Int}
use Rattle.cpc_tree.specs.declared.program.Mode.TheVariants.{Native}
use Rattle.cpc_tree.specs.Syntax.{TyVoid, TyInt, Variable, Function, Item, StructItem, GlobalItem, PrototypeItem, FunctionItem, Program}
use Rattle.cpc_tree.specs.Typing.{AFunction, NotMeant, function_named, parameter_type}
use Rattle.cpc_check_rules.specs.Scopes.{in_items}
use Rattle.cpc_check_rules.specs.FunctionRules.{is_kept}
use Rattle.cpc_meaning.specs.Start.{main_name}
use Rattle.cpc_meaning.specs.Threads.{is_cps}
use Rattle.cpc_meaning.proofs.Functions.{texts_differ, same_text, text_same}
use Rattle.cpc_convert_common.specs.Marks.{has_marks}
use Rattle.cpc_convert_common.specs.Converted.{marked, prototype, function_item}
use Rattle.cpc_convert_common.specs.Members.{Has, OnTop, Below}
use Rattle.cpc_convert_common.proofs.Members.{has_either}
use Rattle.cpc_convert_common.proofs.Marks.{NoUnderscore, marked_has, marked_is, no_bar_spawn}
use Rattle.cpc_chains_store_laws.specs.Driver.{drive_name, drive_function, any_pointer, frame_tag}
use Rattle.cpc_convert_routines.specs.Routines.{Routine}
use Rattle.cpc_chains_event.specs.Frames.{any_frame}
use Rattle.cpc_convert_routines.specs.Kept.{kept_items, routines}
use Rattle.cpc_chains_event.specs.Converted.{all_structs, all_boxes, all_made, main_function, main_if, converted_with, converted}
use Rattle.cpc_convert_routines.specs.Named.{IsNamed}
use Rattle.cpc_chains_event.proofs.Apart.{behind, frame_is, driver_is, spawner_is, piece_is, no_bar_nothing, no_underscore_behind, spawn_nothing, piece_nothing}
use Rattle.cpc_chains_event.proofs.Made.{Made, MadeSpawner, MadePiece, made_is, made_one_name}
use Rattle.cpc_chains_event.proofs.Structs.{AreStructs, NoneAre, OneIs, all_structs_are, all_boxes_are}
use Rattle.cpc_chains_event.proofs.StructsThere.{no_prototype}
use Rattle.cpc_lifted_laws.specs.Accepted.Names.{HasNames}
use Rattle.cpc_lifted_laws.proofs.Rules.Items.{Declares}
use Rattle.cpc_chains_laws.proofs.Rules.Kept.{KeptItem, KeepStruct, KeepGlobal, KeepPrototype, KeepFunction, kept_has}
use Rattle.cpc_chains_laws.proofs.Rules.Made.{of_made}
use Rattle.cpc_lifted_laws.proofs.Rules.Meant.{said, all_said, nothing_meant}
use Rattle.cpc_lifted_laws.proofs.Rules.Names.{made_unkept}

-- ---- parts

abbrev pub frames : Program → List Routine → Program
frames p rs = any_frame ∷ all_structs p rs

abbrev pub prototypes : Program → List Routine → Program
prototypes p rs = map prototype (all_made p rs)

abbrev pub definitions : Program → List Routine → Program
definitions p rs = map function_item (all_made p rs)

abbrev pub driver : Program
driver = FunctionItem drive_function ∷ []

abbrev pub main_of : Program → Program
main_of p = main_if (is_cps (function_named p main_name))

-- what stands before the items that stay
abbrev pub front_of : Program → List Routine → Program
front_of p rs = (frames p rs ++ prototypes p rs) ++ driver

-- and before what is made
abbrev pub before_made : Program → List Routine → Program
before_made p rs = (front_of p rs ++ kept_items p) ++ all_boxes rs

-- all of it
abbrev pub whole : Program → List Routine → Program
whole p rs = frames p rs ++ (prototypes p rs ++ (driver ++ (kept_items p ++ (all_boxes rs ++ (definitions p rs ++ main_of p)))))

-- an event program is all of it, where something is made, and else what stays
pub converted_is : (p : Program) → (converted p ≡ whole p (routines p)) ⊎ ((converted p ≡ kept_items p) × (routines p ≡ []))
converted_is p = go (routines p)
  where
    go : (rs : List Routine) → (converted_with p rs ≡ whole p rs) ⊎ ((converted_with p rs ≡ kept_items p) × (rs ≡ []))
    go [] = inr (refl, refl)
    go (r ∷ rs) = inl refl

-- ---- what an item of it is

pub data Part (p : Program) : Item → Type 0 where
  AStruct : (tag : Text) (fs : List Variable) → has_marks tag ≡ true → Part p (StructItem tag fs)
  APrototype : (g : Function) → Has g (all_made p (routines p)) → Part p (prototype g)
  TheDriver : Part p (FunctionItem drive_function)
  AKept : (x y : Item) → Has x p → KeptItem x y → Part p y
  ADefinition : (g : Function) → Has g (all_made p (routines p)) → Part p (function_item g)
  TheMain : is_cps (function_named p main_name) ≡ true → Part p (FunctionItem main_function)

-- each item of these is one
abbrev pub Parts : Program → Program → Type 0
Parts p xs = (i : Item) → Has i xs → Part p i

pub both_parts : (p xs ys : Program) → Parts p xs → Parts p ys → Parts p (xs ++ ys)
both_parts p xs ys f g i h = ⊎_elim (λ a. f i a) (λ b. g i b) (has_either i xs ys h)

structs_parts : (p xs : Program) → AreStructs xs → Parts p xs
structs_parts p _ NoneAre i h = elim h [ ]
structs_parts p _ (OneIs tag fs xs m a) _ (OnTop _ _) = AStruct tag fs m
structs_parts p _ (OneIs tag fs xs m a) i (Below _ _ _ h) = structs_parts p xs a i h

-- structs declare no name
pub structs_declare : (z : Text) (xs : Program) → AreStructs xs → (i : Item) → Has i xs → Declares z i → ⊥
structs_declare z _ NoneAre i h d = elim h [ ]
structs_declare z _ (OneIs tag fs xs m a) _ (OnTop _ _) d = d
structs_declare z _ (OneIs tag fs xs m a) i (Below _ _ _ h) d = structs_declare z xs a i h d

pub frames_are : (p : Program) → AreStructs (frames p (routines p))
frames_are p = OneIs frame_tag _ _ (ap has_marks frame_is ∙ refl) (all_structs_are p (routines p))

pub frames_parts : (p : Program) → Parts p (frames p (routines p))
frames_parts p = structs_parts p (frames p (routines p)) (frames_are p)

pub boxes_parts : (p : Program) → Parts p (all_boxes (routines p))
boxes_parts p = structs_parts p (all_boxes (routines p)) (all_boxes_are (routines p))

-- what is mapped from a list
pub data From {A B : Type 0} (F : A → B) (xs : List A) : B → Type 0 where
  IsFrom : (x : A) → Has x xs → From F xs (F x)

from_later : {A B : Type 0} (F : A → B) (x : A) (xs : List A) (y : B) → From F xs y → From F (x ∷ xs) y
from_later F x xs _ (IsFrom z h) = IsFrom z (Below z x xs h)

pub from_map : {A B : Type 0} (F : A → B) (xs : List A) (y : B) → Has y (map F xs) → From F xs y
from_map F [] y h = elim h [ ]
from_map F (x ∷ xs) _ (OnTop _ _) = IsFrom x (OnTop x xs)
from_map F (x ∷ xs) y (Below _ _ _ h) = from_later F x xs y (from_map F xs y h)

pub to_map : {A B : Type 0} (F : A → B) (xs : List A) (x : A) → Has x xs → Has (F x) (map F xs)
to_map F _ _ (OnTop x xs) = OnTop (F x) (map F xs)
to_map F _ x (Below _ y xs h) = Below (F x) (F y) (map F xs) (to_map F xs x h)

pub prototypes_parts : (p : Program) → Parts p (prototypes p (routines p))
prototypes_parts p i h = go i (from_map prototype (all_made p (routines p)) i h)
  where
    go : (i : Item) → From prototype (all_made p (routines p)) i → Part p i
    go _ (IsFrom g h) = APrototype g h

pub definitions_parts : (p : Program) → Parts p (definitions p (routines p))
definitions_parts p i h = go i (from_map function_item (all_made p (routines p)) i h)
  where
    go : (i : Item) → From function_item (all_made p (routines p)) i → Part p i
    go _ (IsFrom g h) = ADefinition g h

pub driver_parts : (p : Program) → Parts p driver
driver_parts p _ (OnTop _ _) = TheDriver
driver_parts p i (Below _ _ _ h) = elim h [ ]

pub kept_parts : (p xs : Program) → ((x : Item) → Has x xs → Has x p) → Parts p (kept_items xs)
kept_parts p xs up i h = let k = kept_has xs i h in AKept k.0 i (up k.0 k.1) k.2

pub main_parts : (p : Program) → Parts p (main_of p)
main_parts p i h = go (is_cps (function_named p main_name)) refl i h
  where
    go : (b : Bool) → is_cps (function_named p main_name) ≡ b → (i : Item) → Has i (main_if b) → Part p i
    go true e _ (OnTop _ _) = TheMain e
    go true e i (Below _ _ _ h) = elim h [ ]
    go false e i h = elim h [ ]

pub front_parts : (p : Program) → Parts p (front_of p (routines p))
front_parts p = both_parts p (frames p (routines p) ++ prototypes p (routines p)) driver (both_parts p (frames p (routines p)) (prototypes p (routines p)) (frames_parts p) (prototypes_parts p)) (driver_parts p)

-- ---- structs

marked_struct : (xs : Program) → AreStructs xs → (tag : Text) (fs : List Variable) → Has (StructItem tag fs) xs → has_marks tag ≡ true
marked_struct _ NoneAre tag fs h = elim h [ ]
marked_struct _ (OneIs t gs xs m a) tag fs (OnTop _ _) = m
marked_struct _ (OneIs t gs xs m a) tag fs (Below _ _ _ h) = marked_struct xs a tag fs h

pub boxes_marked : (p : Program) (tag : Text) (fs : List Variable) → Has (StructItem tag fs) (all_boxes (routines p)) → has_marks tag ≡ true
boxes_marked p tag fs h = marked_struct (all_boxes (routines p)) (all_boxes_are (routines p)) tag fs h

no_driver : (tag : Text) (gs : List Variable) → Has (StructItem tag gs) driver → ⊥
no_driver tag gs (Below _ _ _ h) = elim h [ ]

-- a struct before the items that stay is a frame's
pub struct_in_frames : (p : Program) (tag : Text) (fs : List Variable) → Has (StructItem tag fs) (front_of p (routines p)) → Has (StructItem tag fs) (frames p (routines p))
struct_in_frames p tag fs h =
    ⊎_elim (λ a. ⊎_elim (λ b. b) (λ b. absurd (no_prototype (all_made p (routines p)) tag fs b)) (has_either (StructItem tag fs) (frames p (routines p)) (prototypes p (routines p)) a)) (λ a. absurd (no_driver tag fs a))
    (has_either (StructItem tag fs) (frames p (routines p) ++ prototypes p (routines p)) driver h)

pub front_structs : (p : Program) (tag : Text) (fs : List Variable) → Has (StructItem tag fs) (front_of p (routines p)) → has_marks tag ≡ true
front_structs p tag fs h = marked_struct (frames p (routines p)) (frames_are p) tag fs (struct_in_frames p tag fs h)

-- ---- their names

module _ (p : Program) (names : HasNames p) (ok : IsNamed p) where
  abbrev made : List Function
  made = all_made p (routines p)

  -- what is made has a marked name, which is not kept
  pub made_marked : (g : Function) → Has g made → has_marks g.called ≡ true
  made_marked g h = let m = of_made p p g (made_is p p g h) in ap has_marks m.is ∙ marked_has m.function.called m.rest

  pub made_free : (g : Function) → Has g made → is_kept g.called ≡ false
  made_free g h = let m = of_made p p g (made_is p p g h) in ap is_kept m.is ∙ made_unkept m.function.called m.rest (names.items (FunctionItem m.function) m.has).unkept

  not_both : (x y : Text) → bytes_eq x y ≡ true → (b : Text → Bool) → b x ≡ true → b y ≡ false → ⊥
  not_both x y e b i j = let z : true ≡ false = sym i ∙ ap b (same_text x y e) ∙ j in absurd (cc)

  -- an item declares no name that is marked, and none that is kept
  pub declares_plain : (z : Text) (x : Item) → Has x p → Declares z x → (has_marks z ≡ false) × (is_kept z ≡ false)
  declares_plain z (StructItem tag fs) h d = absurd d
  declares_plain z (GlobalItem x t s) h d = let i = names.items (GlobalItem x t s) h in (sym (ap has_marks (same_text x z d)) ∙ i.unmarked, sym (ap is_kept (same_text x z d)) ∙ i.unkept)
  declares_plain z (PrototypeItem m f r ps) h d = let i = names.items (PrototypeItem m f r ps) h in (sym (ap has_marks (same_text f z d)) ∙ i.unmarked, sym (ap is_kept (same_text f z d)) ∙ i.unkept)
  declares_plain z (FunctionItem f) h d = let i = names.items (FunctionItem f) h in (sym (ap has_marks (same_text f.called z d)) ∙ i.unmarked, sym (ap is_kept (same_text f.called z d)) ∙ i.unkept)

  pub kept_name : (x y : Item) (z : Text) → Has x p → KeptItem x y → Declares z y → (has_marks z ≡ false) × (is_kept z ≡ false)
  kept_name _ _ z h (KeepStruct tag fs) d = absurd d
  kept_name _ _ z h (KeepGlobal x t s) d = declares_plain z (GlobalItem x t s) h d
  kept_name _ _ z h (KeepPrototype m f r ps e) d = declares_plain z (PrototypeItem m f r ps) h d
  kept_name _ _ z h (KeepFunction f e) d = declares_plain z (FunctionItem f) h d

  -- no part declares a name that is kept
  pub none_kept : (z : Text) → is_kept z ≡ true → (i : Item) → Part p i → Declares z i → ⊥
  none_kept z k _ (AStruct tag fs m) d = d
  none_kept z k _ (APrototype g h) d = let e : true ≡ false = sym k ∙ sym (ap is_kept (same_text g.called z d)) ∙ made_free g h in absurd (cc)
  none_kept z k _ TheDriver d = let e : true ≡ false = sym k ∙ sym (ap is_kept (same_text drive_name z d)) ∙ refl in absurd (cc)
  none_kept z k _ (AKept x y h q) d = let e : true ≡ false = sym k ∙ (kept_name x y z h q d).1 in absurd (cc)
  none_kept z k _ (ADefinition g h) d = let e : true ≡ false = sym k ∙ sym (ap is_kept (same_text g.called z d)) ∙ made_free g h in absurd (cc)
  none_kept z k _ (TheMain c) d = let e : true ≡ false = sym k ∙ sym (ap is_kept (same_text main_name z d)) ∙ refl in absurd (cc)

  -- so it stands for nothing
  pub kept_nothing : (z : Text) → is_kept z ≡ true → (xs : Program) → Parts p xs → in_items (reverse xs) z ≡ NotMeant
  kept_nothing z k xs parts = nothing_meant z xs (λ i h d. none_kept z k i (parts i h) d)

  -- the driver is called as nothing that is made
  pub driver_apart : (g : Function) → Has g made → bytes_eq drive_name g.called ≡ false
  driver_apart g h = texts_differ drive_name g.called (λ (e : drive_name ≡ g.called). go g (made_is p p g h) e)
    where
      other : (f rest : Text) → has_marks f ≡ false → NoUnderscore rest → (rest ≡ codes "" → ⊥) → (x : Text) → x ≡ marked f rest → drive_name ≡ x → ⊥
      other f rest h n d x i e = d (sym (marked_is (codes "drive") f (codes "") rest refl h no_bar_nothing n (sym driver_is ∙ e ∙ i)).1)

      go : (g : Function) → Made p p g → drive_name ≡ g.called → ⊥
      go _ (MadeSpawner f k c) e = other f.called (codes "spawn") (names.items (FunctionItem f) k).unmarked no_bar_spawn spawn_nothing _ (spawner_is f.called) e
      go _ (MadePiece f l k c o) e = other f.called (behind l) (names.items (FunctionItem f) k).unmarked (no_underscore_behind l) (piece_nothing l) _ (piece_is f.called l) e

  -- a name that is made stands for what is made, wherever its prototype stands
  pub made_said : (g : Function) → Has g made → (i : Item) → Part p i → Declares g.called i → said i ≡ AFunction g.mode g.result (map parameter_type g.parameters)
  made_said g h _ (AStruct tag fs m) d = absurd d
  made_said g h _ (APrototype e k) d = ap (λ (f : Function). AFunction f.mode f.result (map parameter_type f.parameters)) (made_one_name p ok g h e k d)
  made_said g h _ TheDriver d = absurd (not_both drive_name g.called d (bytes_eq drive_name) (text_same drive_name) (driver_apart g h))
  made_said g h _ (AKept x y k q) d = let e : true ≡ false = sym (made_marked g h) ∙ (kept_name x y g.called k q d).0 in absurd (cc)
  made_said g h _ (ADefinition e k) d = ap (λ (f : Function). AFunction f.mode f.result (map parameter_type f.parameters)) (made_one_name p ok g h e k d)
  made_said g h _ (TheMain c) d = let e : true ≡ false = sym (made_marked g h) ∙ sym (ap has_marks (same_text main_name g.called d)) ∙ refl in absurd (cc)

  pub made_meant : (g : Function) → Has g made → (xs : Program) → Parts p xs → Has (prototype g) xs → in_items (reverse xs) g.called ≡ AFunction g.mode g.result (map parameter_type g.parameters)
  made_meant g h xs parts there = all_said g.called _ xs (λ i k d. made_said g h i (parts i k) d) (prototype g) there (text_same g.called)

  -- so does the driver's
  driver_said : (i : Item) → Part p i → Declares drive_name i → said i ≡ AFunction Native TyVoid (any_pointer ∷ TyInt Int ∷ [])
  driver_said _ (AStruct tag fs m) d = absurd d
  driver_said _ (APrototype e k) d = let z : true ≡ false = sym (text_same drive_name) ∙ sym (ap (bytes_eq drive_name) (same_text e.called drive_name d)) ∙ driver_apart e k in absurd (cc)
  driver_said _ TheDriver d = refl
  driver_said _ (AKept x y k q) d = let e : true ≡ false = (kept_name x y drive_name k q d).0 in absurd (cc)
  driver_said _ (ADefinition e k) d = let z : true ≡ false = sym (text_same drive_name) ∙ sym (ap (bytes_eq drive_name) (same_text e.called drive_name d)) ∙ driver_apart e k in absurd (cc)
  driver_said _ (TheMain c) d = let e : true ≡ false = sym (ap has_marks (same_text main_name drive_name d)) ∙ refl in absurd (cc)

  pub driver_meant : (xs : Program) → Parts p xs → Has (FunctionItem drive_function) xs → in_items (reverse xs) drive_name ≡ AFunction Native TyVoid (any_pointer ∷ TyInt Int ∷ [])
  driver_meant xs parts there = all_said drive_name _ xs (λ i k d. driver_said i (parts i k) d) (FunctionItem drive_function) there (text_same drive_name)

  -- no part but one that stays or `main` declares a name without marks
  pub front_unmarked : (z : Text) → has_marks z ≡ false → (i : Item) → Has i (front_of p (routines p)) → Declares z i → ⊥
  front_unmarked z e i h d =
      ⊎_elim (λ a. ⊎_elim (λ b. structs_declare z (frames p (routines p)) (frames_are p) i b d) (λ b. no_prototype i (from_map prototype made i b) d) (has_either i (frames p (routines p)) (prototypes p (routines p)) a)) (λ a. no_driver i a d)
      (has_either i (frames p (routines p) ++ prototypes p (routines p)) driver h)
    where
      no_prototype : (i : Item) → From prototype made i → Declares z i → ⊥
      no_prototype _ (IsFrom g k) d = let y : true ≡ false = sym (made_marked g k) ∙ ap has_marks (same_text g.called z d) ∙ e in absurd (cc)

      no_driver : (i : Item) → Has i driver → Declares z i → ⊥
      no_driver _ (OnTop _ _) d = let y : true ≡ false = ap has_marks (same_text drive_name z d) ∙ e in absurd (cc)
      no_driver i (Below _ _ _ h) d = elim h [ ]
