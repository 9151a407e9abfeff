-- The items of an event program: which functions it has, its globals and its declarations of `extern` functions.
use Rattle.std.proofs.Common.{◌≡◌, ⊎_elim, Bool, true, false, cond, List, [], ◌∷◌, ◌++◌, map, bytes_eq, Option, Some, None, refl, sym, subst}
use Rattle.cpc_base.specs.Bytes.{Text}
use Rattle.cpc_tree.specs.Syntax.{Function, Item, StructItem, GlobalItem, PrototypeItem, FunctionItem, Program}
use Rattle.cpc_tree.specs.Typing.{function_named}
use Rattle.cpc_meaning.specs.Start.{main_name}
use Rattle.cpc_meaning.specs.Threads.{is_cps_mode, is_cps}
use Rattle.cpc_convert_common.specs.Converted.{prototype, function_item}
use Rattle.cpc_convert_common.specs.Members.{Has, OnTop, Below}
use Rattle.cpc_convert_common.proofs.Members.{has_either}
use Rattle.cpc_chains_store_laws.specs.Driver.{drive_function}
use Rattle.cpc_convert_routines.specs.Kept.{kept_function, item_unless, kept_items, routine_if, routines_in, routines}
use Rattle.cpc_chains_event.specs.Converted.{all_structs, all_boxes, all_made, main_function, main_if, converted_with, converted}
use Rattle.cpc_convert_routines.specs.Named.{IsCps, IsKept}
use Rattle.cpc_convert_routines.specs.Routines.{Routine}
use Rattle.cpc_chains_event.proofs.Made.{Made, made_is}
use Rattle.cpc_chains_event.proofs.Structs.{AreStructs, NoneAre, OneIs, all_structs_are, all_boxes_are}
use Rattle.cpc_chains_event.proofs.StructsThere.{behind_boxes}
use Rattle.cpc_chains_event.proofs.Lookups.{behind_driver}
use Rattle.cpc_lifted_laws.specs.Accepted.Names.{HasNames}

-- ---- functions

-- a function that is found is there
pub found_has : (items : List Item) (x : Text) (g : Function) → function_named items x ≡ Some g → Has (FunctionItem g) items
found_has [] x g e = absurd (cc)
found_has (StructItem t fs ∷ items) x g e = Below _ _ _ (found_has items x g e)
found_has (GlobalItem y t s ∷ items) x g e = Below _ _ _ (found_has items x g e)
found_has (PrototypeItem m f r ps ∷ items) x g e = Below _ _ _ (found_has items x g e)
found_has (FunctionItem f ∷ items) x g e = go (bytes_eq f.called x) (λ i. found_has items x g i) e
  where
    go : (b : Bool) → (function_named items x ≡ Some g → Has (FunctionItem g) items) → cond b (Some f) (function_named items x) ≡ Some g → Has (FunctionItem g) (FunctionItem f ∷ items)
    go true deeper i = let z : f ≡ g = cc in subst (λ h. Has (FunctionItem h) (FunctionItem f ∷ items)) z (OnTop _ _)
    go false deeper i = Below _ _ _ (deeper i)

no_struct : (xs : List Item) (g : Function) → AreStructs xs → Has (FunctionItem g) xs → ⊥
no_struct _ g NoneAre h = elim h [ ]
no_struct _ g (OneIs tag fs xs m more) (Below _ _ _ h) = no_struct xs g more h

no_prototype : (fs : List Function) (g : Function) → Has (FunctionItem g) (map prototype fs) → ⊥
no_prototype [] g h = elim h [ ]
no_prototype (f ∷ fs) g (Below _ _ _ h) = no_prototype fs g h

function_has : (fs : List Function) (g : Function) → Has (FunctionItem g) (map function_item fs) → Has g fs
function_has [] g h = elim h [ ]
function_has (f ∷ fs) _ (OnTop _ _) = OnTop f fs
function_has (f ∷ fs) g (Below _ _ _ h) = Below g f fs (function_has fs g h)

-- a function that stays
pub data Stays (items : List Item) : Function → Type 0 where
  ItStays : (f : Function) → Has (FunctionItem f) items → is_cps_mode f.mode ≡ false → Stays items (kept_function f)

stays_later : (item : Item) (items : List Item) (g : Function) → Stays items g → Stays (item ∷ items) g
stays_later item items _ (ItStays f h m) = ItStays f (Below _ item items h) m

kept_is : (items : List Item) (g : Function) → Has (FunctionItem g) (kept_items items) → Stays items g
kept_is [] g h = elim h [ ]
kept_is (StructItem t fs ∷ items) g (Below _ _ _ h) = stays_later _ items g (kept_is items g h)
kept_is (GlobalItem x t s ∷ items) g (Below _ _ _ h) = stays_later _ items g (kept_is items g h)
kept_is (PrototypeItem m f r ps ∷ items) g h = go (is_cps_mode m) (λ k. kept_is items g k) h
  where
    go : (b : Bool) → (Has (FunctionItem g) (kept_items items) → Stays items g) → Has (FunctionItem g) (item_unless b (PrototypeItem m f r ps) (kept_items items)) → Stays (PrototypeItem m f r ps ∷ items) g
    go true deeper k = stays_later _ items g (deeper k)
    go false deeper (Below _ _ _ k) = stays_later _ items g (deeper k)
kept_is (FunctionItem f ∷ items) g h = go g (is_cps_mode f.mode) refl (λ k. kept_is items g k) h
  where
    go : (g : Function) (b : Bool) → is_cps_mode f.mode ≡ b → (Has (FunctionItem g) (kept_items items) → Stays items g) → Has (FunctionItem g) (item_unless b (FunctionItem (kept_function f)) (kept_items items)) → Stays (FunctionItem f ∷ items) g
    go g true e deeper k = stays_later _ items g (deeper k)
    go _ false e deeper (OnTop _ _) = ItStays f (OnTop _ items) e
    go g false e deeper (Below _ _ _ k) = stays_later _ items g (deeper k)

-- a routine is that of a cps function
routine_is : (p : Program) (items : List Item) (r : Routine) → Has r (routines_in p items) → (f : Function) × Has (FunctionItem f) items × (is_cps_mode f.mode ≡ true)
routine_is p [] r h = elim h [ ]
routine_is p (StructItem t fs ∷ items) r h = let d = routine_is p items r h in (d.0, Below _ _ _ d.1, d.2)
routine_is p (GlobalItem x t s ∷ items) r h = let d = routine_is p items r h in (d.0, Below _ _ _ d.1, d.2)
routine_is p (PrototypeItem m x t ps ∷ items) r h = let d = routine_is p items r h in (d.0, Below _ _ _ d.1, d.2)
routine_is p (FunctionItem f ∷ items) r h = go (is_cps_mode f.mode) refl (λ k. routine_is p items r k) h
  where
    go : (b : Bool) → is_cps_mode f.mode ≡ b → (Has r (routines_in p items) → (g : Function) × Has (FunctionItem g) items × (is_cps_mode g.mode ≡ true)) → Has r (routine_if b p f (routines_in p items)) → (g : Function) × Has (FunctionItem g) (FunctionItem f ∷ items) × (is_cps_mode g.mode ≡ true)
    go true e deeper k = (f, OnTop _ _, e)
    go false e deeper k = let d = deeper k in (d.0, Below _ _ _ d.1, d.2)

-- where a function of the event program comes from
pub data From (p : Program) : Function → Type 0 where
  FromKept : (f : Function) → IsKept p f → From p (kept_function f)
  FromMade : (g : Function) → Made p p g → From p g
  FromDriver : (f : Function) → IsCps p f → From p drive_function
  FromMain : (f : Function) → IsCps p f → f.called ≡ main_name → From p main_function

module _ (p : Program) (names : HasNames p) where
  kept_from : (g : Function) → Stays p g → From p g
  kept_from _ (ItStays f h m) = FromKept f (record { has = h; mode = m })

  main_from : (g : Function) (b : Bool) → is_cps (function_named p main_name) ≡ b → Has (FunctionItem g) (main_if b) → From p g
  main_from _ true e (OnTop _ _) = go (function_named p main_name) refl e
    where
      go : (o : Option Function) → function_named p main_name ≡ o → is_cps o ≡ true → From p main_function
      go None i c = absurd (cc)
      go (Some f) i c = let t = names.there main_name f i in FromMain f (record { has = t.0; mode = c }) t.1
  main_from g true e (Below _ _ _ h) = elim h [ ]
  main_from g false e h = elim h [ ]

  with_from : (r : Routine) (rs : List Routine) → routines p ≡ r ∷ rs → (g : Function) → Has (FunctionItem g) (behind_driver p (r ∷ rs)) → From p g
  with_from r rs e g h = ⊎_elim
      (λ a. kept_from g (kept_is p g a))
      (λ b. ⊎_elim
      (λ c. absurd (no_struct (all_boxes (r ∷ rs)) g (all_boxes_are (r ∷ rs)) c))
      (λ c. ⊎_elim
      (λ d. FromMade g (made_is p p g (subst (λ ks. Has g (all_made p ks)) (sym e) (function_has (all_made p (r ∷ rs)) g d))))
      (λ d. main_from g (is_cps (function_named p main_name)) refl d)
      (has_either (FunctionItem g) (map function_item (all_made p (r ∷ rs))) (main_if (is_cps (function_named p main_name))) c))
      (has_either (FunctionItem g) (all_boxes (r ∷ rs)) (behind_boxes p (r ∷ rs)) b))
      (has_either (FunctionItem g) (kept_items p) (all_boxes (r ∷ rs) ++ behind_boxes p (r ∷ rs)) h)

  driver_from : (r : Routine) (rs : List Routine) → routines p ≡ r ∷ rs → (g : Function) → Has (FunctionItem g) (FunctionItem drive_function ∷ behind_driver p (r ∷ rs)) → From p g
  driver_from r rs e _ (OnTop _ _) = let d = routine_is p p r (subst (Has r) (sym e) (OnTop r rs)) in FromDriver d.0 (record { has = d.1; mode = d.2 })
  driver_from r rs e g (Below _ _ _ h) = with_from r rs e g h

  all_from : (rs : List Routine) → routines p ≡ rs → (g : Function) → Has (FunctionItem g) (converted_with p rs) → From p g
  all_from [] e g h = kept_from g (kept_is p g h)
  all_from (r ∷ rs) e g (Below _ _ _ h) = ⊎_elim
      (λ a. absurd (no_struct (all_structs p (r ∷ rs)) g (all_structs_are p (r ∷ rs)) a))
      (λ b. ⊎_elim (λ c. absurd (no_prototype (all_made p (r ∷ rs)) g c)) (λ c. driver_from r rs e g c)
      (has_either (FunctionItem g) (map prototype (all_made p (r ∷ rs))) (FunctionItem drive_function ∷ behind_driver p (r ∷ rs)) b))
      (has_either (FunctionItem g) (all_structs p (r ∷ rs)) (map prototype (all_made p (r ∷ rs)) ++ FunctionItem drive_function ∷ behind_driver p (r ∷ rs)) h)

  -- of each function of the event program
  pub comes_from : (g : Function) → Has (FunctionItem g) (converted p) → From p g
  comes_from g h = all_from (routines p) refl g h
