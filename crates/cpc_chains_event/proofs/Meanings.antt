-- What the names of an event program stand for.
use Rattle.std.proofs.Common.{◌≡◌, ℕ, suc, Bool, true, false, cond, List, [], ◌∷◌, ◌++◌, map, bytes_eq, Option, Some, None, refl, sym, ◌∙◌, ap, subst, codes}
use Rattle.cpc_base.specs.Bytes.{Text}
use Rattle.cpc_base.proofs.Lists.{append_empty}
use Rattle.cpc_tree.specs.declared.program.Mode.{Mode}
use Rattle.cpc_tree.specs.declared.program.Mode.TheVariants.{Native, Cps, Detached, Extern}
use Rattle.cpc_tree.specs.Syntax.{Ty, Parameter, Function, Item, StructItem, GlobalItem, PrototypeItem, FunctionItem, Program}
use Rattle.cpc_tree.specs.Typing.{Meant, AGlobal, AFunction, NotMeant, item_named, function_named, parameter_type}
use Rattle.cpc_meaning.specs.Start.{main_name}
use Rattle.cpc_meaning.specs.Threads as T
use Rattle.cpc_meaning.specs.Threads.{is_cps_mode}
use Rattle.cpc_meaning.proofs.Functions.{texts_differ, same_text}
use Rattle.cpc_convert_common.specs.Marks.{has_marks}
use Rattle.cpc_convert_common.specs.Converted.{marked}
use Rattle.cpc_convert_common.specs.Members.{Has, OnTop, Below}
use Rattle.cpc_convert_common.proofs.Marks.{NoUnderscore, marked_is, no_bar_spawn}
use Rattle.cpc_convert_common.proofs.Listed.{find_prototype, pass_prototypes, pass_items}
use Rattle.cpc_convert_image_laws.specs.InPlace.{is_cps}
use Rattle.cpc_chains_store_laws.specs.Driver.{drive_name, drive_function}
use Rattle.cpc_convert_routines.specs.Routines.{Routine, routine_of}
use Rattle.cpc_chains_event.specs.Pieces.{piece_function, spawner_function}
use Rattle.cpc_convert_routines.specs.Kept.{kept_function, item_unless, kept_items, routines}
use Rattle.cpc_chains_event.specs.Converted.{all_structs, all_boxes, all_made, main_function, main_if, converted_with, converted}
use Rattle.cpc_convert_routines.specs.Named.{IsNamed}
use Rattle.cpc_chains_event.specs.NameLaws.{ItemsAreMeant}
use Rattle.cpc_chains_event.proofs.Apart.{behind, piece_is, spawner_is, driver_is, piece_nothing, spawn_nothing, no_underscore_behind, no_bar_nothing, unlike_driver}
use Rattle.cpc_chains_event.proofs.Structs.{skip_names, all_structs_are, all_boxes_are}
use Rattle.cpc_chains_event.proofs.Made.{Made, MadeSpawner, MadePiece, made_is, made_one_name, made_marked, has_piece, has_spawner}
use Rattle.cpc_chains_event.proofs.Lookups.{behind_driver}
use Rattle.cpc_chains_event.proofs.StructsThere.{behind_boxes, behind_structs}

-- ---- what stays

pub cps_meant : (m : Mode) (r : Ty) (ps : List Ty) → is_cps_mode m ≡ true → is_cps (AFunction m r ps) ≡ true
cps_meant Native r ps e = absurd (cc)
cps_meant Cps r ps e = refl
cps_meant Detached r ps e = absurd (cc)
cps_meant Extern r ps e = absurd (cc)

-- what is found here or further on, where the same is found further on
pub here_or : (b : Bool) (m rest rest' : Meant) → is_cps (cond b m rest) ≡ false → (is_cps rest ≡ false → rest' ≡ rest) → cond b m rest' ≡ cond b m rest
here_or true m rest rest' e h = refl
here_or false m rest rest' e h = h e

-- what is found further on, where a cps function is left out
pub left_out : (b : Bool) (m rest rest' : Meant) → is_cps m ≡ true → is_cps (cond b m rest) ≡ false → (is_cps rest ≡ false → rest' ≡ rest) → rest' ≡ cond b m rest
left_out true m rest rest' c e h = absurd (cc)
left_out false m rest rest' c e h = h e

module _ (tail : List Item) (x : Text) where
  kept_prototype : (d : Bool) (m : Mode) (f : Text) (r : Ty) (ps : List Parameter) (its : List Item) (n : ℕ) → is_cps_mode m ≡ d → is_cps (item_named n (PrototypeItem m f r ps ∷ its) x) ≡ false
      → (is_cps (item_named n its x) ≡ false → item_named n (kept_items its ++ tail) x ≡ item_named n its x)
      → item_named n (item_unless d (PrototypeItem m f r ps) (kept_items its) ++ tail) x ≡ item_named n (PrototypeItem m f r ps ∷ its) x
  kept_prototype true m f r ps its n c e h = left_out (bytes_eq f x) (AFunction m r (map parameter_type ps)) (item_named n its x) (item_named n (kept_items its ++ tail) x) (cps_meant m r (map parameter_type ps) c) e h
  kept_prototype false m f r ps its n c e h = here_or (bytes_eq f x) (AFunction m r (map parameter_type ps)) (item_named n its x) (item_named n (kept_items its ++ tail) x) e h

  kept_one : (d : Bool) (f : Function) (its : List Item) (n : ℕ) → is_cps_mode f.mode ≡ d → is_cps (item_named n (FunctionItem f ∷ its) x) ≡ false
      → (is_cps (item_named n its x) ≡ false → item_named n (kept_items its ++ tail) x ≡ item_named n its x)
      → item_named n (item_unless d (FunctionItem (kept_function f)) (kept_items its) ++ tail) x ≡ item_named n (FunctionItem f ∷ its) x
  kept_one true f its n c e h =
      left_out (bytes_eq f.called x) (AFunction f.mode f.result (map parameter_type f.parameters)) (item_named n its x) (item_named n (kept_items its ++ tail) x) (cps_meant f.mode f.result (map parameter_type f.parameters) c) e h
  kept_one false f its n c e h = here_or (bytes_eq f.called x) (AFunction f.mode f.result (map parameter_type f.parameters)) (item_named n its x) (item_named n (kept_items its ++ tail) x) e h

  kept_meant : ((n : ℕ) → item_named n tail x ≡ NotMeant) → (its : List Item) (n : ℕ) → is_cps (item_named n its x) ≡ false → item_named n (kept_items its ++ tail) x ≡ item_named n its x
  kept_meant none [] n e = none n
  kept_meant none (StructItem t fs ∷ its) n e = kept_meant none its n e
  kept_meant none (GlobalItem y t s ∷ its) n e = here_or (bytes_eq y x) (AGlobal n t) (item_named (suc n) its x) (item_named (suc n) (kept_items its ++ tail) x) e (λ k. kept_meant none its (suc n) k)
  kept_meant none (PrototypeItem m f r ps ∷ its) n e = kept_prototype (is_cps_mode m) m f r ps its n refl e (λ k. kept_meant none its n k)
  kept_meant none (FunctionItem f ∷ its) n e = kept_one (is_cps_mode f.mode) f its n refl e (λ k. kept_meant none its n k)

-- ---- the parts of an event program

made_there : (p : Program) (rs : List Routine) (g : Function) (x : Text) → Has g (all_made p rs) → item_named 0 (converted_with p rs) x ≡ item_named 0 (behind_structs p rs) x
made_there p [] g x h = elim h [ ]
made_there p (r ∷ rs) g x h = skip_names (all_structs p (r ∷ rs)) (behind_structs p (r ∷ rs)) 0 x (all_structs_are p (r ∷ rs))

-- a function that is found is there
found_there : (its : List Item) (x : Text) (f : Function) → function_named its x ≡ Some f → Has (FunctionItem f) its × (f.called ≡ x)
found_there [] x f e = absurd (cc)
found_there (StructItem t fs ∷ its) x f e = let h = found_there its x f e in (Below _ _ _ h.0, h.1)
found_there (GlobalItem y t s ∷ its) x f e = let h = found_there its x f e in (Below _ _ _ h.0, h.1)
found_there (PrototypeItem m g r ps ∷ its) x f e = let h = found_there its x f e in (Below _ _ _ h.0, h.1)
found_there (FunctionItem g ∷ its) x f e = found_here g its x f (found_there its x f) (bytes_eq g.called x) refl e
  where
    found_here : (g : Function) (its : List Item) (x : Text) (f : Function) → (function_named its x ≡ Some f → Has (FunctionItem f) its × (f.called ≡ x)) → (b : Bool) → bytes_eq g.called x ≡ b
        → cond b (Some g) (function_named its x) ≡ Some f → Has (FunctionItem f) (FunctionItem g ∷ its) × (f.called ≡ x)
    found_here g its x f rest true c e = let same : g ≡ f = cc in subst (λ h. Has (FunctionItem h) (FunctionItem g ∷ its) × (h.called ≡ x)) same (OnTop _ _, same_text g.called x c)
    found_here g its x f rest false c e = let h = rest e in (Below _ _ _ h.0, h.1)

module _ (p : Program) (ok : IsNamed p) where
  -- what is made means itself
  meant_made : (g : Function) → Has g (all_made p (routines p)) → item_named 0 (converted p) g.called ≡ AFunction g.mode g.result (map parameter_type g.parameters)
  meant_made g h = made_there p (routines p) g g.called h ∙ find_prototype (all_made p (routines p)) (FunctionItem drive_function ∷ behind_driver p (routines p)) 0 g h (made_one_name p ok g h)

  -- none of it is called as the driver
  not_driver : (h : Function) → Has h (all_made p (routines p)) → bytes_eq h.called drive_name ≡ false
  not_driver h j = go h (made_is p p h j)
    where
      apart : (f rest : Text) → has_marks f ≡ false → NoUnderscore rest → (rest ≡ codes "" → ⊥) → bytes_eq (marked f rest) drive_name ≡ false
      apart f rest e n d =
          texts_differ (marked f rest) drive_name (λ (k : marked f rest ≡ drive_name). d (marked_is f (codes "drive") rest (codes "") e refl n no_bar_nothing (k ∙ driver_is)).1)

      go : (h : Function) → Made p p h → bytes_eq h.called drive_name ≡ false
      go _ (MadeSpawner f has c) = ap (λ y. bytes_eq y drive_name) (spawner_is f.called) ∙ apart f.called (codes "spawn") (ok.unmarked (FunctionItem f) has) no_bar_spawn spawn_nothing
      go _ (MadePiece f l has c o) = ap (λ y. bytes_eq y drive_name) (piece_is f.called l) ∙ apart f.called (behind l) (ok.unmarked (FunctionItem f) has) (no_underscore_behind l) (piece_nothing l)

  -- `main` is called so, where it is cps
  main_nothing : (x : Text) → is_cps (item_named 0 p x) ≡ false → (n : ℕ) → item_named n (main_if (T.is_cps (function_named p main_name))) x ≡ NotMeant
  main_nothing x e n = go (function_named p main_name) refl
    where
      called : (f : Function) → function_named p main_name ≡ Some f → is_cps_mode f.mode ≡ true → main_name ≡ x → ⊥
      called f k c i =
          let h = found_there p main_name f k in
          let m : item_named 0 p x ≡ AFunction f.mode f.result (map parameter_type f.parameters) = ap (item_named 0 p) (sym (h.1 ∙ i)) ∙ ok.meant f h.0 in
          let wrong : true ≡ false = sym (cps_meant f.mode f.result (map parameter_type f.parameters) c) ∙ sym (ap is_cps m) ∙ e in absurd (cc)

      by_mode : (f : Function) → function_named p main_name ≡ Some f → (b : Bool) → is_cps_mode f.mode ≡ b → item_named n (main_if b) x ≡ NotMeant
      by_mode f k true c = ap (λ d. cond d (AFunction main_function.mode main_function.result []) NotMeant) (texts_differ main_name x (called f k c))
      by_mode f k false c = refl

      go : (o : Option Function) → function_named p main_name ≡ o → item_named n (main_if (T.is_cps o)) x ≡ NotMeant
      go None k = refl
      go (Some f) k = by_mode f k (is_cps_mode f.mode) refl

  meant_kept : (x : Text) → has_marks x ≡ false → is_cps (item_named 0 p x) ≡ false → item_named 0 (converted p) x ≡ item_named 0 p x
  meant_kept x h e = go (routines p) (made_marked p ok x h)
    where
      go : (rs : List Routine) → ((g : Function) → Has g (all_made p rs) → bytes_eq g.called x ≡ false) → item_named 0 (converted_with p rs) x ≡ item_named 0 p x
      go [] none = ap (λ ys. item_named 0 ys x) (sym (append_empty (kept_items p))) ∙ kept_meant [] x (λ n. refl) p 0 e
      go (r ∷ rs) none =
          skip_names (all_structs p (r ∷ rs)) (behind_structs p (r ∷ rs)) 0 x (all_structs_are p (r ∷ rs))
          ∙ (pass_prototypes (all_made p (r ∷ rs)) (FunctionItem drive_function ∷ behind_driver p (r ∷ rs)) 0 x none
          ∙ (ap (λ b. cond b (AFunction drive_function.mode drive_function.result (map parameter_type drive_function.parameters)) (item_named 0 (behind_driver p (r ∷ rs)) x)) (unlike_driver x h)
          ∙ kept_meant (all_boxes (r ∷ rs) ++ behind_boxes p (r ∷ rs)) x
          (λ n. skip_names (all_boxes (r ∷ rs)) (behind_boxes p (r ∷ rs)) n x (all_boxes_are (r ∷ rs)) ∙ (pass_items (all_made p (r ∷ rs)) (main_if (T.is_cps (function_named p main_name))) n x none ∙ main_nothing x e n)) p 0 e))

pub items_meant : ItemsAreMeant
items_meant p ok = record {
  pieces = λ f c l o. meant_made p ok (piece_function p (routine_of p f) l) (has_piece p f c l o);
  spawners = λ f c. meant_made p ok (spawner_function f) (has_spawner p f c);
  driver = λ f c. made_there p (routines p) (spawner_function f) drive_name (has_spawner p f c)
      ∙ pass_prototypes (all_made p (routines p)) (FunctionItem drive_function ∷ behind_driver p (routines p)) 0 drive_name (not_driver p ok);
  kept = meant_kept p ok;
}
