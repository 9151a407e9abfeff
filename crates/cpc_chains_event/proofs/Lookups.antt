-- Which functions the names of an event program find.
use Rattle.std.proofs.Common.{◌≡◌, Bool, true, false, cond, List, [], ◌∷◌, ◌++◌, bytes_eq, Option, Some, refl, sym, ◌∙◌, ap, codes}
use Rattle.cpc_base.specs.Bytes.{Text}
use Rattle.cpc_base.proofs.Lists.{append_empty}
use Rattle.cpc_tree.specs.Syntax.{Function, Item, StructItem, GlobalItem, PrototypeItem, FunctionItem, Program}
use Rattle.cpc_tree.specs.Typing.{function_named}
use Rattle.cpc_meaning.specs.Start.{main_name}
use Rattle.cpc_meaning.specs.Threads.{is_cps_mode, is_cps}
use Rattle.cpc_meaning.proofs.Functions.{texts_differ}
use Rattle.cpc_convert_common.specs.Marks.{has_marks}
use Rattle.cpc_convert_common.specs.Converted.{marked, spawner_name}
use Rattle.cpc_convert_common.specs.Members.{Has, OnTop, Below}
use Rattle.cpc_convert_common.proofs.Marks.{NoUnderscore, marked_is, differs_marked, no_bar_spawn}
use Rattle.cpc_convert_common.proofs.Listed.{skip_prototypes, find_function, pass_functions}
use Rattle.cpc_forms.specs.Flow.{Place}
use Rattle.cpc_chains_store_laws.specs.Driver.{drive_name, drive_function}
use Rattle.cpc_convert_routines.specs.Names.{piece_name}
use Rattle.cpc_convert_routines.specs.Routines.{Routine, routine_of}
use Rattle.cpc_chains_event.specs.Pieces.{piece_function, spawner_function}
use Rattle.cpc_convert_routines.specs.Kept.{kept_function, item_unless, kept_items, routines}
use Rattle.cpc_chains_event.specs.Converted.{all_structs, all_boxes, all_made, main_function, main_if, converted_with, converted}
use Rattle.cpc_convert_routines.specs.Named.{IsOwner, IsNamed, IsCps, IsKept}
use Rattle.cpc_chains_event.specs.NameLaws.{FunctionsAreFound}
use Rattle.cpc_chains_event.proofs.Apart.{behind, piece_is, spawner_is, driver_is, piece_nothing, spawn_nothing, no_underscore_behind, no_bar_nothing, unlike_driver}
use Rattle.cpc_chains_event.proofs.Structs.{skip_functions, all_structs_are, all_boxes_are}
use Rattle.cpc_chains_event.proofs.Made.{made_one_name, made_marked, has_piece, has_spawner}
use Rattle.cpc_chains_event.proofs.StructsThere.{behind_boxes}

-- ---- what stays

-- a name that no function which stays has
pass_kept : (its items : List Item) (x : Text) → ((g : Function) → Has (FunctionItem g) its → is_cps_mode g.mode ≡ false → bytes_eq g.called x ≡ false) → function_named (kept_items its ++ items) x ≡ function_named items x
pass_kept [] items x none = refl
pass_kept (StructItem t fs ∷ its) items x none = pass_kept its items x (λ g h. none g (Below _ _ _ h))
pass_kept (GlobalItem y t s ∷ its) items x none = pass_kept its items x (λ g h. none g (Below _ _ _ h))
pass_kept (PrototypeItem m f r ps ∷ its) items x none = go (is_cps_mode m) (pass_kept its items x (λ g h. none g (Below _ _ _ h)))
  where
    go : (b : Bool) → function_named (kept_items its ++ items) x ≡ function_named items x → function_named (item_unless b (PrototypeItem m f r ps) (kept_items its) ++ items) x ≡ function_named items x
    go true e = e
    go false e = e
pass_kept (FunctionItem f ∷ its) items x none = go (is_cps_mode f.mode) refl (pass_kept its items x (λ g h. none g (Below _ _ _ h)))
  where
    go : (b : Bool) → is_cps_mode f.mode ≡ b → function_named (kept_items its ++ items) x ≡ function_named items x → function_named (item_unless b (FunctionItem (kept_function f)) (kept_items its) ++ items) x ≡ function_named items x
    go true c e = e
    go false c e = ap (λ d. cond d (Some (kept_function f)) (function_named (kept_items its ++ items) x)) (none f (OnTop _ _) c) ∙ e

-- a function that stays
find_kept : (its items : List Item) (x : Text) (f : Function) → function_named its x ≡ Some f → is_cps_mode f.mode ≡ false → function_named (kept_items its ++ items) x ≡ Some (kept_function f)
find_kept [] items x f e c = absurd (cc)
find_kept (StructItem t fs ∷ its) items x f e c = find_kept its items x f e c
find_kept (GlobalItem y t s ∷ its) items x f e c = find_kept its items x f e c
find_kept (PrototypeItem m g r ps ∷ its) items x f e c = go (is_cps_mode m) (find_kept its items x f e c)
  where
    go : (b : Bool) → function_named (kept_items its ++ items) x ≡ Some (kept_function f) → function_named (item_unless b (PrototypeItem m g r ps) (kept_items its) ++ items) x ≡ Some (kept_function f)
    go true k = k
    go false k = k
find_kept (FunctionItem g ∷ its) items x f e c = kept_here g its items x f c (λ k. find_kept its items x f k c) (bytes_eq g.called x) refl (is_cps_mode g.mode) refl e
  where
    kept_here : (g : Function) (its items : List Item) (x : Text) (f : Function) → is_cps_mode f.mode ≡ false → (function_named its x ≡ Some f → function_named (kept_items its ++ items) x ≡ Some (kept_function f))
        → (b : Bool) → bytes_eq g.called x ≡ b → (d : Bool) → is_cps_mode g.mode ≡ d → cond b (Some g) (function_named its x) ≡ Some f
        → function_named (item_unless d (FunctionItem (kept_function g)) (kept_items its) ++ items) x ≡ Some (kept_function f)
    kept_here g its items x f c rest true i true j e = let same : g ≡ f = cc in absurd (cc)
    kept_here g its items x f c rest true i false j e =
        let same : g ≡ f = cc in ap (λ b. cond b (Some (kept_function g)) (function_named (kept_items its ++ items) x)) i ∙ ap (λ h. Some (kept_function h)) same
    kept_here g its items x f c rest false i true j e = rest e
    kept_here g its items x f c rest false i false j e = ap (λ b. cond b (Some (kept_function g)) (function_named (kept_items its ++ items) x)) i ∙ rest e

-- ---- the parts of an event program

-- the items behind the driver
abbrev pub behind_driver : Program → List Routine → List Item
behind_driver p rs = kept_items p ++ (all_boxes rs ++ behind_boxes p rs)

-- a name is looked up among the driver and what stands behind it
abbrev from_driver : Program → List Routine → Text → Option Function
from_driver p rs x = cond (bytes_eq drive_name x) (Some drive_function) (function_named (behind_driver p rs) x)

looked_up : (p : Program) (r : Routine) (rs : List Routine) (x : Text) → function_named (converted_with p (r ∷ rs)) x ≡ from_driver p (r ∷ rs) x
looked_up p r rs x = skip_functions (all_structs p (r ∷ rs)) _ x (all_structs_are p (r ∷ rs)) ∙ skip_prototypes (all_made p (r ∷ rs)) _ x

-- where there is something made, there are routines
made_there : (p : Program) (rs : List Routine) (g : Function) (x : Text) → Has g (all_made p rs) → function_named (converted_with p rs) x ≡ from_driver p rs x
made_there p [] g x h = elim h [ ]
made_there p (r ∷ rs) g x h = looked_up p r rs x

module _ (p : Program) (ok : IsNamed p) where
  none_marked : (f rest : Text) (g : Function) → Has (FunctionItem g) p → bytes_eq g.called (marked f rest) ≡ false
  none_marked f rest g h = differs_marked f rest g.called (ok.unmarked (FunctionItem g) h)

  -- a made function whose name is not the driver's
  find_made : (g : Function) (f rest : Text) → g.called ≡ marked f rest → Has g (all_made p (routines p)) → bytes_eq drive_name g.called ≡ false → function_named (converted p) g.called ≡ Some g
  find_made g f rest e h d =
      made_there p (routines p) g g.called h
      ∙ (ap (λ b. cond b (Some drive_function) (function_named (behind_driver p (routines p)) g.called)) d
      ∙ (pass_kept p (all_boxes (routines p) ++ behind_boxes p (routines p)) g.called (λ k j c. ap (bytes_eq k.called) e ∙ none_marked f rest k j)
      ∙ (skip_functions (all_boxes (routines p)) (behind_boxes p (routines p)) g.called (all_boxes_are (routines p))
      ∙ find_function (all_made p (routines p)) (main_if (is_cps (function_named p main_name))) g h (made_one_name p ok g h))))

  -- the driver's name is none of a piece or a spawner
  driver_differs : (f rest : Text) → has_marks f ≡ false → NoUnderscore rest → (rest ≡ codes "" → ⊥) → bytes_eq drive_name (marked f rest) ≡ false
  driver_differs f rest h n d =
      texts_differ drive_name (marked f rest) (λ (e : drive_name ≡ marked f rest). d (sym (marked_is (codes "drive") f (codes "") rest refl h no_bar_nothing n (sym driver_is ∙ e)).1))

  find_piece : (f : Function) → IsCps p f → (l : Place) → IsOwner (routine_of p f) l → function_named (converted p) (piece_name f.called l) ≡ Some (piece_function p (routine_of p f) l)
  find_piece f c l o =
      find_made (piece_function p (routine_of p f) l) f.called (behind l) (piece_is f.called l) (has_piece p f c l o)
      (ap (bytes_eq drive_name) (piece_is f.called l) ∙ driver_differs f.called (behind l) (ok.unmarked (FunctionItem f) c.has) (no_underscore_behind l) (piece_nothing l))

  find_spawner : (f : Function) → IsCps p f → function_named (converted p) (spawner_name f.called) ≡ Some (spawner_function f)
  find_spawner f c =
      find_made (spawner_function f) f.called (codes "spawn") (spawner_is f.called) (has_spawner p f c)
      (ap (bytes_eq drive_name) (spawner_is f.called) ∙ driver_differs f.called (codes "spawn") (ok.unmarked (FunctionItem f) c.has) no_bar_spawn spawn_nothing)

  find_driver : (f : Function) → IsCps p f → function_named (converted p) drive_name ≡ Some drive_function
  find_driver f c = made_there p (routines p) (spawner_function f) drive_name (has_spawner p f c)

  find_native : (f : Function) → IsKept p f → function_named (converted p) f.called ≡ Some (kept_function f)
  find_native f k = go (routines p)
    where
      go : (rs : List Routine) → function_named (converted_with p rs) f.called ≡ Some (kept_function f)
      go [] = ap (λ ys. function_named ys f.called) (sym (append_empty (kept_items p))) ∙ find_kept p [] f.called f (ok.found f k.has) k.mode
      go (r ∷ rs) =
          looked_up p r rs f.called
          ∙ (ap (λ b. cond b (Some drive_function) (function_named (behind_driver p (r ∷ rs)) f.called)) (unlike_driver f.called (ok.unmarked (FunctionItem f) k.has))
          ∙ find_kept p _ f.called f (ok.found f k.has) k.mode)

  -- no function that stays is called as a cps function
  no_other : (f g : Function) → IsCps p f → Has (FunctionItem g) p → is_cps_mode g.mode ≡ false → g.called ≡ f.called → ⊥
  no_other f g c h m e =
      let z : Some g ≡ Some f = sym (ok.found g h) ∙ ap (function_named p) e ∙ ok.found f c.has in
      let same : g ≡ f = cc in
      let wrong : true ≡ false = sym c.mode ∙ sym (ap (λ k. is_cps_mode k.mode) same) ∙ m in absurd (cc)

  find_main : (f : Function) → IsCps p f → f.called ≡ main_name → function_named (converted p) main_name ≡ Some main_function
  find_main f c e =
      made_there p (routines p) (spawner_function f) main_name (has_spawner p f c)
      ∙ (pass_kept p (all_boxes (routines p) ++ behind_boxes p (routines p)) main_name
      (λ g h m. texts_differ g.called main_name (λ (k : g.called ≡ main_name). no_other f g c h m (k ∙ sym e)))
      ∙ (skip_functions (all_boxes (routines p)) (behind_boxes p (routines p)) main_name (all_boxes_are (routines p))
      ∙ (pass_functions (all_made p (routines p)) (main_if (is_cps (function_named p main_name))) main_name (made_marked p ok main_name refl)
      ∙ ap (λ b. function_named (main_if b) main_name) (ap is_cps (ap (function_named p) (sym e) ∙ ok.found f c.has) ∙ c.mode))))

pub functions_found : FunctionsAreFound
functions_found p ok = record { pieces = find_piece p ok; spawners = find_spawner p ok; driver = find_driver p ok; kept = find_native p ok; main = find_main p ok }
