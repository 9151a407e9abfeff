-- The globals and the declarations of `extern` functions of an event program are those of its source.
use Rattle.std.proofs.Common.{◌≡◌, ℕ, Bool, true, false, List, [], ◌∷◌, ◌++◌, map, refl, sym, ◌∙◌, ap}
use Rattle.cpc_base.proofs.Lists.{append_empty}
use Rattle.cpc_tree.specs.declared.program.Mode.TheVariants.{Native, Extern, Detached, Cps}
use Rattle.cpc_tree.specs.Syntax.{Function, Item, StructItem, GlobalItem, PrototypeItem, FunctionItem, Program}
use Rattle.cpc_tree.specs.Typing.{function_named}
use Rattle.cpc_meaning.specs.Start.{main_name}
use Rattle.cpc_meaning.specs.Threads.{is_cps_mode, is_cps}
use Rattle.cpc_convert_common.specs.Converted.{prototype, function_item}
use Rattle.cpc_chains_store_laws.specs.Driver.{drive_function}
use Rattle.cpc_convert_routines.specs.Kept.{kept_function, item_unless, kept_items, routines}
use Rattle.cpc_chains_event.specs.Converted.{all_structs, all_boxes, all_made, main_if, converted_with, converted}
use Rattle.cpc_chains_event.specs.Pieces.{leader_function}
use Rattle.cpc_convert_routines.specs.Routines.{Routine}
use Rattle.cpc_chains_event.proofs.Structs.{AreStructs, NoneAre, OneIs, all_structs_are, all_boxes_are}
use Rattle.cpc_chains_event.proofs.StructsThere.{behind_boxes}
use Rattle.cpc_chains_event.proofs.Lookups.{behind_driver}
use Rattle.cpc_chains_laws.specs.Shape.Shape.{globals, externs}

-- functions as items
functions_have : (fs : List Function) (rest : List Item) → (globals (map function_item fs ++ rest) ≡ globals rest) × (externs (map function_item fs ++ rest) ≡ externs rest)
functions_have [] rest = (refl, refl)
functions_have (f ∷ fs) rest = functions_have fs rest

structs_have : (xs rest : List Item) → AreStructs xs → (globals (xs ++ rest) ≡ globals rest) × (externs (xs ++ rest) ≡ externs rest)
structs_have _ rest NoneAre = (refl, refl)
structs_have _ rest (OneIs tag fs xs m more) = structs_have xs rest more

-- prototypes of what is made, which is native
abbrev Alike : List Item → List Item → Type 0
Alike xs ys = (globals xs ≡ globals ys) × (externs xs ≡ externs ys)

leaders_have : (p : Program) (r : Routine) (ns : List ℕ) (fs : List Function) (rest : List Item) → Alike (map prototype fs ++ rest) rest → Alike (map prototype (map (leader_function p r) ns ++ fs) ++ rest) rest
leaders_have p r [] fs rest h = h
leaders_have p r (n ∷ ns) fs rest h = leaders_have p r ns fs rest h

prototypes_have : (p : Program) (rs : List Routine) (rest : List Item) → Alike (map prototype (all_made p rs) ++ rest) rest
prototypes_have p [] rest = (refl, refl)
prototypes_have p (r ∷ rs) rest = leaders_have p r r.split.leaders (all_made p rs) rest (prototypes_have p rs rest)

main_has : (b : Bool) → Alike (main_if b) []
main_has true = (refl, refl)
main_has false = (refl, refl)

-- what stays
kept_globals : (items rest : List Item) → globals rest ≡ [] → globals (kept_items items ++ rest) ≡ globals items
kept_globals [] rest e = e
kept_globals (StructItem t fs ∷ items) rest e = kept_globals items rest e
kept_globals (GlobalItem x t s ∷ items) rest e = ap (λ xs. GlobalItem x t s ∷ xs) (kept_globals items rest e)
kept_globals (PrototypeItem m f r ps ∷ items) rest e = go (is_cps_mode m) (kept_globals items rest e)
  where
    go : (b : Bool) → globals (kept_items items ++ rest) ≡ globals items → globals (item_unless b (PrototypeItem m f r ps) (kept_items items) ++ rest) ≡ globals items
    go true i = i
    go false i = i
kept_globals (FunctionItem f ∷ items) rest e = go (is_cps_mode f.mode) (kept_globals items rest e)
  where
    go : (b : Bool) → globals (kept_items items ++ rest) ≡ globals items → globals (item_unless b (FunctionItem (kept_function f)) (kept_items items) ++ rest) ≡ globals items
    go true i = i
    go false i = i

kept_externs : (items rest : List Item) → externs rest ≡ [] → externs (kept_items items ++ rest) ≡ externs items
kept_externs [] rest e = e
kept_externs (StructItem t fs ∷ items) rest e = kept_externs items rest e
kept_externs (GlobalItem x t s ∷ items) rest e = kept_externs items rest e
kept_externs (PrototypeItem Extern f r ps ∷ items) rest e = ap (λ xs. PrototypeItem Extern f r ps ∷ xs) (kept_externs items rest e)
kept_externs (PrototypeItem Native f r ps ∷ items) rest e = kept_externs items rest e
kept_externs (PrototypeItem Detached f r ps ∷ items) rest e = kept_externs items rest e
kept_externs (PrototypeItem Cps f r ps ∷ items) rest e = kept_externs items rest e
kept_externs (FunctionItem f ∷ items) rest e = go (is_cps_mode f.mode) (kept_externs items rest e)
  where
    go : (b : Bool) → externs (kept_items items ++ rest) ≡ externs items → externs (item_unless b (FunctionItem (kept_function f)) (kept_items items) ++ rest) ≡ externs items
    go true i = i
    go false i = i

module _ (p : Program) where
  made_have : (rs : List Routine) → Alike (all_boxes rs ++ behind_boxes p rs) []
  made_have rs =
      let a = structs_have (all_boxes rs) (behind_boxes p rs) (all_boxes_are rs) in
      let b = functions_have (all_made p rs) (main_if (is_cps (function_named p main_name))) in
      let c = main_has (is_cps (function_named p main_name)) in
      (a.0 ∙ (b.0 ∙ c.0), a.1 ∙ (b.1 ∙ c.1))

  with_have : (rs : List Routine) → Alike (converted_with p rs) p
  with_have [] = (ap globals (sym (append_empty (kept_items p))) ∙ kept_globals p [] refl, ap externs (sym (append_empty (kept_items p))) ∙ kept_externs p [] refl)
  with_have (r ∷ rs) =
      let rest = FunctionItem drive_function ∷ behind_driver p (r ∷ rs) in
      let a = structs_have (all_structs p (r ∷ rs)) (map prototype (all_made p (r ∷ rs)) ++ rest) (all_structs_are p (r ∷ rs)) in
      let b = prototypes_have p (r ∷ rs) rest in
      let c = made_have (r ∷ rs) in
      (a.0 ∙ (b.0 ∙ kept_globals p (all_boxes (r ∷ rs) ++ behind_boxes p (r ∷ rs)) c.0), a.1 ∙ (b.1 ∙ kept_externs p (all_boxes (r ∷ rs) ++ behind_boxes p (r ∷ rs)) c.1))

  pub same_globals : globals (converted p) ≡ globals p
  same_globals = (with_have (routines p)).0

  pub same_externs : externs (converted p) ≡ externs p
  same_externs = (with_have (routines p)).1
