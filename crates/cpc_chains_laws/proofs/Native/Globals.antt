-- The globals of the event program are those of the program: what is made has none.
use Rattle.std.proofs.Common.{◌≡◌, Bool, true, false, List, [], ◌∷◌, ◌++◌, map, Option, Some, None, refl, sym, ◌∙◌, ap}
use Rattle.cpc_base.specs.Bytes.{Text}
use Rattle.cpc_base.proofs.Lists.{append_empty}
use Rattle.cpc_store.specs.declared.values.Class.TheVariants.{Static}
use Rattle.cpc_store.specs.declared.values.Scalar.{Scalar}
use Rattle.cpc_store.specs.Store.{Store, empty_store, alloc}
use Rattle.cpc_tree.specs.Syntax.{Ty, Expr, Function, Item, StructItem, GlobalItem, PrototypeItem, FunctionItem, Program}
use Rattle.cpc_tree.specs.Typing.{cells, function_named}
use Rattle.cpc_meaning.specs.Answer.{Answer, Gives, Faults, NoAnswer, ◌>>=◌, needed}
use Rattle.cpc_meaning.specs.Layout.{layout}
use Rattle.cpc_meaning.specs.Start.{main_name, start_cells, globals, make_globals}
use Rattle.cpc_meaning.specs.Threads.{is_cps_mode, is_cps}
use Rattle.cpc_convert_common.specs.Converted.{function_item, prototype}
use Rattle.cpc_convert_common.specs.Members.{Has, OnTop, Below}
use Rattle.cpc_convert_image_laws.specs.Held.{beside}
use Rattle.cpc_convert_image_laws.specs.Relations.{Extends}
use Rattle.cpc_convert_routines.specs.Kept.{kept_function, item_unless, kept_items, routines}
use Rattle.cpc_chains_event.specs.Converted.{all_structs, all_boxes, all_made, main_if, converted_with, converted}
use Rattle.cpc_convert_routines.specs.Routines.{Routine}
use Rattle.cpc_chains_event.proofs.BoxesThere.{structs_there}
use Rattle.cpc_chains_event.proofs.Structs.{AreStructs, NoneAre, OneIs, all_structs_are, all_boxes_are}
use Rattle.cpc_lifted_laws.specs.Native.Convertible.{GlobalsComplete}
use Rattle.cpc_chains_laws.specs.Native.Laws.{GlobalsStay}
use Rattle.cpc_lifted_laws.proofs.Native.Layouts.{layout_same}

-- ---- what is made has no globals

module _ (q : Program) where
  skip_structs : (xs ys : List Item) (s : Store) → AreStructs xs → make_globals q (xs ++ ys) s ≡ make_globals q ys s
  skip_structs _ ys s NoneAre = refl
  skip_structs _ ys s (OneIs tag fs its m h) = skip_structs its ys s h

  skip_prototypes : (fs : List Function) (ys : List Item) (s : Store) → make_globals q (map prototype fs ++ ys) s ≡ make_globals q ys s
  skip_prototypes [] ys s = refl
  skip_prototypes (f ∷ fs) ys s = skip_prototypes fs ys s

  skip_functions : (fs : List Function) (ys : List Item) (s : Store) → make_globals q (map function_item fs ++ ys) s ≡ make_globals q ys s
  skip_functions [] ys s = refl
  skip_functions (f ∷ fs) ys s = skip_functions fs ys s

  skip_main : (b : Bool) (s : Store) → make_globals q (main_if b) s ≡ Gives s
  skip_main true s = refl
  skip_main false s = refl

  -- ---- what stays

  module _ (p : Program) (types : Extends p q) (tail : List Item) (none : (s : Store) → make_globals q tail s ≡ Gives s) where
    -- the types of globals among these items are complete
    abbrev Complete : List Item → Type 0
    Complete its = (x : Text) (t : Ty) (start : Option Expr) → Has (GlobalItem x t start) its → (ts : List Ty) × (cells p t ≡ Some ts)

    kept_globals : (its : List Item) → Complete its → (s : Store) → make_globals q (kept_items its ++ tail) s ≡ make_globals p its s
    kept_globals [] full s = none s
    kept_globals (StructItem tag fs ∷ its) full s = kept_globals its (λ x t start h. full x t start (Below _ _ _ h)) s
    kept_globals (PrototypeItem m f r ps ∷ its) full s = go (is_cps_mode m) (kept_globals its (λ x t start h. full x t start (Below _ _ _ h)) s)
      where
        go : (b : Bool) → make_globals q (kept_items its ++ tail) s ≡ make_globals p its s → make_globals q (item_unless b (PrototypeItem m f r ps) (kept_items its) ++ tail) s ≡ make_globals p its s
        go true e = e
        go false e = e
    kept_globals (FunctionItem f ∷ its) full s = go (is_cps_mode f.mode) (kept_globals its (λ x t start h. full x t start (Below _ _ _ h)) s)
      where
        go : (b : Bool) → make_globals q (kept_items its ++ tail) s ≡ make_globals p its s → make_globals q (item_unless b (FunctionItem (kept_function f)) (kept_items its) ++ tail) s ≡ make_globals p its s
        go true e = e
        go false e = e
    kept_globals (GlobalItem x t start ∷ its) full s =
        let w = full x t start (OnTop _ _) in
        ap (λ o. needed o >>= λ xs. make_globals q (kept_items its ++ tail) (alloc Static (start_cells start xs) s)) (layout_same p q types t w.0 w.1)
        ∙ go (layout p t) (λ u. kept_globals its (λ x t start h. full x t start (Below _ _ _ h)) u)
      where
        go : (o : Option (List Scalar)) → ((u : Store) → make_globals q (kept_items its ++ tail) u ≡ make_globals p its u)
            → (needed o >>= λ xs. make_globals q (kept_items its ++ tail) (alloc Static (start_cells start xs) s)) ≡ (needed o >>= λ xs. make_globals p its (alloc Static (start_cells start xs) s))
        go None rest = refl
        go (Some xs) rest = rest (alloc Static (start_cells start xs) s)

all_globals : (p q : Program) → Extends p q → GlobalsComplete p → (rs : List Routine) (s : Store) → make_globals q (converted_with p rs) s ≡ make_globals p p s
all_globals p q types full [] s = ap (λ xs. make_globals q xs s) (sym (append_empty (kept_items p))) ∙ kept_globals q p types [] (λ s. refl) p full s
all_globals p q types full (r ∷ rs) s =
    skip_structs q (all_structs p (r ∷ rs)) _ s (all_structs_are p (r ∷ rs))
    ∙ (skip_prototypes q (all_made p (r ∷ rs)) _ s
    ∙ kept_globals q p types _
    (λ s. skip_structs q (all_boxes (r ∷ rs)) _ s (all_boxes_are (r ∷ rs)) ∙ (skip_functions q (all_made p (r ∷ rs)) _ s ∙ skip_main q (is_cps (function_named p main_name)) s)) p full s)

-- ---- there are no frames

abbrev NoFrames : Answer Store → Type 0
NoFrames (Gives s) = beside [] s ≡ s
NoFrames (Faults fault) = Unit {0}
NoFrames NoAnswer = Unit {0}

none_come : (p : Program) (items : List Item) (s : Store) → beside [] s ≡ s → NoFrames (make_globals p items s)
none_come p [] s e = e
none_come p (GlobalItem x t start ∷ items) s e = go (layout p t) (λ xs. none_come p items (alloc Static (start_cells start xs) s) (ap (alloc Static (start_cells start xs)) e))
  where
    go : (o : Option (List Scalar)) → ((xs : List Scalar) → NoFrames (make_globals p items (alloc Static (start_cells start xs) s))) → NoFrames (needed o >>= λ xs. make_globals p items (alloc Static (start_cells start xs) s))
    go None rest = tt
    go (Some xs) rest = rest xs
none_come p (StructItem tag fs ∷ items) s e = none_come p items s e
none_come p (PrototypeItem m f r ps ∷ items) s e = none_come p items s e
none_come p (FunctionItem f ∷ items) s e = none_come p items s e

none_there : (a : Answer Store) → NoFrames a → globals a ≡ beside [] (globals a)
none_there (Gives s) e = sym e
none_there (Faults fault) e = refl
none_there NoAnswer e = refl

pub globals_stay : GlobalsStay
globals_stay p h =
    ap globals (all_globals p (converted p) (structs_there p h.named).types h.globals (routines p) empty_store) ∙ none_there (make_globals p p empty_store) (none_come p p empty_store refl)
