-- Rows of structs, which no name of a function or a global means.
use Rattle.std.proofs.Common.{◌≡◌, ℕ, Bool, true, false, List, [], ◌∷◌, ◌++◌, map, decimal, refl, ◌∙◌, ap, codes}
use Rattle.cpc_base.specs.Bytes.{Text}
use Rattle.cpc_tree.specs.Syntax.{Ty, Variable, Item, StructItem}
use Rattle.cpc_tree.specs.Typing.{item_named, function_named, is_scalar}
use Rattle.cpc_tree.specs.Syntax.{Program}
use Rattle.cpc_convert_common.specs.Marks.{has_marks}
use Rattle.cpc_convert_common.proofs.Marks.{marked_has}
use Rattle.cpc_forms.specs.Flow.{Start, At}
use Rattle.cpc_chains_event.proofs.Apart.{behind, piece_is, value_is, box_is}
use Rattle.cpc_convert_routines.specs.Routines.{Routine}
use Rattle.cpc_chains_event.specs.Frames.{value_struct_if, start_struct, leader_struct, structs_of, box_of, boxes_of}
use Rattle.cpc_chains_event.specs.Converted.{all_structs, all_boxes}

-- all of these are structs, whose tags have marks
pub data AreStructs : List Item → Type 0 where
  NoneAre : AreStructs []
  OneIs : (tag : Text) (fs : List Variable) (its : List Item) → has_marks tag ≡ true → AreStructs its → AreStructs (StructItem tag fs ∷ its)

structs_append : (xs ys : List Item) → AreStructs xs → AreStructs ys → AreStructs (xs ++ ys)
structs_append _ ys NoneAre h = h
structs_append _ ys (OneIs tag fs its m g) h = OneIs tag fs (its ++ ys) m (structs_append its ys g h)

-- they are passed by
pub skip_functions : (xs ys : List Item) (x : Text) → AreStructs xs → function_named (xs ++ ys) x ≡ function_named ys x
skip_functions _ ys x NoneAre = refl
skip_functions _ ys x (OneIs tag fs its m h) = skip_functions its ys x h

pub skip_names : (xs ys : List Item) (n : ℕ) (x : Text) → AreStructs xs → item_named n (xs ++ ys) x ≡ item_named n ys x
skip_names _ ys n x NoneAre = refl
skip_names _ ys n x (OneIs tag fs its m h) = skip_names its ys n x h

-- ---- those that are made

leaders_are : (p : Program) (r : Routine) (ns : List ℕ) → AreStructs (map (leader_struct p r) ns)
leaders_are p r [] = NoneAre
leaders_are p r (n ∷ ns) = OneIs _ _ _ (ap has_marks (piece_is r.function.called (At n)) ∙ marked_has r.function.called (behind (At n))) (leaders_are p r ns)

value_is_struct : (b : Bool) (f : Text) (t : Ty) → AreStructs (value_struct_if b f t)
value_is_struct true f t = OneIs _ _ _ (ap has_marks (value_is f) ∙ marked_has f (codes "value")) NoneAre
value_is_struct false f t = NoneAre

structs_of_are : (p : Program) (r : Routine) → AreStructs (structs_of p r)
structs_of_are p r =
    structs_append (value_struct_if (is_scalar r.function.result) r.function.called r.function.result) (start_struct r.function ∷ map (leader_struct p r) r.split.leaders) (value_is_struct (is_scalar r.function.result) r.function.called r.function.result)
    (OneIs _ _ _ (ap has_marks (piece_is r.function.called Start) ∙ marked_has r.function.called (behind Start)) (leaders_are p r r.split.leaders))

pub all_structs_are : (p : Program) (rs : List Routine) → AreStructs (all_structs p rs)
all_structs_are p [] = NoneAre
all_structs_are p (r ∷ rs) = structs_append (structs_of p r) (all_structs p rs) (structs_of_are p r) (all_structs_are p rs)

boxes_are : (r : Routine) (ks : List ℕ) → AreStructs (map (box_of r) ks)
boxes_are r [] = NoneAre
boxes_are r (k ∷ ks) = OneIs _ _ _ (ap has_marks (box_is r.function.called k) ∙ marked_has r.function.called (codes "box" ++ decimal k)) (boxes_are r ks)

pub all_boxes_are : (rs : List Routine) → AreStructs (all_boxes rs)
all_boxes_are [] = NoneAre
all_boxes_are (r ∷ rs) = structs_append (boxes_of r) (all_boxes rs) (boxes_are r r.boxes) (all_boxes_are rs)
