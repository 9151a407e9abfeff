-- Frames that are made, and functions that are left: rows put together.
use Rattle.std.proofs.Common.{◌≡◌, ℕ, Bool, ◌&&◌, List, [], ◌∷◌, ◌++◌, map, pos, Some, None, refl, sym, ap, ◌∙◌}
use Rattle.std.proofs.lemmas.List.{append_assoc, append-nil, map-append}
use Rattle.cpc_base.specs.Bytes.{Text}
use Rattle.cpc_num.specs.declared.kinds.Kind.TheVariants as K
use Rattle.cpc_tree.specs.Syntax as S
use Rattle.cpc_convert_image_laws.specs.Images.{Readings, image}
use Rattle.cpc_forms.specs.Flow.{At}
use Rattle.cpc_convert_flat_laws.specs.Boxes.{boxes_one, unboxes_one}
use Rattle.cpc_chains_store_laws.specs.Driver.{code_field, next_field}
use Rattle.cpc_chains_store_laws.specs.Frames.{asks_block, fills_frame, frame_through}
use Rattle.cpc_convert_flat_laws.specs.Locals.{saves_one}
use Rattle.cpc_chains_event.specs.Lines.{save_of, frame_lines, unbox_lines, patch_lines, leave_lines, hands_over}
use Rattle.cpc_convert_routines.specs.Names.{piece_name, box_tag, next_name, result_name}
use Rattle.cpc_chains_event.specs.Pieces.{fills_if, box_lines, boxing_lines}
use Rattle.cpc_convert_routines.specs.Routines.{Routine, closure_of, local_of, variable_of, is_parameter}
use Rattle.cpc_tree.specs.Typing.{is_scalar}
use Rattle.cpc_chains_lines.specs.Puts.{saves, unboxes}
use Rattle.cpc_chains_lines.specs.Written.{Written, puts}
use Rattle.cpc_chains_lines.proofs.Puts.{Rows, behind, map_both}

-- ---- a frame

-- what is written of a frame with this tag, over this one, with these variables
abbrev pub framed : Routine → Written → (pointer tag : Text) → (below : S.Expr) → List ℕ → Written
framed r u to tag below kept = puts u (asks_block to tag ∷ fills_frame (S.ENamed to) (frame_through to tag) code_field next_field tag below (map (λ k. save_of (local_of r k)) kept))

pub frame_made : (r : Routine) (leader : ℕ) (to tag : Text) (below : S.Expr) (kept : List ℕ) (u v w z : Written) → tag ≡ piece_name r.function.called (At leader) → below ≡ S.ENamed next_name → kept ≡ closure_of r (At leader)
    → v ≡ puts u (asks_block to tag ∷ []) → w ≡ puts v (fills_frame (S.ENamed to) (S.ENamed to) code_field next_field tag below []) → z ≡ puts w (map (saves r to tag) kept)
    → z ≡ puts u (frame_lines r to (At leader))
frame_made r leader to tag below kept u v w z is_tag is_below is_kept e f g =
    behind u v z (asks_block to tag ∷ []) (fills_frame (S.ENamed to) (S.ENamed to) code_field next_field tag below [] ++ map (saves r to tag) kept) e (behind v w z (fills_frame (S.ENamed to) (S.ENamed to) code_field next_field tag below []) (map (saves r to tag) kept) f g)
    ∙ (ap (λ l. puts u (asks_block to tag ∷ (fills_frame (S.ENamed to) (S.ENamed to) code_field next_field tag below [] ++ l))) (sym (map_both (saves_one (frame_through to tag)) (λ k. save_of (local_of r k)) kept))
    ∙ (ap (λ (x : Text). framed r u to x below kept) is_tag
    ∙ (ap (λ (x : S.Expr). framed r u to (piece_name r.function.called (At leader)) x kept) is_below
    ∙ ap (λ (l : List ℕ). framed r u to (piece_name r.function.called (At leader)) (S.ENamed next_name) l) is_kept)))

-- ---- a function is left

-- with a value
pub left_with : (r : Routine) (names : Readings) (e x y : S.Expr) (n : Text) (u w1 w2 w3 w4 : Written) → x ≡ S.ENamed result_name → y ≡ image names e → n ≡ next_name
    → w1 ≡ puts u (S.Assign x None y ∷ []) → w2 ≡ puts w1 (unbox_lines r) → w3 ≡ puts w2 (patch_lines (Some (S.EInteger K.Int (pos 0)))) → w4 ≡ puts w3 (hands_over n ∷ [])
    → w4 ≡ puts u (leave_lines r names (Some e))
left_with r names e x y n u w1 w2 w3 w4 is_x is_y is_n e1 e2 e3 e4 =
    let assigned : w1 ≡ puts u (S.Assign (S.ENamed result_name) None (image names e) ∷ []) = e1 ∙ (ap (λ (z : S.Expr). puts u (S.Assign z None y ∷ [])) is_x ∙ ap (λ (z : S.Expr). puts u (S.Assign (S.ENamed result_name) None z ∷ [])) is_y) in
    let given : w4 ≡ puts w3 (hands_over next_name ∷ []) = e4 ∙ ap (λ (z : Text). puts w3 (hands_over z ∷ [])) is_n in
    behind u w1 w4 (S.Assign (S.ENamed result_name) None (image names e) ∷ []) (unbox_lines r ++ (patch_lines (Some e) ++ (hands_over next_name ∷ []))) assigned
    (behind w1 w2 w4 (unbox_lines r) (patch_lines (Some e) ++ (hands_over next_name ∷ [])) e2
    (behind w2 w3 w4 (patch_lines (Some e)) (hands_over next_name ∷ []) e3 given))

-- without one
pub left_without : (r : Routine) (names : Readings) (n : Text) (u w1 w2 : Written) → n ≡ next_name → w1 ≡ puts u (unbox_lines r) → w2 ≡ puts w1 (hands_over n ∷ []) → w2 ≡ puts u (leave_lines r names None)
left_without r names n u w1 w2 is_n e1 e2 =
    let given : w2 ≡ puts w1 (hands_over next_name ∷ []) = e2 ∙ ap (λ (z : Text). puts w1 (hands_over z ∷ [])) is_n in
    behind u w1 w2 (unbox_lines r) (hands_over next_name ∷ []) e1 given

-- ---- boxes

-- the rows of boxes that are given back, and of those that are made
pub unboxes_rows : (r : Routine) → Rows (unboxes r)
unboxes_rows r xs ys = map-append (λ k. unboxes_one (local_of r k).called) xs ys

pub boxing_rows : (r : Routine) → Rows (boxing_lines r)
boxing_rows r [] ys = refl
boxing_rows r (k ∷ ks) ys = ap (λ l. box_lines r k (variable_of r k) ++ l) (boxing_rows r ks ys) ∙ sym (append_assoc (box_lines r k (variable_of r k)) (boxing_lines r ks) (boxing_lines r ys))

-- one that is made, with what is put in it
pub box_made : (r : Routine) (k : ℕ) (b : Bool) (u v w : Written) → (is_parameter r.function k && is_scalar (variable_of r k).type) ≡ b
    → v ≡ puts u (boxes_one (local_of r k).called (S.ESizeOf (S.TyStruct (box_tag r.function.called k))) ∷ []) → w ≡ puts v (fills_if b (local_of r k).called (variable_of r k).called)
    → w ≡ puts u (boxing_lines r (k ∷ []))
box_made r k b u v w is e f =
    let made = boxes_one (local_of r k).called (S.ESizeOf (S.TyStruct (box_tag r.function.called k))) in
    behind u v w (made ∷ []) (fills_if b (local_of r k).called (variable_of r k).called) e f
    ∙ (ap (λ (x : Bool). puts u (made ∷ fills_if x (local_of r k).called (variable_of r k).called)) (sym is)
    ∙ ap (puts u) (sym (append-nil (box_lines r k (variable_of r k)))))
