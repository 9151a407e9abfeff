-- The items that stay, one by one.
use Rattle.std.proofs.Common.{◌≡◌, ℕ, ◌+◌, ◌<◌, Bool, true, false, List, [], ◌∷◌, ◌++◌, map, length, get_or, take, slice_get, Some, option_map, append_assoc, refl, sym, ap, ◌∙◌}
use Rattle.std.proofs.lemmas.List.{map-append}
use Rattle.std.proofs.lemmas.Option.{slice_get-map, slice_get_read}
use Rattle.cpc_tree.specs.Syntax.{Item, StructItem, GlobalItem, PrototypeItem, FunctionItem}
use Rattle.cpc_meaning.specs.Threads.{is_cps_mode}
use Rattle.cpc_shapes.proofs.Indexes.{next_item}
use Rattle.cpc_convert_routines.specs.Kept.{item_unless, kept_function, kept_items}

-- two functions that agree on a list agree on its elements
pub agree_at : {A B : Type 0} (f g : A → B) (xs : List A) (i : ℕ) (x : A) → map f xs ≡ map g xs → i < length xs → x ≡ get_or xs i x → f x ≡ g x
agree_at {A} {B} f g xs i x e lt is =
    let at : slice_get xs i ≡ Some x = slice_get_read xs (length xs) i x refl lt is in
    let both : Some (f x) ≡ Some (g x) = sym (ap (option_map f) at) ∙ (sym (slice_get-map f xs i) ∙ (ap (λ (l : List B). slice_get l i) e ∙ (slice_get-map g xs i ∙ ap (option_map g) at))) in
    cc

item_before : (b : Bool) (x : Item) (xs ys : List Item) → item_unless b x (xs ++ ys) ≡ item_unless b x xs ++ ys
item_before true x xs ys = refl
item_before false x xs ys = refl

kept_both : (xs ys : List Item) → kept_items (xs ++ ys) ≡ kept_items xs ++ kept_items ys
kept_both [] ys = refl
kept_both (PrototypeItem mode f r ps ∷ xs) ys = ap (item_unless (is_cps_mode mode) (PrototypeItem mode f r ps)) (kept_both xs ys) ∙ item_before (is_cps_mode mode) (PrototypeItem mode f r ps) (kept_items xs) (kept_items ys)
kept_both (FunctionItem f ∷ xs) ys = ap (item_unless (is_cps_mode f.mode) (FunctionItem (kept_function f))) (kept_both xs ys) ∙ item_before (is_cps_mode f.mode) (FunctionItem (kept_function f)) (kept_items xs) (kept_items ys)
kept_both (StructItem t fs ∷ xs) ys = ap (λ u. StructItem t fs ∷ u) (kept_both xs ys)
kept_both (GlobalItem x t o ∷ xs) ys = ap (λ u. GlobalItem x t o ∷ u) (kept_both xs ys)

-- one more item
pub keep_more : {A : Type 0} (g : A → Item) (start old new : List Item) (xs : List A) (i : ℕ) (x : A) → i < length xs → x ≡ get_or xs i x → old ≡ start ++ kept_items (map g (take i xs)) → new ≡ old ++ kept_items (g x ∷ [])
    → new ≡ start ++ kept_items (map g (take (i + 1) xs))
keep_more g start old new xs i x lt is before one =
    one ∙ (ap (λ u. u ++ kept_items (g x ∷ [])) before ∙ (append_assoc start (kept_items (map g (take i xs))) (kept_items (g x ∷ []))
    ∙ (ap (λ u. start ++ u) (sym (kept_both (map g (take i xs)) (g x ∷ []))) ∙ (ap (λ u. start ++ kept_items u) (sym (map-append g (take i xs) (x ∷ []))) ∙ ap (λ u. start ++ kept_items (map g u)) (sym (next_item xs i x lt is))))))
