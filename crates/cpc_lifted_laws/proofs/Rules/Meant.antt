-- What a name stands for among items: nothing, where none declares it, and what all that declare it say.
use Rattle.std.proofs.Common.{◌≡◌, ⊎_elim, Bool, true, false, cond, List, [], ◌∷◌, ◌++◌, reverse, map, bytes_eq, refl, sym, ◌∙◌, ap, subst}
use Rattle.std.proofs.lemmas.List.{reverse-append}
use Rattle.cpc_base.specs.Bytes.{Text}
use Rattle.cpc_base.proofs.Truth.{never_both}
use Rattle.cpc_base.proofs.Lists.{append_empty}
use Rattle.cpc_tree.specs.Syntax.{Item, StructItem, GlobalItem, PrototypeItem, FunctionItem, Program}
use Rattle.cpc_tree.specs.Typing.{Meant, AGlobal, AFunction, NotMeant, parameter_type}
use Rattle.cpc_check_rules.specs.Scopes.{in_items}
use Rattle.cpc_convert_common.specs.Members.{Has, OnTop, Below}
use Rattle.cpc_convert_common.proofs.Members.{has_left, has_right, has_either}
use Rattle.cpc_lifted_laws.proofs.Rules.Items.{Declares}

-- ---- backwards

has_one : {A : Type 0} (x y : A) → Has x (y ∷ []) → (ys : List A) → Has x (y ∷ ys)
has_one _ _ (OnTop x _) ys = OnTop x ys
has_one x y (Below _ _ _ h) ys = elim h [ ]

pub from_reverse : {A : Type 0} (xs : List A) (x : A) → Has x (reverse xs) → Has x xs
from_reverse [] x h = h
from_reverse (y ∷ xs) x h = ⊎_elim (λ a. Below x y xs (from_reverse xs x a)) (λ b. has_one x y b xs) (has_either x (reverse xs) (y ∷ []) (subst (Has x) (reverse-append (y ∷ []) xs) h))

pub to_reverse : {A : Type 0} (xs : List A) (x : A) → Has x xs → Has x (reverse xs)
to_reverse _ _ (OnTop x xs) = subst (Has x) (sym (reverse-append (x ∷ []) xs)) (has_right x (reverse xs) (x ∷ []) (OnTop x []))
to_reverse _ x (Below _ y xs h) = subst (Has x) (sym (reverse-append (y ∷ []) xs)) (has_left x (reverse xs) (y ∷ []) (to_reverse xs x h))

-- ---- look-ups

not_so : (b : Bool) (m n : Meant) → (b ≡ true → ⊥) → cond b m n ≡ n
not_so true m n h = absurd (h refl)
not_so false m n h = refl

-- items that do not declare the name are passed by
pub pass_by : (x : Text) (xs ys : Program) → ((i : Item) → Has i xs → Declares x i → ⊥) → in_items (xs ++ ys) x ≡ in_items ys x
pass_by x [] ys h = refl
pass_by x (StructItem t fs ∷ xs) ys h = pass_by x xs ys (λ i k. h i (Below _ _ xs k))
pass_by x (GlobalItem g t s ∷ xs) ys h = not_so (bytes_eq g x) (AGlobal 0 t) _ (h _ (OnTop _ xs)) ∙ pass_by x xs ys (λ i k. h i (Below _ _ xs k))
pass_by x (PrototypeItem m f r ps ∷ xs) ys h = not_so (bytes_eq f x) (AFunction m r (map parameter_type ps)) _ (h _ (OnTop _ xs)) ∙ pass_by x xs ys (λ i k. h i (Below _ _ xs k))
pass_by x (FunctionItem f ∷ xs) ys h =
    not_so (bytes_eq f.called x) (AFunction f.mode f.result (map parameter_type f.parameters)) _ (h _ (OnTop _ xs)) ∙ pass_by x xs ys (λ i k. h i (Below _ _ xs k))

-- a name that none declares stands for nothing
pub nothing_meant : (x : Text) (xs : Program) → ((i : Item) → Has i xs → Declares x i → ⊥) → in_items (reverse xs) x ≡ NotMeant
nothing_meant x xs h = ap (λ ys. in_items ys x) (sym (append_empty (reverse xs))) ∙ pass_by x (reverse xs) [] (λ i k. h i (from_reverse xs i k))

-- behind items that do not declare it, it stands for what it stood for
pub behind_meant : (x : Text) (xs ys : Program) → ((i : Item) → Has i ys → Declares x i → ⊥) → in_items (reverse (xs ++ ys)) x ≡ in_items (reverse xs) x
behind_meant x xs ys h = ap (λ zs. in_items zs x) (reverse-append xs ys) ∙ pass_by x (reverse ys) (reverse xs) (λ i k. h i (from_reverse ys i k))

-- what an item says of the name that it declares
abbrev pub said : Item → Meant
said (StructItem tag fs) = NotMeant
said (GlobalItem g t s) = AGlobal 0 t
said (PrototypeItem m f r ps) = AFunction m r (map parameter_type ps)
said (FunctionItem f) = AFunction f.mode f.result (map parameter_type f.parameters)

agree_one : (b : Bool) (a rest m : Meant) → (b ≡ true → a ≡ m) → (b ≡ false → rest ≡ m) → cond b a rest ≡ m
agree_one true a rest m h g = h refl
agree_one false a rest m h g = g refl

-- where all items that declare a name say the same of it, and one does, it stands for that
one_said : (x : Text) (m : Meant) (xs : Program) → ((i : Item) → Has i xs → Declares x i → said i ≡ m) → (i : Item) → Has i xs → Declares x i → in_items xs x ≡ m
one_said x m [] all i h d = elim h [ ]
one_said x m (StructItem t fs ∷ xs) all _ (OnTop _ _) d = absurd d
one_said x m (StructItem t fs ∷ xs) all i (Below _ _ _ h) d = one_said x m xs (λ j k. all j (Below _ _ xs k)) i h d
one_said x m (GlobalItem g t s ∷ xs) all _ (OnTop _ _) d = agree_one (bytes_eq g x) _ _ m (all _ (OnTop _ xs)) (λ e. absurd (never_both (bytes_eq g x) d e))
one_said x m (GlobalItem g t s ∷ xs) all i (Below _ _ _ h) d = agree_one (bytes_eq g x) _ _ m (all _ (OnTop _ xs)) (λ e. one_said x m xs (λ j k. all j (Below _ _ xs k)) i h d)
one_said x m (PrototypeItem n f r ps ∷ xs) all _ (OnTop _ _) d = agree_one (bytes_eq f x) _ _ m (all _ (OnTop _ xs)) (λ e. absurd (never_both (bytes_eq f x) d e))
one_said x m (PrototypeItem n f r ps ∷ xs) all i (Below _ _ _ h) d = agree_one (bytes_eq f x) _ _ m (all _ (OnTop _ xs)) (λ e. one_said x m xs (λ j k. all j (Below _ _ xs k)) i h d)
one_said x m (FunctionItem f ∷ xs) all _ (OnTop _ _) d = agree_one (bytes_eq f.called x) _ _ m (all _ (OnTop _ xs)) (λ e. absurd (never_both (bytes_eq f.called x) d e))
one_said x m (FunctionItem f ∷ xs) all i (Below _ _ _ h) d = agree_one (bytes_eq f.called x) _ _ m (all _ (OnTop _ xs)) (λ e. one_said x m xs (λ j k. all j (Below _ _ xs k)) i h d)

pub all_said : (x : Text) (m : Meant) (xs : Program) → ((i : Item) → Has i xs → Declares x i → said i ≡ m) → (i : Item) → Has i xs → Declares x i → in_items (reverse xs) x ≡ m
all_said x m xs all i h d = one_said x m (reverse xs) (λ j k. all j (from_reverse xs j k)) i (to_reverse xs i h) d
