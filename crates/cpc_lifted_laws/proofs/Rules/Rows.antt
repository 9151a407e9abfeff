-- Rows of items at one place: what they break, item by item, and lists in which each name stands once.
use Rattle.std.proofs.Common.{◌≡◌, ⊎_elim, Bool, true, false, cond, List, [], ◌∷◌, ◌++◌, map, refl, sym, ap, subst, append_assoc, append-nil}
use Rattle.cpc_base.specs.Bytes.{Text}
use Rattle.cpc_base.specs.declared.stop.Dialect.{Dialect}
use Rattle.cpc_tree.specs.Syntax.{Item, StructItem, GlobalItem, PrototypeItem, FunctionItem, Program}
use Rattle.cpc_check_rules.specs.Rule.{Broken}
use Rattle.cpc_check_rules.specs.ItemRules.{item_breaks, items_breaks}
use Rattle.cpc_check_rules.specs.Rules.{is_main, has_main}
use Rattle.cpc_check_laws.proofs.Native.NativeValues.{left_none, right_none, both_none}
use Rattle.cpc_check_laws.proofs.Native.OnePlace.{function_here, item_here, item_again}
use Rattle.cpc_convert_common.specs.Members.{Has, OnTop, Below}
use Rattle.cpc_convert_common.proofs.Members.{has_left, has_either}

-- what items break at one place, behind these
abbrev pub rows : Dialect → Program → Program → Program → Broken
rows dialect program before xs = items_breaks dialect program before (map item_here xs)

-- an item that breaks no rule before a row that breaks none
pub row_more : (dialect : Dialect) (program before : Program) (x : Item) (xs : Program) → item_breaks dialect program before (item_here x) ≡ [] → rows dialect program (before ++ x ∷ []) xs ≡ []
    → rows dialect program before (x ∷ xs) ≡ []
row_more dialect program before x xs e f = both_none _ _ e (subst (λ y. items_breaks dialect program (before ++ y ∷ []) (map item_here xs) ≡ []) (sym (item_again x)) f)

-- the first item of a row
pub row_first : (dialect : Dialect) (program before : Program) (x : Item) (xs : Program) → rows dialect program before (x ∷ xs) ≡ [] → item_breaks dialect program before (item_here x) ≡ []
row_first dialect program before x xs h = left_none _ _ h

-- and the others
pub row_rest : (dialect : Dialect) (program before : Program) (x : Item) (xs : Program) → rows dialect program before (x ∷ xs) ≡ [] → rows dialect program (before ++ x ∷ []) xs ≡ []
row_rest dialect program before x xs h =
    subst (λ y. items_breaks dialect program (before ++ y ∷ []) (map item_here xs) ≡ []) (item_again x) (right_none (item_breaks dialect program before (item_here x)) _ h)

-- one row behind another
pub rows_append : (dialect : Dialect) (program before xs ys : Program) → rows dialect program before xs ≡ [] → rows dialect program (before ++ xs) ys ≡ [] → rows dialect program before (xs ++ ys) ≡ []
rows_append dialect program before [] ys h g = subst (λ b. rows dialect program b ys ≡ []) (append-nil before) g
rows_append dialect program before (x ∷ xs) ys h g =
    row_more dialect program before x (xs ++ ys) (row_first dialect program before x xs h)
    (rows_append dialect program (before ++ x ∷ []) xs ys (row_rest dialect program before x xs h) (subst (λ b. rows dialect program b ys ≡ []) (sym (append_assoc before (x ∷ []) xs)) g))

-- a row of which each item breaks no rule behind those before it
pub each_row : (dialect : Dialect) (program before xs : Program) → ((front : Program) (x : Item) (back : Program) → xs ≡ front ++ x ∷ back → item_breaks dialect program (before ++ front) (item_here x) ≡ [])
    → rows dialect program before xs ≡ []
each_row dialect program before [] h = refl
each_row dialect program before (x ∷ xs) h =
    row_more dialect program before x xs (subst (λ b. item_breaks dialect program b (item_here x) ≡ []) (append-nil before) (h [] x xs refl))
    (each_row dialect program (before ++ x ∷ []) xs
    (λ front y back e. subst (λ b. item_breaks dialect program b (item_here y) ≡ []) (sym (append_assoc before (x ∷ []) front)) (h (x ∷ front) y back (ap (λ zs. x ∷ zs) e))))

-- an item of a row breaks no rule behind those before it
pub record RowOf (dialect : Dialect) (program before xs : Program) (x : Item) : Type 0 where
  pub front : Program
  pub back : Program
  pub is : xs ≡ front ++ x ∷ back
  pub fine : item_breaks dialect program (before ++ front) (item_here x) ≡ []

pub row_of : (dialect : Dialect) (program before xs : Program) → rows dialect program before xs ≡ [] → (x : Item) → Has x xs → RowOf dialect program before xs x
row_of dialect program before _ h _ (OnTop x xs) =
    record { front = []; back = xs; is = refl; fine = subst (λ b. item_breaks dialect program b (item_here x) ≡ []) (sym (append-nil before)) (row_first dialect program before x xs h) }
row_of dialect program before _ h x (Below _ y xs k) =
    let r = row_of dialect program (before ++ y ∷ []) xs (row_rest dialect program before y xs h) x k in
    record {
      front = y ∷ r.front;
      back = r.back;
      is = ap (λ zs. y ∷ zs) r.is;
      fine = subst (λ b. item_breaks dialect program b (item_here x) ≡ []) (append_assoc before (y ∷ []) r.front) r.fine;
    }

-- there is a `main`, also behind other items
pub main_behind : (xs ys : Program) → has_main (map item_here ys) ≡ true → has_main (map item_here (xs ++ ys)) ≡ true
main_behind [] ys h = h
main_behind (StructItem tag fs ∷ xs) ys h = main_behind xs ys h
main_behind (GlobalItem x t start ∷ xs) ys h = main_behind xs ys h
main_behind (PrototypeItem mode x r ps ∷ xs) ys h = main_behind xs ys h
main_behind (FunctionItem f ∷ xs) ys h = go (is_main (function_here f)) (main_behind xs ys h)
  where
    go : (b : Bool) → has_main (map item_here (xs ++ ys)) ≡ true → cond b true (has_main (map item_here (xs ++ ys))) ≡ true
    go true e = refl
    go false e = e

-- ---- each once

-- a list in which none has the name of one that comes after it
pub data Once {A : Type 0} (called : A → Text) : List A → Type 0 where
  NoneOnce : Once called []
  AndOnce : (x : A) (xs : List A) → ((y : A) → Has y xs → ¬ (called x ≡ called y)) → Once called xs → Once called (x ∷ xs)

pub once_both : {A : Type 0} (called : A → Text) (xs ys : List A) → Once called xs → Once called ys → ((x y : A) → Has x xs → Has y ys → ¬ (called x ≡ called y)) → Once called (xs ++ ys)
once_both called _ ys NoneOnce b h = b
once_both called _ ys (AndOnce x xs apart a) b h =
    AndOnce x (xs ++ ys) (λ y k. ⊎_elim (λ l. apart y l) (λ r. h x y (OnTop x xs) r) (has_either y xs ys k)) (once_both called xs ys a b (λ u v l r. h u v (Below u x xs l) r))

-- it stands there
pub has_at : {A : Type 0} (front back : List A) (x : A) → Has x (front ++ x ∷ back)
has_at [] back x = OnTop x back
has_at (z ∷ front) back x = Below x z (front ++ x ∷ back) (has_at front back x)

-- one that stands somewhere has a name of its own among those before it
pub once_front : {A : Type 0} (called : A → Text) (front back : List A) (x : A) → Once called (front ++ x ∷ back) → (y : A) → Has y front → ¬ (called y ≡ called x)
once_front called [] back x o y h = elim h [ ]
once_front called (z ∷ front) back x (AndOnce _ _ apart o) _ (OnTop _ _) = apart x (has_at front back x)
once_front called (z ∷ front) back x (AndOnce _ _ apart o) y (Below _ _ _ h) = once_front called front back x o y h

-- so do those before it
pub has_before : {A : Type 0} (front back : List A) (x y : A) → Has y front → Has y (front ++ x ∷ back)
has_before front back x y h = has_left y front (x ∷ back) h
