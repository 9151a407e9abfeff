-- What stays of the items of a program: each item that stays stands behind those that stay of the items before it, and names stand for the same.
use Rattle.std.proofs.Common.{◌≡◌, Bool, true, false, List, [], ◌∷◌, ◌++◌, reverse, map, Option, bytes_eq, refl, sym, ◌∙◌, ap, subst, append_assoc}
use Rattle.std.proofs.lemmas.List.{reverse-append}
use Rattle.cpc_base.specs.Bytes.{Text}
use Rattle.cpc_tree.specs.declared.program.Mode.{Mode}
use Rattle.cpc_tree.specs.Syntax.{Ty, Expr, Variable, Parameter, Function, Item, StructItem, GlobalItem, PrototypeItem, FunctionItem, Program}
use Rattle.cpc_tree.specs.Typing.{AGlobal, AFunction, NotMeant, parameter_type}
use Rattle.cpc_check_rules.specs.Scopes.{in_items}
use Rattle.cpc_meaning.specs.Threads.{is_cps_mode}
use Rattle.cpc_convert_common.specs.Members.{Has, OnTop, Below}
use Rattle.cpc_convert_image_laws.specs.InPlace.{is_cps}
use Rattle.cpc_convert_routines.specs.Kept.{kept_function, item_unless, kept_items}
use Rattle.cpc_chains_event.proofs.Meanings.{cps_meant, here_or, left_out}

-- ---- items that stay

-- an item, and what stays of it
pub data KeptItem : Item → Item → Type 0 where
  KeepStruct : (tag : Text) (fs : List Variable) → KeptItem (StructItem tag fs) (StructItem tag fs)
  KeepGlobal : (x : Text) (t : Ty) (s : Option Expr) → KeptItem (GlobalItem x t s) (GlobalItem x t s)
  KeepPrototype : (m : Mode) (f : Text) (r : Ty) (ps : List Parameter) → is_cps_mode m ≡ false → KeptItem (PrototypeItem m f r ps) (PrototypeItem m f r ps)
  KeepFunction : (f : Function) → is_cps_mode f.mode ≡ false → KeptItem (FunctionItem f) (FunctionItem (kept_function f))

-- what stays of an item stands before what stays of those behind it
pub kept_more : (x y : Item) (xs : Program) → KeptItem x y → kept_items (x ∷ xs) ≡ y ∷ kept_items xs
kept_more _ _ xs (KeepStruct tag fs) = refl
kept_more _ _ xs (KeepGlobal x t s) = refl
kept_more _ _ xs (KeepPrototype m f r ps e) = ap (λ b. item_unless b (PrototypeItem m f r ps) (kept_items xs)) e
kept_more _ _ xs (KeepFunction f e) = ap (λ b. item_unless b (FunctionItem (kept_function f)) (kept_items xs)) e

-- an item stays, or is left out
pub data Stays (x : Item) : Type 0 where
  DoesStay : (y : Item) → KeptItem x y → Stays x
  IsLeft : ((xs : Program) → kept_items (x ∷ xs) ≡ kept_items xs) → Stays x

pub stays : (x : Item) → Stays x
stays (StructItem tag fs) = DoesStay _ (KeepStruct tag fs)
stays (GlobalItem x t s) = DoesStay _ (KeepGlobal x t s)
stays (PrototypeItem m f r ps) = go (is_cps_mode m) refl
  where
    go : (b : Bool) → is_cps_mode m ≡ b → Stays (PrototypeItem m f r ps)
    go true e = IsLeft (λ xs. ap (λ b. item_unless b (PrototypeItem m f r ps) (kept_items xs)) e)
    go false e = DoesStay _ (KeepPrototype m f r ps e)
stays (FunctionItem f) = go (is_cps_mode f.mode) refl
  where
    go : (b : Bool) → is_cps_mode f.mode ≡ b → Stays (FunctionItem f)
    go true e = IsLeft (λ xs. ap (λ b. item_unless b (FunctionItem (kept_function f)) (kept_items xs)) e)
    go false e = DoesStay _ (KeepFunction f e)

-- rows, one behind the other
pub kept_append : (xs ys : Program) → kept_items (xs ++ ys) ≡ kept_items xs ++ kept_items ys
kept_append [] ys = refl
kept_append (x ∷ xs) ys = go (stays x) (kept_append xs ys)
  where
    go : Stays x → kept_items (xs ++ ys) ≡ kept_items xs ++ kept_items ys → kept_items (x ∷ (xs ++ ys)) ≡ kept_items (x ∷ xs) ++ kept_items ys
    go (DoesStay y k) e = kept_more x y (xs ++ ys) k ∙ ap (λ zs. y ∷ zs) e ∙ ap (λ zs. zs ++ kept_items ys) (sym (kept_more x y xs k))
    go (IsLeft left) e = left (xs ++ ys) ∙ e ∙ ap (λ zs. zs ++ kept_items ys) (sym (left xs))

-- one item more
pub kept_last : (front before : Program) (x y : Item) → KeptItem x y → (front ++ kept_items before) ++ y ∷ [] ≡ front ++ kept_items (before ++ x ∷ [])
kept_last front before x y k = append_assoc front (kept_items before) (y ∷ []) ∙ ap (λ zs. front ++ zs) (sym (kept_append before (x ∷ []) ∙ ap (λ zs. kept_items before ++ zs) (kept_more x y [] k)))

-- an item that stays, at its place
pub record KeptAt (xs front : Program) (y : Item) : Type 0 where
  pub before : Program
  pub item : Item
  pub after : Program
  pub is : xs ≡ before ++ item ∷ after
  pub front_is : front ≡ kept_items before
  pub kept : KeptItem item y

-- behind one that stays
behind_one : (x u z : Item) (xs front : Program) (y : Item) → KeptItem x z → z ≡ u → KeptAt xs front y → KeptAt (x ∷ xs) (u ∷ front) y
behind_one x u z xs front y k same r = record {
  before = x ∷ r.before;
  item = r.item;
  after = r.after;
  is = ap (λ zs. x ∷ zs) r.is;
  front_is = ap (λ zs. u ∷ zs) r.front_is ∙ ap (λ v. v ∷ kept_items r.before) (sym same) ∙ sym (kept_more x z r.before k);
  kept = r.kept;
}

kept_here : (x y z : Item) (xs front back : Program) → KeptItem x z → z ∷ kept_items xs ≡ front ++ y ∷ back → ((front : Program) → kept_items xs ≡ front ++ y ∷ back → KeptAt xs front y) → KeptAt (x ∷ xs) front y
kept_here x y z xs [] back k e rest = let same : z ≡ y = cc in record { before = []; item = x; after = xs; is = refl; front_is = refl; kept = subst (KeptItem x) same k }
kept_here x y z xs (u ∷ front) back k e rest = behind_one x u z xs front y k (cc) (rest front (cc))

pub kept_split : (xs front back : Program) (y : Item) → kept_items xs ≡ front ++ y ∷ back → KeptAt xs front y
kept_split [] front back y e = go front e
  where
    go : (front : Program) → [] ≡ front ++ y ∷ back → KeptAt [] front y
    go [] e = absurd (cc)
    go (z ∷ zs) e = absurd (cc)
kept_split (x ∷ xs) front back y e = go (stays x) e (λ front i. kept_split xs front back y i)
  where
    go : Stays x → kept_items (x ∷ xs) ≡ front ++ y ∷ back → ((front : Program) → kept_items xs ≡ front ++ y ∷ back → KeptAt xs front y) → KeptAt (x ∷ xs) front y
    go (DoesStay z k) e rest = kept_here x y z xs front back k (sym (kept_more x z xs k) ∙ e) rest
    go (IsLeft left) e rest =
        let r = rest front (sym (left xs) ∙ e) in
        record { before = x ∷ r.before; item = r.item; after = r.after; is = ap (λ zs. x ∷ zs) r.is; front_is = r.front_is ∙ sym (left r.before); kept = r.kept }

-- an item that stays is one of the program
pub kept_has : (xs : Program) (y : Item) → Has y (kept_items xs) → (x : Item) × Has x xs × KeptItem x y
kept_has [] y h = elim h [ ]
kept_has (x ∷ xs) y h = go (stays x) h (λ i. kept_has xs y i)
  where
    past : (z : Item) → KeptItem x z → Has y (z ∷ kept_items xs) → (Has y (kept_items xs) → (u : Item) × Has u xs × KeptItem u y) → (u : Item) × Has u (x ∷ xs) × KeptItem u y
    past _ k (OnTop _ _) rest = (x, OnTop x xs, k)
    past z k (Below _ _ _ i) rest = let r = rest i in (r.0, Below r.0 x xs r.1, r.2)

    go : Stays x → Has y (kept_items (x ∷ xs)) → (Has y (kept_items xs) → (u : Item) × Has u xs × KeptItem u y) → (u : Item) × Has u (x ∷ xs) × KeptItem u y
    go (DoesStay z k) h rest = past z k (subst (Has y) (kept_more x z xs k) h) rest
    go (IsLeft left) h rest = let r = rest (subst (Has y) (left xs) h) in (r.0, Below r.0 x xs r.1, r.2)

-- and an item of which something stays has it there
pub has_kept : (xs : Program) (x y : Item) → Has x xs → KeptItem x y → Has y (kept_items xs)
has_kept _ x y (OnTop _ xs) k = subst (Has y) (sym (kept_more x y xs k)) (OnTop y (kept_items xs))
has_kept _ x y (Below _ z xs h) k = go (stays z) (has_kept xs x y h k)
  where
    go : Stays z → Has y (kept_items xs) → Has y (kept_items (z ∷ xs))
    go (DoesStay u j) i = subst (Has y) (sym (kept_more z u xs j)) (Below y u (kept_items xs) i)
    go (IsLeft left) i = subst (Has y) (sym (left xs)) i

-- ---- backwards

reverse_one : (x : Item) → Stays x → reverse (kept_items (x ∷ [])) ≡ kept_items (x ∷ [])
reverse_one x (DoesStay y k) = ap reverse (kept_more x y [] k) ∙ sym (kept_more x y [] k)
reverse_one x (IsLeft left) = ap reverse (left []) ∙ sym (left [])

pub kept_reverse : (xs : Program) → reverse (kept_items xs) ≡ kept_items (reverse xs)
kept_reverse [] = refl
kept_reverse (x ∷ xs) =
    ap reverse (kept_append (x ∷ []) xs)
    ∙ reverse-append (kept_items (x ∷ [])) (kept_items xs)
    ∙ ap (λ zs. zs ++ reverse (kept_items (x ∷ []))) (kept_reverse xs)
    ∙ ap (λ zs. kept_items (reverse xs) ++ zs) (reverse_one x (stays x))
    ∙ sym (kept_append (reverse xs) (x ∷ []))
    ∙ ap kept_items (sym (reverse-append (x ∷ []) xs))

-- ---- what names stand for

module _ (tail : Program) (x : Text) where
  prototype_meant : (d : Bool) (m : Mode) (f : Text) (r : Ty) (ps : List Parameter) (its : Program) → is_cps_mode m ≡ d → is_cps (in_items (PrototypeItem m f r ps ∷ its) x) ≡ false
      → (is_cps (in_items its x) ≡ false → in_items (kept_items its ++ tail) x ≡ in_items its x)
      → in_items (item_unless d (PrototypeItem m f r ps) (kept_items its) ++ tail) x ≡ in_items (PrototypeItem m f r ps ∷ its) x
  prototype_meant true m f r ps its c e h = left_out (bytes_eq f x) (AFunction m r (map parameter_type ps)) (in_items its x) (in_items (kept_items its ++ tail) x) (cps_meant m r (map parameter_type ps) c) e h
  prototype_meant false m f r ps its c e h = here_or (bytes_eq f x) (AFunction m r (map parameter_type ps)) (in_items its x) (in_items (kept_items its ++ tail) x) e h

  function_meant : (d : Bool) (f : Function) (its : Program) → is_cps_mode f.mode ≡ d → is_cps (in_items (FunctionItem f ∷ its) x) ≡ false
      → (is_cps (in_items its x) ≡ false → in_items (kept_items its ++ tail) x ≡ in_items its x)
      → in_items (item_unless d (FunctionItem (kept_function f)) (kept_items its) ++ tail) x ≡ in_items (FunctionItem f ∷ its) x
  function_meant true f its c e h =
      left_out (bytes_eq f.called x) (AFunction f.mode f.result (map parameter_type f.parameters)) (in_items its x) (in_items (kept_items its ++ tail) x) (cps_meant f.mode f.result (map parameter_type f.parameters) c) e h
  function_meant false f its c e h = here_or (bytes_eq f.called x) (AFunction f.mode f.result (map parameter_type f.parameters)) (in_items its x) (in_items (kept_items its ++ tail) x) e h

  -- a name that stands for no cps function stands for the same, where no other item declares it
  pub kept_meant : in_items tail x ≡ NotMeant → (its : Program) → is_cps (in_items its x) ≡ false → in_items (kept_items its ++ tail) x ≡ in_items its x
  kept_meant none [] e = none
  kept_meant none (StructItem t fs ∷ its) e = kept_meant none its e
  kept_meant none (GlobalItem y t s ∷ its) e = here_or (bytes_eq y x) (AGlobal 0 t) (in_items its x) (in_items (kept_items its ++ tail) x) e (λ k. kept_meant none its k)
  kept_meant none (PrototypeItem m f r ps ∷ its) e = prototype_meant (is_cps_mode m) m f r ps its refl e (λ k. kept_meant none its k)
  kept_meant none (FunctionItem f ∷ its) e = function_meant (is_cps_mode f.mode) f its refl e (λ k. kept_meant none its k)

-- the same for items in their order
pub stays_meant : (front xs : Program) (x : Text) → in_items (reverse front) x ≡ NotMeant → is_cps (in_items (reverse xs) x) ≡ false → in_items (reverse (front ++ kept_items xs)) x ≡ in_items (reverse xs) x
stays_meant front xs x none e =
    ap (λ ys. in_items ys x) (reverse-append front (kept_items xs) ∙ ap (λ zs. zs ++ reverse front) (kept_reverse xs)) ∙ kept_meant (reverse front) x none (reverse xs) e
