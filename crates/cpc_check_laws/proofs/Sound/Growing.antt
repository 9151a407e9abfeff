-- Types that are complete stay so, and fields stay where they are, where more items are declared.
use Rattle.std.proofs.Common.{◌≡◌, ◌||◌, ℕ, ◌+◌, Bool, true, false, cond, List, [], ◌∷◌, ◌++◌, reverse, Some, None, bytes_eq, refl, sym, ◌∙◌, ap, subst}
use Rattle.std.proofs.lemmas.List.{reverse-append}
use Rattle.cpc_base.specs.Bytes.{Text}
use Rattle.cpc_base.proofs.Truth.{or_neither}
use Rattle.cpc_tree.specs.Syntax.{Ty, TyVoid, TyInt, TyCondvar, TyPointer, TyCode, TyStruct, TyArray, Variable, Item, StructItem, GlobalItem, PrototypeItem, FunctionItem, Program}
use Rattle.cpc_tree.specs.Typing.{◌>>=◌, Cells, cells, cells_in, fields_cells, struct_cells, fields, fields_in, field, field_from, size}
use Rattle.cpc_tree.proofs.Options.{then_some}
use Rattle.cpc_check_rules.specs.ItemRules.{is_struct}
use Rattle.cpc_meaning.proofs.Functions.{same_text}
use Rattle.cpc_check_laws.proofs.Sound.Answers.{no_some}
use Rattle.cpc_check_laws.proofs.Sound.Options.{then_of}
use Rattle.cpc_check_laws.proofs.Sound.Agreement.{Grows}
use Rattle.cpc_check_laws.proofs.Sound.Items.{last_first}

-- ---- cells

cells_more : (tags more : Text → Cells) → ((tag : Text) (ts : List Ty) → tags tag ≡ Some ts → more tag ≡ Some ts) → (t : Ty) (ts : List Ty) → cells_in tags t ≡ Some ts → cells_in more t ≡ Some ts
cells_more tags more h TyVoid ts e = no_some ts e
cells_more tags more h (TyInt kind) ts e = e
cells_more tags more h TyCondvar ts e = e
cells_more tags more h (TyPointer t) ts e = e
cells_more tags more h (TyCode r ps) ts e = e
cells_more tags more h (TyStruct tag) ts e = h tag ts e
cells_more tags more h (TyArray t n) ts e =
    let k = then_some (cells_in tags t) _ ts e in
    then_of (cells_in more t) _ k.0 ts (cells_more tags more h t k.0 k.1) k.2

-- ---- tags

struct_append : (tag : Text) (a b : Program) → is_struct tag a ≡ false → is_struct tag b ≡ false → is_struct tag (a ++ b) ≡ false
struct_append tag [] b h k = k
struct_append tag (StructItem t fs ∷ a) b h k = let g = or_neither (bytes_eq t tag) (is_struct tag a) h in ap (λ c. c || is_struct tag (a ++ b)) g.0 ∙ struct_append tag a b g.1 k
struct_append tag (GlobalItem x t start ∷ a) b h k = struct_append tag a b h k
struct_append tag (PrototypeItem mode f r ps ∷ a) b h k = struct_append tag a b h k
struct_append tag (FunctionItem f ∷ a) b h k = struct_append tag a b h k

one_struct : (tag : Text) (i : Item) (a : Program) → is_struct tag (i ∷ a) ≡ false → (is_struct tag (i ∷ []) ≡ false) × (is_struct tag a ≡ false)
one_struct tag (StructItem t fs) a h = let g = or_neither (bytes_eq t tag) (is_struct tag a) h in (ap (λ c. c || false) g.0, g.1)
one_struct tag (GlobalItem x t start) a h = (refl, h)
one_struct tag (PrototypeItem mode f r ps) a h = (refl, h)
one_struct tag (FunctionItem f) a h = (refl, h)

struct_reverse : (tag : Text) (a : Program) → is_struct tag a ≡ false → is_struct tag (reverse a) ≡ false
struct_reverse tag [] h = refl
struct_reverse tag (i ∷ a) h =
    let g = one_struct tag i a h in
    subst (λ q. is_struct tag q ≡ false) (sym (reverse-append (i ∷ []) a)) (struct_append tag (reverse a) (i ∷ []) (struct_reverse tag a g.1) g.0)

no_cells : (tag : Text) (a : Program) → is_struct tag a ≡ false → struct_cells a tag ≡ None
no_cells tag [] h = refl
no_cells tag (StructItem t fs ∷ a) h = let g = or_neither (bytes_eq t tag) (is_struct tag a) h in ap (λ b. cond b (fields_cells (struct_cells a) fs) (struct_cells a tag)) g.0 ∙ no_cells tag a g.1
no_cells tag (GlobalItem x t start ∷ a) h = no_cells tag a h
no_cells tag (PrototypeItem mode f r ps ∷ a) h = no_cells tag a h
no_cells tag (FunctionItem f ∷ a) h = no_cells tag a h

no_fields : (tag : Text) (a : Program) → is_struct tag a ≡ false → fields_in a tag ≡ None
no_fields tag [] h = refl
no_fields tag (StructItem t fs ∷ a) h = let g = or_neither (bytes_eq t tag) (is_struct tag a) h in ap (λ b. cond b (Some fs) (fields_in a tag)) g.0 ∙ no_fields tag a g.1
no_fields tag (GlobalItem x t start ∷ a) h = no_fields tag a h
no_fields tag (PrototypeItem mode f r ps ∷ a) h = no_fields tag a h
no_fields tag (FunctionItem f ∷ a) h = no_fields tag a h

-- an item that is no struct of a tag before
abbrev pub IsFresh : Program → Item → Type 0
IsFresh before (StructItem tag fs) = is_struct tag before ≡ false
IsFresh before _ = Unit {0}

cells_stay : (before : Program) (i : Item) → IsFresh before i → (tag : Text) (ts : List Ty) → struct_cells (reverse before) tag ≡ Some ts → struct_cells (i ∷ reverse before) tag ≡ Some ts
cells_stay before (StructItem t fs) fresh tag ts h = go (bytes_eq t tag) refl
  where
    go : (b : Bool) → bytes_eq t tag ≡ b → cond b (fields_cells (struct_cells (reverse before)) fs) (struct_cells (reverse before) tag) ≡ Some ts
    go true e = no_some ts (sym (no_cells tag (reverse before) (struct_reverse tag before (subst (λ z. is_struct z before ≡ false) (same_text t tag e) fresh))) ∙ h)
    go false e = h
cells_stay before (GlobalItem x t start) fresh tag ts h = h
cells_stay before (PrototypeItem mode f r ps) fresh tag ts h = h
cells_stay before (FunctionItem f) fresh tag ts h = h

fields_stay : (before : Program) (i : Item) → IsFresh before i → (tag : Text) (fs : List Variable) → fields_in (reverse before) tag ≡ Some fs → fields_in (i ∷ reverse before) tag ≡ Some fs
fields_stay before (StructItem t gs) fresh tag fs h = go (bytes_eq t tag) refl
  where
    go : (b : Bool) → bytes_eq t tag ≡ b → cond b (Some gs) (fields_in (reverse before) tag) ≡ Some fs
    go true e = no_some fs (sym (no_fields tag (reverse before) (struct_reverse tag before (subst (λ z. is_struct z before ≡ false) (same_text t tag e) fresh))) ∙ h)
    go false e = h
fields_stay before (GlobalItem x t start) fresh tag fs h = h
fields_stay before (PrototypeItem mode f r ps) fresh tag fs h = h
fields_stay before (FunctionItem f) fresh tag fs h = h

-- ---- programs

field_stays : (p q : Program) → ((t : Ty) (n : ℕ) → size p t ≡ Some n → size q t ≡ Some n) → (n : ℕ) (fs : List Variable) (x : Text) (f : ℕ × Ty) → field_from p n fs x ≡ Some f → field_from q n fs x ≡ Some f
field_stays p q sizes n [] x f h = no_some f h
field_stays p q sizes n (v ∷ fs) x f h = go (bytes_eq v.called x) h (λ k e. field_stays p q sizes (n + k) fs x f e)
  where
    go : (b : Bool) → cond b (Some (n, v.type)) (size p v.type >>= (λ k. field_from p (n + k) fs x)) ≡ Some f → ((k : ℕ) → field_from p (n + k) fs x ≡ Some f → field_from q (n + k) fs x ≡ Some f)
        → cond b (Some (n, v.type)) (size q v.type >>= (λ k. field_from q (n + k) fs x)) ≡ Some f
    go true h rest = h
    go false h rest = let k = then_some (size p v.type) _ f h in then_of (size q v.type) _ k.0 f (sizes v.type k.0 k.1) (rest k.0 k.2)

pub grows_step : (before : Program) (i : Item) → IsFresh before i → Grows before (before ++ i ∷ [])
grows_step before i fresh = record { cells = cells_there; fields = fields_there }
  where
    cells_there : (t : Ty) (ts : List Ty) → cells before t ≡ Some ts → cells (before ++ i ∷ []) t ≡ Some ts
    cells_there t ts h = subst (λ q. cells_in (struct_cells q) t ≡ Some ts) (sym (last_first before i)) (cells_more (struct_cells (reverse before)) (struct_cells (i ∷ reverse before)) (cells_stay before i fresh) t ts h)

    sizes_there : (t : Ty) (n : ℕ) → size before t ≡ Some n → size (before ++ i ∷ []) t ≡ Some n
    sizes_there t n h = let k = then_some (cells before t) _ n h in then_of (cells (before ++ i ∷ []) t) _ k.0 n (cells_there t k.0 k.1) k.2

    fields_there : (tag x : Text) (f : ℕ × Ty) → field before tag x ≡ Some f → field (before ++ i ∷ []) tag x ≡ Some f
    fields_there tag x f h =
        let k = then_some (fields before tag) _ f h in
        then_of (fields (before ++ i ∷ []) tag) _ k.0 f (subst (λ q. fields_in q tag ≡ Some k.0) (sym (last_first before i)) (fields_stay before i fresh tag k.0 k.1)) (field_stays before (before ++ i ∷ []) sizes_there 0 k.0 x f k.2)

pub grows_same : (p : Program) → Grows p p
grows_same p = record { cells = λ t ts h. h; fields = λ tag x f h. h }

pub grows_on : (p q r : Program) → Grows p q → Grows q r → Grows p r
grows_on p q r g h = record { cells = λ t ts e. h.cells t ts (g.cells t ts e); fields = λ tag x f e. h.fields tag x f (g.fields tag x f e) }
