-- What tables say of a name, and what the definitions say of it.
use Rattle.std.proofs.Common.{◌≡◌, ℕ, ◌+◌, true, false, List, [], ◌∷◌, get_or, map, take, Option, Some, None, refl, ap, sym, ◌∙◌, add-one, add-zero, zero-add}
use Rattle.std.specs.Prelude.{slice_get}
use Rattle.std.proofs.Math.Seq.{take-length}
use Rattle.cpc_base.specs.declared.names.Name.{Name}
use Rattle.cpc_tree.specs.Erase.{Names, item_of}
use Rattle.cpc_tree.specs.Syntax.{Variable, Function, Program}
use Rattle.cpc_tree.specs.Typing as T
use Rattle.cpc_tree.specs.Typing.{◌>>=◌}
use Rattle.cpc_base.specs.Bytes.{Text}
use Rattle.cpc_tree.specs.declared.program.Item.{Item}
use Rattle.cpc_tree.specs.declared.program.Item.TheVariants as I
use Rattle.cpc_check_rules.specs.Apart.{AreApart}
use Rattle.cpc_shapes.specs.Indexed.{is_name}
use Rattle.cpc_shapes.specs.Counted.{name_of}
use Rattle.cpc_shapes.specs.Declaring.{item_at, fields_of}
use Rattle.cpc_types_structs.specs.Declares.{Declares}
use Rattle.cpc_types_structs.specs.Placed.{place_at, definition_of}
use Rattle.cpc_types_structs.specs.Sized.{tag_place}
use Rattle.cpc_types_structs.specs.Structs.{AreAllStructs}
use Rattle.cpc_types_structs.specs.declared.declared.Declared.{Declared}
use Rattle.cpc_types_structs.specs.declared.structs.Structs.{Structs}
use Rattle.cpc_types_structs.proofs.Known as K
use Rattle.cpc_eval_index.specs.Placed.{globals_in}
use Rattle.cpc_eval_index.specs.Meanings.{meaning, definition_seen}
use Rattle.cpc_eval_index.specs.Sized.{capped_field}
use Rattle.cpc_eval_index.specs.Tabled.{AreTables, globals_before}
use Rattle.cpc_eval_index.specs.declared.tables.Tables.{Tables}
use Rattle.cpc_eval_index.proofs.First.{first_absent, first_missing, first_found}

module _ (names : Names) (apart : AreApart names) where
  -- ---- names

  named_in : Name → ℕ → List Item → T.Meant
  named_in x n ys = T.item_named n (map (item_of names) ys) (names x)

  named_none : (x : Name) (n : ℕ) → named_in x n [] ≡ T.NotMeant
  unfolding named_in
  named_none x n = refl

  named_here : (x : Name) (n : ℕ) (y : Item) (ys : List Item) → is_name x.0 (name_of y) ≡ true → named_in x n (y ∷ ys) ≡ meaning names n y
  unfolding named_in
  named_here x n (I.Struct t fs) ys is = cc
  named_here x n (I.Global w t start) ys is = rw (apart.told w.name x ∙ is) refl
  named_here x n (I.Prototype p mode w r ps) ys is = rw (apart.told w.name x ∙ is) refl
  named_here x n (I.Function f) ys is = rw (apart.told f.word.name x ∙ is) refl

  named_skip : (x : Name) (n : ℕ) (y : Item) (ys : List Item) → is_name x.0 (name_of y) ≡ false → named_in x n (y ∷ ys) ≡ named_in x (n + globals_in y) ys
  unfolding named_in
  named_skip x n (I.Struct t fs) ys e = ap (λ m. T.item_named m (map (item_of names) ys) (names x)) (sym (add-zero n))
  named_skip x n (I.Global w t start) ys e = rw (apart.told w.name x ∙ e) (ap (λ m. T.item_named m (map (item_of names) ys) (names x)) (sym (add-one n)))
  named_skip x n (I.Prototype p mode w r ps) ys e = rw (apart.told w.name x ∙ e) (ap (λ m. T.item_named m (map (item_of names) ys) (names x)) (sym (add-zero n)))
  named_skip x n (I.Function f) ys e = rw (apart.told f.word.name x ∙ e) (ap (λ m. T.item_named m (map (item_of names) ys) (names x)) (sym (add-zero n)))

  module _ (xs : List Item) (d : Declared) (x : Name) (declares : Declares xs d) where
    -- a name that no item declares
    pub named_absent : None ≡ place_at d.named x.0 → T.NotMeant ≡ T.item_named 0 (map (item_of names) xs) (names x)
    unfolding named_in
    named_absent e = sym (first_absent Item T.Meant name_of globals_in (named_in x) T.NotMeant (meaning names) x.0 (named_none x) (named_here x) (named_skip x) 0 xs (sym (declares.named x.0) ∙ sym e))

    pub named_missing : (j : ℕ) → Some j ≡ place_at d.named x.0 → None ≡ slice_get xs j → T.NotMeant ≡ T.item_named 0 (map (item_of names) xs) (names x)
    unfolding named_in
    named_missing j e at = sym (first_missing Item T.Meant name_of globals_in (named_in x) T.NotMeant (meaning names) x.0 (named_none x) (named_here x) (named_skip x) 0 xs j (sym (declares.named x.0) ∙ sym e) (sym at))

    -- a name that one declares
    pub named_found : (t : Tables) (j : ℕ) (y : Item) → AreTables xs t → Some j ≡ place_at d.named x.0 → Some y ≡ slice_get xs j → meaning names (get_or t.globals.items j 0) y ≡ T.item_named 0 (map (item_of names) xs) (names x)
    unfolding named_in
    named_found t j y tables e at =
        ap (λ n. meaning names n y) (tables.before j y (sym at) ∙ sym (zero-add (globals_before xs j)))
        ∙ sym (first_found Item T.Meant name_of globals_in (named_in x) T.NotMeant (meaning names) x.0 (named_none x) (named_here x) (named_skip x) 0 xs j y (sym (declares.named x.0) ∙ sym e) (sym at))

  -- ---- functions

  defined_in : Name → ℕ → List Item → Option Function
  defined_in x n ys = T.function_named (map (item_of names) ys) (names x)

  defined_none : (x : Name) (n : ℕ) → defined_in x n [] ≡ None
  unfolding defined_in
  defined_none x n = refl

  defined_here : (x : Name) (n : ℕ) (y : Item) (ys : List Item) → is_name x.0 (definition_of y) ≡ true → defined_in x n (y ∷ ys) ≡ definition_seen names y
  unfolding defined_in
  defined_here x n (I.Function f) ys is = rw (apart.told f.word.name x ∙ is) refl
  defined_here x n _ ys is = cc

  defined_skip : (x : Name) (n : ℕ) (y : Item) (ys : List Item) → is_name x.0 (definition_of y) ≡ false → defined_in x n (y ∷ ys) ≡ defined_in x (n + globals_in y) ys
  unfolding defined_in
  defined_skip x n (I.Function f) ys e = rw (apart.told f.word.name x ∙ e) refl
  defined_skip x n _ ys e = refl

  module _ (xs : List Item) (d : Declared) (x : Name) (declares : Declares xs d) where
    -- a name of which no function is defined
    pub defined_absent : None ≡ place_at d.defined x.0 → None ≡ T.function_named (map (item_of names) xs) (names x)
    unfolding defined_in
    defined_absent e = sym (first_absent Item (Option Function) definition_of globals_in (defined_in x) None (λ n. definition_seen names) x.0 (defined_none x) (defined_here x) (defined_skip x) 0 xs (sym (declares.defined x.0) ∙ sym e))

    pub defined_missing : (j : ℕ) → Some j ≡ place_at d.defined x.0 → None ≡ slice_get xs j → None ≡ T.function_named (map (item_of names) xs) (names x)
    unfolding defined_in
    defined_missing j e at = sym (first_missing Item (Option Function) definition_of globals_in (defined_in x) None (λ n. definition_seen names) x.0 (defined_none x) (defined_here x) (defined_skip x) 0 xs j (sym (declares.defined x.0) ∙ sym e) (sym at))

    -- a name of which one is
    pub defined_found : (j : ℕ) (y : Item) → Some j ≡ place_at d.defined x.0 → Some y ≡ slice_get xs j → definition_seen names y ≡ T.function_named (map (item_of names) xs) (names x)
    unfolding defined_in
    defined_found j y e at = sym (first_found Item (Option Function) definition_of globals_in (defined_in x) None (λ n. definition_seen names) x.0 (defined_none x) (defined_here x) (defined_skip x) 0 xs j y (sym (declares.defined x.0) ∙ sym e) (sym at))

  -- ---- fields

  -- the fields of a struct
  pub fields_known : (xs : List Item) (s : Structs) (tag : Name) → AreAllStructs xs s → fields_of names (item_at xs (tag_place s tag)) ≡ T.fields (map (item_of names) xs) (names tag)
  fields_known xs s tag d = K.fields_known names apart xs s tag d.structs ∙ ap (λ ys. T.fields (map (item_of names) ys) (names tag)) (ap (λ n. take n xs) d.all ∙ take-length xs)

-- a field of a struct that is not declared, or is
pub field_absent : (p : Program) (tag x : Text) → None ≡ T.fields p tag → None ≡ capped_field (T.field p tag x)
field_absent p tag x e = ap (λ (o : Option (List Variable)). capped_field (o >>= (λ (fs : List Variable). T.field_from p 0 fs x))) e

pub field_known : (p : Program) (tag x : Text) (fs : List Variable) → Some fs ≡ T.fields p tag → capped_field (T.field_from p 0 fs x) ≡ capped_field (T.field p tag x)
field_known p tag x fs e = ap (λ (o : Option (List Variable)). capped_field (o >>= (λ (gs : List Variable). T.field_from p 0 gs x))) e
