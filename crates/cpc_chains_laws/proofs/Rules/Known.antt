-- What the functions that are made know of the items before them.
use Rattle.std.proofs.Common.{◌≡◌, ⊎_elim, ℕ, Bool, true, false, List, [], ◌∷◌, ◌++◌, map, reverse, refl, sym, ◌∙◌, ap, subst, append_assoc}
use Rattle.std.proofs.lemmas.List.{reverse-append}
use Rattle.cpc_base.specs.Bytes.{Text}
use Rattle.cpc_tree.specs.Syntax.{Ty, TyVoid, Variable, Function, Item, StructItem, GlobalItem, PrototypeItem, FunctionItem, Program}
use Rattle.cpc_tree.specs.declared.program.Mode.{Mode}
use Rattle.cpc_tree.specs.declared.program.Mode.TheVariants.{Native, Cps}
use Rattle.cpc_tree.specs.Points.{locals}
use Rattle.cpc_tree.specs.Typing.{Meant, ALocal, AGlobal, AFunction, NotMeant, item_named, parameter_types, cells_in, struct_cells, cells, fields_in, fields}
use Rattle.cpc_check_rules.specs.Scopes.{in_items}
use Rattle.cpc_meaning.specs.Threads.{is_cps_mode}
use Rattle.cpc_meaning.proofs.Functions.{same_text}
use Rattle.cpc_convert_common.specs.Marks.{has_marks}
use Rattle.cpc_convert_common.specs.Converted.{spawner_name, prototype, function_item}
use Rattle.cpc_convert_common.specs.Members.{Has, OnTop, Below}
use Rattle.cpc_convert_common.proofs.Members.{has_left, has_right, has_either}
use Rattle.cpc_convert_image_laws.specs.InPlace.{is_cps}
use Rattle.cpc_chains_store_laws.specs.Driver.{drive_function}
use Rattle.cpc_convert_routines.specs.Kept.{kept_items, routines}
use Rattle.cpc_chains_event.specs.Converted.{all_boxes, all_made, main_if, converted}
use Rattle.cpc_chains_event.specs.Pieces.{piece_function, spawner_function}
use Rattle.cpc_convert_routines.specs.Routines.{Routine, routine_of}
use Rattle.cpc_convert_routines.specs.Named.{IsCps}
use Rattle.cpc_chains_event.proofs.Extending.{is_struct}
use Rattle.cpc_chains_event.proofs.Made.{has_piece, has_spawner}
use Rattle.cpc_chains_event.proofs.Structs.{all_boxes_are}
use Rattle.cpc_check_laws.proofs.Sound.Agreement.{Grows}
use Rattle.cpc_check_laws.proofs.Sound.Growing.{grows_on}
use Rattle.cpc_check_laws.proofs.Sound.Items.{named_more}
use Rattle.cpc_check_laws.proofs.Sound.Knowing.{Known, Same}
use Rattle.cpc_check_laws.proofs.Run.Names.{primitive_kept}
use Rattle.cpc_lifted_laws.specs.Complete.Kept.{KeptName, KeptGlobal, KeptFunction, KeptNothing, all_scalar, KeepsItems}
use Rattle.cpc_chains_laws.specs.Rules.Laws.{Knows}
use Rattle.cpc_lifted_laws.proofs.Rules.Items.{Declares}
use Rattle.cpc_chains_laws.proofs.Rules.KeptRows.{Front, Source, passed_types, kept_cps, marked_nothing, defined}
use Rattle.cpc_chains_laws.proofs.Rules.Kept.{stays_meant}
use Rattle.cpc_lifted_laws.proofs.Rules.Source.{known_at, known_whole}
use Rattle.cpc_chains_laws.proofs.Rules.Types.{grows_of, grows_at, beyond_none, beyond_whole}
use Rattle.cpc_lifted_laws.proofs.Rules.Meant.{nothing_meant, behind_meant, from_reverse}
use Rattle.cpc_chains_laws.proofs.Rules.Parts.{Part, Parts, both_parts, frames, prototypes, driver, definitions, main_of, front_of, before_made, whole, front_parts, kept_parts, boxes_parts, definitions_parts, structs_declare, front_unmarked, front_structs, From, IsFrom, from_map, to_map, made_marked, made_meant, driver_meant, kept_nothing, boxes_marked}

-- ---- items that are no structs

abbrev pub NoStructs : Program → Type 0
NoStructs xs = (i : Item) → Has i xs → is_struct i ≡ false

pass_one : (x : Item) (xs : Program) → is_struct x ≡ false → struct_cells (x ∷ xs) ≡ struct_cells xs
pass_one (StructItem t fs) xs e = absurd (cc)
pass_one (GlobalItem y t s) xs e = refl
pass_one (PrototypeItem m f r ps) xs e = refl
pass_one (FunctionItem f) xs e = refl

pass_cells : (ys xs : Program) → NoStructs ys → struct_cells (ys ++ xs) ≡ struct_cells xs
pass_cells [] xs h = refl
pass_cells (y ∷ ys) xs h = pass_one y (ys ++ xs) (h y (OnTop y ys)) ∙ pass_cells ys xs (λ i k. h i (Below i y ys k))

pass_field : (x : Item) (xs : Program) (tag : Text) → is_struct x ≡ false → fields_in (x ∷ xs) tag ≡ fields_in xs tag
pass_field (StructItem t fs) xs tag e = absurd (cc)
pass_field (GlobalItem y t s) xs tag e = refl
pass_field (PrototypeItem m f r ps) xs tag e = refl
pass_field (FunctionItem f) xs tag e = refl

pass_fields : (ys xs : Program) (tag : Text) → NoStructs ys → fields_in (ys ++ xs) tag ≡ fields_in xs tag
pass_fields [] xs tag h = refl
pass_fields (y ∷ ys) xs tag h = pass_field y (ys ++ xs) tag (h y (OnTop y ys)) ∙ pass_fields ys xs tag (λ i k. h i (Below i y ys k))

-- behind the others they change no type
pub same_cells : (xs ys : Program) → NoStructs ys → (t : Ty) → cells (xs ++ ys) t ≡ cells xs t
same_cells xs ys h t = ap (λ zs. cells_in (struct_cells zs) t) (reverse-append xs ys) ∙ ap (λ f. cells_in f t) (pass_cells (reverse ys) (reverse xs) (λ i k. h i (from_reverse ys i k)))

pub same_fields : (xs ys : Program) → NoStructs ys → (tag : Text) → fields (xs ++ ys) tag ≡ fields xs tag
same_fields xs ys h tag = ap (λ zs. fields_in zs tag) (reverse-append xs ys) ∙ pass_fields (reverse ys) (reverse xs) tag (λ i k. h i (from_reverse ys i k))

functions_only : (fs : List Function) → NoStructs (map function_item fs)
functions_only fs i h = go i (from_map function_item fs i h)
  where
    go : (i : Item) → From function_item fs i → is_struct i ≡ false
    go _ (IsFrom f h) = refl

both_none : (xs ys : Program) → NoStructs xs → NoStructs ys → NoStructs (xs ++ ys)
both_none xs ys f g i h = ⊎_elim (λ a. f i a) (λ b. g i b) (has_either i xs ys h)

main_none : (b : Bool) → NoStructs (main_if b)
main_none true _ (OnTop _ _) = refl
main_none true i (Below _ _ _ h) = elim h [ ]
main_none false i h = elim h [ ]

-- ---- an event program as what stands before what is made, and that

pub whole_made : (p : Program) → whole p (routines p) ≡ before_made p (routines p) ++ (definitions p (routines p) ++ main_of p)
whole_made p =
    let rs = routines p in
    let rest = definitions p rs ++ main_of p in
    sym (append_assoc (front_of p rs ++ kept_items p) (all_boxes rs) rest
    ∙ (append_assoc (front_of p rs) (kept_items p) (all_boxes rs ++ rest)
    ∙ (append_assoc (frames p rs ++ prototypes p rs) driver (kept_items p ++ (all_boxes rs ++ rest))
    ∙ append_assoc (frames p rs) (prototypes p rs) (driver ++ (kept_items p ++ (all_boxes rs ++ rest))))))

-- a name that stands for something
abbrev IsSome : Meant → Type 0
IsSome NotMeant = ⊥
IsSome m = Unit {0}

module _ (p : Program) (source : Source p) where
  abbrev rs : List Routine
  rs = routines p

  abbrev made : List Function
  made = all_made p (routines p)

  -- before the items that stay
  pub front_is : Front p (front_of p (routines p))
  front_is = record {
    parts = front_parts p;
    unmarked = front_unmarked p source.names source.named;
    structs = front_structs p;
    spawners = λ f c. has_left _ (frames p rs ++ prototypes p rs) driver (has_right _ (frames p rs) (prototypes p rs) (to_map prototype made (spawner_function f) (has_spawner p f c)));
  }

  -- behind all structs, with some definitions of what is made
  module _ (some : List Function) (up : (g : Function) → Has g some → Has g made) where
    abbrev items : Program
    items = before_made p (routines p) ++ map function_item some

    parts : Parts p items
    parts =
        both_parts p (before_made p rs) (map function_item some)
        (both_parts p (front_of p rs ++ kept_items p) (all_boxes rs) (both_parts p (front_of p rs) (kept_items p) (front_parts p) (kept_parts p p (λ i h. h))) (boxes_parts p)) (λ i h. definition i (from_map function_item some i h))
      where
        definition : (i : Item) → From function_item some i → Part p i
        definition _ (IsFrom g h) = definitions_parts p (function_item g) (to_map function_item made g (up g h))

    in_front : (i : Item) → Has i (front_of p rs) → Has i items
    in_front i h = has_left i (before_made p rs) (map function_item some) (has_left i (front_of p rs ++ kept_items p) (all_boxes rs) (has_left i (front_of p rs) (kept_items p) h))

    declared : (g : Function) → Has g made → Has (prototype g) items
    declared g h = in_front (prototype g) (has_left _ (frames p rs ++ prototypes p rs) driver (has_right _ (frames p rs) (prototypes p rs) (to_map prototype made g h)))

    unnamed : (x : Text) → has_marks x ≡ false → (i : Item) → Has i (map function_item some) → Declares x i → ⊥
    unnamed x e i h d = go i (from_map function_item some i h) d
      where
        go : (i : Item) → From function_item some i → Declares x i → ⊥
        go _ (IsFrom g k) d = let z : true ≡ false = sym (made_marked p source.names source.named g (up g k)) ∙ ap has_marks (same_text g.called x d) ∙ e in absurd (cc)

    stays : (x : Text) → has_marks x ≡ false → is_cps (in_items (reverse p) x) ≡ false → in_items (reverse items) x ≡ in_items (reverse p) x
    stays x e c =
        behind_meant x (before_made p rs) (map function_item some) (unnamed x e)
        ∙ (behind_meant x (front_of p rs ++ kept_items p) (all_boxes rs) (λ i h d. structs_declare x (all_boxes rs) (all_boxes_are rs) i h d)
        ∙ stays_meant (front_of p rs) p x (nothing_meant x (front_of p rs) (λ i h d. front_unmarked p source.names source.named x e i h d)) c)

    -- what a name stands for among some items of the source
    module _ (front back : Program) (is_front : p ≡ front ++ back) where
      part : (rest : Program) × (p ≡ front ++ rest)
      part = (back, is_front)

      known : Known p front
      known = known_at p source.own source.fine front back is_front

      whole_known : Known p p
      whole_known = known_whole p source.own source.fine

      first : (x : Text) (m : Meant) → Same m (item_named 0 front x) → IsSome m → Same m (item_named 0 p x)
      first x (AGlobal j t) h s = (h.0, subst (λ q. item_named 0 q x ≡ AGlobal h.0 t) (sym is_front) (named_more 0 front back x (AGlobal h.0 t) tt h.1))
      first x (AFunction mode r ps) h s = subst (λ q. item_named 0 q x ≡ AFunction mode r ps) (sym is_front) (named_more 0 front back x (AFunction mode r ps) tt h)
      first x (ALocal j t) h s = h
      first x NotMeant h s = absurd s

      -- it stands for the same at the end
      function_last : (x : Text) (mode : Mode) (r : Ty) (ps : List Ty) (m : Meant) → Same m (item_named 0 p x) → item_named 0 p x ≡ AFunction mode r ps → m ≡ AFunction mode r ps
      function_last x mode r ps (AFunction n u qs) h e = sym (sym e ∙ h)
      function_last x mode r ps (AGlobal j t) h e = let z : AGlobal h.0 t ≡ AFunction mode r ps = sym h.1 ∙ e in absurd (cc)
      function_last x mode r ps (ALocal j t) h e = absurd h
      function_last x mode r ps NotMeant h e = let z : NotMeant ≡ AFunction mode r ps = sym h ∙ e in absurd (cc)

      global_last : (x : Text) (n : ℕ) (t : Ty) (m : Meant) → Same m (item_named 0 p x) → item_named 0 p x ≡ AGlobal n t → (k : ℕ) × (m ≡ AGlobal k t)
      global_last x n t (AGlobal j u) h e = let z : AGlobal h.0 u ≡ AGlobal n t = sym h.1 ∙ e in (j, cc)
      global_last x n t (AFunction m u qs) h e = let z : AFunction m u qs ≡ AGlobal n t = sym h ∙ e in absurd (cc)
      global_last x n t (ALocal j u) h e = absurd h
      global_last x n t NotMeant h e = let z : NotMeant ≡ AGlobal n t = sym h ∙ e in absurd (cc)

      unmarked_kept : (x : Text) → has_marks x ≡ false → (m : Meant) → in_items (reverse front) x ≡ m → (b : Bool) → is_cps m ≡ b → KeptName x m (in_items (reverse items) x)
      unmarked_kept x e m i true c = kept_cps x m _ c
      unmarked_kept x e (AFunction mode r ps) i false c =
          let f = first x (AFunction mode r ps) (subst (λ k. Same k (item_named 0 front x)) i (known.same x)) tt in
          let last = function_last x mode r ps (in_items (reverse p) x) (whole_known.same x) f in
          subst (KeptName x (AFunction mode r ps)) (sym (stays x e (ap is_cps last ∙ c) ∙ last)) (KeptFunction mode r ps)
      unmarked_kept x e (AGlobal j t) i false c =
          let f = first x (AGlobal j t) (subst (λ k. Same k (item_named 0 front x)) i (known.same x)) tt in
          let last = global_last x f.0 t (in_items (reverse p) x) (whole_known.same x) f.1 in
          subst (KeptName x (AGlobal j t)) (sym (stays x e (ap is_cps last.1) ∙ last.1)) (KeptGlobal j last.0 t)
      unmarked_kept x e (ALocal j t) i false c = absurd (subst (λ k. Same k (item_named 0 front x)) i (known.same x))
      unmarked_kept x e NotMeant i false c = KeptNothing _ (λ prim k. kept_nothing p source.names source.named x (primitive_kept x prim k) items parts)

      name_kept : (x : Text) → KeptName x (in_items (reverse front) x) (in_items (reverse items) x)
      name_kept x = go (has_marks x) refl
        where
          go : (b : Bool) → has_marks x ≡ b → KeptName x (in_items (reverse front) x) (in_items (reverse items) x)
          go true e =
              subst (λ m. KeptName x m (in_items (reverse items) x)) (sym (marked_nothing p (front_of p (routines p)) source front_is front part x e))
              (KeptNothing _ (λ prim k. kept_nothing p source.names source.named x (primitive_kept x prim k) items parts))
          go false e = unmarked_kept x e (in_items (reverse front) x) refl (is_cps (in_items (reverse front) x)) refl

      spawner_kept : (x : Text) (r : Ty) (ps : List Ty) → in_items (reverse front) x ≡ AFunction Cps r ps → all_scalar ps ≡ true → in_items (reverse items) (spawner_name x) ≡ AFunction Native TyVoid ps
      spawner_kept x r ps e s =
          let g = defined p (front_of p (routines p)) source front_is front part x Cps r ps e refl in
          let mode : g.0.mode ≡ Cps = let z = g.3 in cc in
          let same : parameter_types g.0 ≡ ps = let z = g.3 in cc in
          let cps : IsCps p g.0 = record { has = g.1; mode = ap is_cps_mode mode } in
          ap (λ y. in_items (reverse items) (spawner_name y)) (sym g.2)
          ∙ (made_meant p source.names source.named (spawner_function g.0) (has_spawner p g.0 cps) items parts (declared _ (has_spawner p g.0 cps))
          ∙ ap (λ ts. AFunction Native TyVoid ts) (passed_types 0 g.0.parameters (locals g.0.body) (ap all_scalar same ∙ s) ∙ same))

      behind_marked : (tag : Text) (fs : List Variable) → Has (StructItem tag fs) (all_boxes rs ++ map function_item some) → has_marks tag ≡ true
      behind_marked tag fs h =
          ⊎_elim (λ a. boxes_marked p tag fs a) (λ a. let z : true ≡ false = functions_only some (StructItem tag fs) a in absurd (cc))
          (has_either (StructItem tag fs) (all_boxes rs) (map function_item some) h)

      grown : Grows front items
      grown =
          grows_on front p items (grows_at p source.fine front back is_front)
          (subst (Grows p) (sym (append_assoc (front_of p rs ++ kept_items p) (all_boxes rs) (map function_item some) ∙ append_assoc (front_of p rs) (kept_items p) (all_boxes rs ++ map function_item some)))
          (grows_of p _ (beyond_whole (front_of p rs) p (all_boxes rs ++ map function_item some) source.named.unmarked (beyond_none (front_of p rs) (front_structs p)) (beyond_none (all_boxes rs ++ map function_item some) behind_marked))))

      keeps : KeepsItems front items
      keeps = record { names = name_kept; cells = grown.cells; fields = grown.fields; spawners = spawner_kept }

    pub knows : converted p ≡ whole p (routines p) → Knows p items
    knows is = record {
      pieces = λ f c l o. made_meant p source.names source.named (piece_function p (routine_of p f) l) (has_piece p f c l o) items parts (declared _ (has_piece p f c l o));
      spawners = λ f c. made_meant p source.names source.named (spawner_function f) (has_spawner p f c) items parts (declared _ (has_spawner p f c));
      driver = driver_meant p source.names source.named items parts (in_front (FunctionItem drive_function) (has_right _ (frames p rs ++ prototypes p rs) driver (OnTop _ [])));
      stays = stays;
      keeps = keeps;
      nothing = λ x k. kept_nothing p source.names source.named x k items parts;
      cells = λ t. same_cells (before_made p rs) (map function_item some) (functions_only some) t
          ∙ sym (ap (λ q. cells q t) (is ∙ whole_made p) ∙ same_cells (before_made p rs) (definitions p rs ++ main_of p) (both_none (definitions p rs) (main_of p) (functions_only made) (main_none _)) t);
      fields = λ tag. same_fields (before_made p rs) (map function_item some) (functions_only some) tag
          ∙ sym (ap (λ q. fields q tag) (is ∙ whole_made p) ∙ same_fields (before_made p rs) (definitions p rs ++ main_of p) (both_none (definitions p rs) (main_of p) (functions_only made) (main_none _)) tag);
    }
