-- What a program breaks is what its items break by themselves, and what lies between them or in the whole.
use Rattle.std.proofs.Common.{ℕ, ◌<◌, zero, suc, ◌&&◌, not, true, false, List, [], ◌∷◌, ◌++◌, length, map, take, inl, inr, sym, subst, append_assoc, arith}
use Rattle.std.specs.Prelude.{◌⊎◌, slice_get}
use Rattle.std.specs.List.{Contains}
use Rattle.std.proofs.lemmas.List.{append-nil}
use Rattle.std.proofs.lemmas.List.Elements.{Contains-append_left, Contains-append_right, Contains-append_cases}
use Rattle.cpc_base.specs.declared.stop.Place.{Place}
use Rattle.cpc_base.specs.declared.stop.Dialect.{Dialect}
use Rattle.cpc_tree.specs.Syntax.{TyStruct, Program}
use Rattle.cpc_tree.specs.Typing.{size}
use Rattle.cpc_tree.specs.Located.{LItem, LStruct, LGlobal, LPrototype, LFunctionItem, LProgram, bare, bare_item}
use Rattle.cpc_check_rules.specs.declared.rule.Rule.{Rule}
use Rattle.cpc_check_rules.specs.declared.rule.Rule.TheVariants.{Undeclared, Twice, Disagree, Incomplete, NoMain}
use Rattle.cpc_check_rules.specs.Rule.{Broken, at_if}
use Rattle.cpc_check_rules.specs.Rules.{breaks, has_main, breadth_breaks}
use Rattle.cpc_check_rules.specs.Scopes.{is_sized}
use Rattle.cpc_check_rules.specs.FunctionRules.{repeated, reserved_breaks}
use Rattle.cpc_check_rules.specs.ItemRules as R
use Rattle.cpc_check_items.specs.Parts.{tail_parts}
use Rattle.cpc_check_parts.specs.ItemParts.{item_own, item_beside, items_beside}
use Rattle.cpc_check_parts.specs.Parts.{whole, own, own_of}

-- ---- rows of several parts

module _ (b : Place × Rule) where
  abbrev In : Broken → Type 0
  In xs = Contains xs b

  L : (xs ys : Broken) → In xs → In (xs ++ ys)
  L xs ys m = Contains-append_left xs ys b m

  R' : (xs ys : Broken) → In ys → In (xs ++ ys)
  R' xs ys m = Contains-append_right xs ys b m

  cases : {Z : Type 0} (xs ys : Broken) → (In xs → Z) → (In ys → Z) → In (xs ++ ys) → Z
  cases xs ys f g m = elim (Contains-append_cases xs ys b m) [ inl n ↦ f n | inr n ↦ g n ]

  -- one part of a row is taken out
  out_of_three : (r d t : Broken) → In (r ++ (d ++ t)) → In (r ++ t) ⊎ In d
  out_of_three r d t = cases r (d ++ t) (λ m. inl (L r t m)) (cases d t (λ m. inr m) (λ m. inl (R' r t m)))

  into_three : (r d t : Broken) → In (r ++ t) ⊎ In d → In (r ++ (d ++ t))
  into_three r d t (inl m) = cases r t (λ m. L r (d ++ t) m) (λ m. R' r (d ++ t) (R' d t m)) m
  into_three r d t (inr m) = R' r (d ++ t) (L d t m)

  -- two parts of a row are taken out
  out_of_six : (r c d h u t : Broken) → In (r ++ (c ++ (d ++ (h ++ (u ++ t))))) → In (r ++ (c ++ (h ++ t))) ⊎ In (d ++ u)
  out_of_six r c d h u t =
      cases r _ (λ m. inl (L r (c ++ (h ++ t)) m)) (cases c _ (λ m. inl (R' r (c ++ (h ++ t)) (L c (h ++ t) m))) (cases d _ (λ m. inr (L d u m))
      (cases h _ (λ m. inl (R' r (c ++ (h ++ t)) (R' c (h ++ t) (L h t m)))) (cases u t (λ m. inr (R' d u m)) (λ m. inl (R' r (c ++ (h ++ t)) (R' c (h ++ t) (R' h t m))))))))

  into_six : (r c d h u t : Broken) → In (r ++ (c ++ (h ++ t))) ⊎ In (d ++ u) → In (r ++ (c ++ (d ++ (h ++ (u ++ t)))))
  into_six r c d h u t (inl m) =
      cases r (c ++ (h ++ t)) (λ m. L r _ m) (cases c (h ++ t) (λ m. R' r _ (L c _ m)) (cases h t (λ m. R' r _ (R' c _ (R' d _ (L h _ m)))) (λ m. R' r _ (R' c _ (R' d _ (R' h _ (R' u t m))))))) m
  into_six r c d h u t (inr m) = cases d u (λ m. R' r _ (R' c _ (L d _ m))) (λ m. R' r _ (R' c _ (R' d _ (R' h _ (L u t m))))) m

  -- a part is taken out of a head, which stands before the rest
  out_of_head : (r c d p s t : Broken) → In (r ++ (c ++ (d ++ (p ++ (s ++ t))))) → In ((r ++ (c ++ (p ++ s))) ++ t) ⊎ In d
  out_of_head r c d p s t =
      let front : In (r ++ (c ++ (p ++ s))) → In ((r ++ (c ++ (p ++ s))) ++ t) ⊎ In d = λ m. inl (L (r ++ (c ++ (p ++ s))) t m) in
      cases r _ (λ m. front (L r _ m)) (cases c _ (λ m. front (R' r _ (L c _ m))) (cases d _ (λ m. inr m)
      (cases p _ (λ m. front (R' r _ (R' c _ (L p s m)))) (cases s t (λ m. front (R' r _ (R' c _ (R' p s m)))) (λ m. inl (R' (r ++ (c ++ (p ++ s))) t m))))))

  into_head : (r c d p s t : Broken) → In ((r ++ (c ++ (p ++ s))) ++ t) ⊎ In d → In (r ++ (c ++ (d ++ (p ++ (s ++ t)))))
  into_head r c d p s t (inl m) =
      cases (r ++ (c ++ (p ++ s))) t
      (cases r _ (λ m. L r _ m) (cases c _ (λ m. R' r _ (L c _ m)) (cases p s (λ m. R' r _ (R' c _ (R' d _ (L p _ m)))) (λ m. R' r _ (R' c _ (R' d _ (R' p _ (L s t m))))))))
      (λ m. R' r _ (R' c _ (R' d _ (R' p _ (R' s t m))))) m
  into_head r c d p s t (inr m) = R' r _ (R' c _ (L d _ m))

  -- ---- one item

  module _ (dialect : Dialect) (program before : Program) where
    out_of_item : (x : LItem) → In (R.item_breaks dialect program before x) → In (item_own dialect before x) ⊎ In (item_beside program before x)
    out_of_item (LStruct tag fs) =
        out_of_three (reserved_breaks dialect (tag ∷ [])) (at_if (R.is_struct tag.text before) tag.place Twice)
        (at_if (R.is_oversized (size (before ++ bare_item (LStruct tag fs) ∷ []) (TyStruct tag.text))) tag.place Incomplete ++ (repeated Twice [] (R.field_names fs) ++ R.fields_breaks (R.outside dialect before).scope fs))
    out_of_item (LGlobal x t start) =
        out_of_three (reserved_breaks dialect (x ∷ [])) (at_if (R.is_item x.text before) x.place Twice)
        (at_if (not (is_sized (R.outside dialect before).scope t)) x.place Incomplete ++ R.global_start (R.outside dialect before) x t start)
    out_of_item (LPrototype q mode x r ps) =
        out_of_six (reserved_breaks dialect (x ∷ [])) (R.cps_breaks dialect mode q)
        (R.declared_breaks before x (record { mode = mode; result = r; parameters = R.types ps; is_defined = false }))
        (at_if (R.is_extern mode && not (R.is_host_like r (R.types ps))) x.place Disagree)
        (at_if (not (R.is_extern mode) && not (R.is_function x.text program)) x.place Undeclared) (R.parameters_breaks dialect ps)
    out_of_item (LFunctionItem f) =
        out_of_head (reserved_breaks dialect (f.called ∷ [])) (R.cps_breaks dialect f.mode f.place)
        (R.declared_breaks before f.called (record { mode = f.mode; result = f.result; parameters = R.types f.parameters; is_defined = true }))
        (R.parameters_breaks dialect f.parameters) (R.sized_breaks (R.outside dialect before).scope f.parameters)
        (R.body_breaks (R.in_body dialect before f) f.body ++ tail_parts dialect f)

    into_item : (x : LItem) → In (item_own dialect before x) ⊎ In (item_beside program before x) → In (R.item_breaks dialect program before x)
    into_item (LStruct tag fs) =
        into_three (reserved_breaks dialect (tag ∷ [])) (at_if (R.is_struct tag.text before) tag.place Twice)
        (at_if (R.is_oversized (size (before ++ bare_item (LStruct tag fs) ∷ []) (TyStruct tag.text))) tag.place Incomplete ++ (repeated Twice [] (R.field_names fs) ++ R.fields_breaks (R.outside dialect before).scope fs))
    into_item (LGlobal x t start) =
        into_three (reserved_breaks dialect (x ∷ [])) (at_if (R.is_item x.text before) x.place Twice)
        (at_if (not (is_sized (R.outside dialect before).scope t)) x.place Incomplete ++ R.global_start (R.outside dialect before) x t start)
    into_item (LPrototype q mode x r ps) =
        into_six (reserved_breaks dialect (x ∷ [])) (R.cps_breaks dialect mode q)
        (R.declared_breaks before x (record { mode = mode; result = r; parameters = R.types ps; is_defined = false }))
        (at_if (R.is_extern mode && not (R.is_host_like r (R.types ps))) x.place Disagree)
        (at_if (not (R.is_extern mode) && not (R.is_function x.text program)) x.place Undeclared) (R.parameters_breaks dialect ps)
    into_item (LFunctionItem f) =
        into_head (reserved_breaks dialect (f.called ∷ [])) (R.cps_breaks dialect f.mode f.place)
        (R.declared_breaks before f.called (record { mode = f.mode; result = f.result; parameters = R.types f.parameters; is_defined = true }))
        (R.parameters_breaks dialect f.parameters) (R.sized_breaks (R.outside dialect before).scope f.parameters)
        (R.body_breaks (R.in_body dialect before f) f.body ++ tail_parts dialect f)

  -- ---- all items

  module _ (dialect : Dialect) (program : Program) where
    -- what some of these items breaks by what stands in it
    abbrev Owned : Program → List LItem → Type 0
    Owned before xs = (i : ℕ) × (i < length xs) × In (own_of dialect (before ++ map bare_item (take i xs)) (slice_get xs i))

    first_owned : (before : Program) (x : LItem) (xs : List LItem) → In (item_own dialect before x) → Owned before (x ∷ xs)
    first_owned before x xs m = (0, omega arith, subst (λ y. In (item_own dialect y x)) (sym (append-nil before)) m)

    later_owned : (before : Program) (x : LItem) (xs : List LItem) → Owned (before ++ bare_item x ∷ []) xs → Owned before (x ∷ xs)
    later_owned before x xs (i, lt, m) =
        (suc i, omega (arith, lt), subst (λ y. In (own_of dialect y (slice_get xs i))) (append_assoc before (bare_item x ∷ []) (map bare_item (take i xs))) m)

    out_of_items : (before : Program) (xs : List LItem) → In (R.items_breaks dialect program before xs) → In (items_beside program before xs) ⊎ Owned before xs
    out_of_items before [] (k, lt, e) = absurd (omega (arith, lt))
    out_of_items before (x ∷ xs) m =
        let rest = items_beside program (before ++ bare_item x ∷ []) xs in
        cases (R.item_breaks dialect program before x) (R.items_breaks dialect program (before ++ bare_item x ∷ []) xs)
        (λ m. elim (out_of_item dialect program before x m) [ inl n ↦ inr (first_owned before x xs n) | inr n ↦ inl (L (item_beside program before x) rest n) ])
        (λ m. elim (out_of_items (before ++ bare_item x ∷ []) xs m) [ inl n ↦ inl (R' (item_beside program before x) rest n) | inr n ↦ inr (later_owned before x xs n) ]) m

    besides_in : (before : Program) (xs : List LItem) → In (items_beside program before xs) → In (R.items_breaks dialect program before xs)
    besides_in before [] m = m
    besides_in before (x ∷ xs) m =
        let here = R.item_breaks dialect program before x in
        let rest = R.items_breaks dialect program (before ++ bare_item x ∷ []) xs in
        cases (item_beside program before x) (items_beside program (before ++ bare_item x ∷ []) xs) (λ m. L here rest (into_item dialect program before x (inr m))) (λ m. R' here rest (besides_in (before ++ bare_item x ∷ []) xs m)) m

    owned_in : (before : Program) (xs : List LItem) (i : ℕ) → i < length xs → In (own_of dialect (before ++ map bare_item (take i xs)) (slice_get xs i)) → In (R.items_breaks dialect program before xs)
    owned_in before [] i lt m = absurd (omega (arith, lt))
    owned_in before (x ∷ xs) zero lt m =
        L (R.item_breaks dialect program before x) (R.items_breaks dialect program (before ++ bare_item x ∷ []) xs)
        (into_item dialect program before x (inl (subst (λ y. In (item_own dialect y x)) (append-nil before) m)))
    owned_in before (x ∷ xs) (suc i) lt m =
        R' (R.item_breaks dialect program before x) (R.items_breaks dialect program (before ++ bare_item x ∷ []) xs)
        (owned_in (before ++ bare_item x ∷ []) xs i (omega (arith, lt)) (subst (λ y. In (own_of dialect y (slice_get xs i))) (sym (append_assoc before (bare_item x ∷ []) (map bare_item (take i xs)))) m))

  -- ---- the program

  abbrev OwnedIn : Dialect → LProgram → Type 0
  OwnedIn dialect p = (i : ℕ) × (i < length p.items) × In (own dialect p i)

  pub out_of_program : (dialect : Dialect) (p : LProgram) → In (breaks dialect p) → In (whole dialect p) ⊎ OwnedIn dialect p
  out_of_program dialect p m =
      let between = items_beside (bare p) [] p.items in
      let rest = at_if (not (has_main p.items)) p.end NoMain ++ breadth_breaks dialect p.items in
      cases (R.items_breaks dialect (bare p) [] p.items) rest
      (λ m. elim (out_of_items dialect (bare p) [] p.items m) [ inl n ↦ inl (L between rest n) | inr n ↦ inr n ]) (λ m. inl (R' between rest m)) m

  pub into_program : (dialect : Dialect) (p : LProgram) → In (whole dialect p) ⊎ OwnedIn dialect p → In (breaks dialect p)
  into_program dialect p (inl m) =
      let items = R.items_breaks dialect (bare p) [] p.items in
      let rest = at_if (not (has_main p.items)) p.end NoMain ++ breadth_breaks dialect p.items in
      cases (items_beside (bare p) [] p.items) rest (λ m. L items rest (besides_in dialect (bare p) [] p.items m)) (λ m. R' items rest m) m
  into_program dialect p (inr (i, lt, m)) =
      L (R.items_breaks dialect (bare p) [] p.items) (at_if (not (has_main p.items)) p.end NoMain ++ breadth_breaks dialect p.items) (owned_in dialect (bare p) [] p.items i lt m)
