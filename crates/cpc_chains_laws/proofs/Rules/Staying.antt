-- The rows of items that stay, each behind those that stay of the items before it.
use Rattle.std.proofs.Common.{◌≡◌, ⊎_elim, ◌&&◌, not, true, false, cond, List, [], ◌∷◌, ◌++◌, map, reverse, Option, Some, None, refl, sym, ◌∙◌, ap, subst, append_assoc}
use Rattle.std.specs.Prelude.{option_map}
use Rattle.cpc_base.specs.Bytes.{Text}
use Rattle.cpc_base.specs.declared.stop.Dialect.TheVariants as D
use Rattle.cpc_tree.specs.declared.program.Mode.{Mode}
use Rattle.cpc_tree.specs.declared.program.Mode.TheVariants.{Extern, Native, Cps, Detached}
use Rattle.cpc_tree.specs.Syntax.{Ty, TyStruct, Expr, ENamed, EInteger, ECharacter, EText, EUnary, EBinary, EAnd, EOr, EChoose, ECast, ESizeOf, EIndex, EMember, EArrow, ECall, Variable, Parameter, Function, Item, StructItem, GlobalItem, PrototypeItem, FunctionItem, Program}
use Rattle.cpc_tree.specs.Located.{bare_variable}
use Rattle.cpc_tree.specs.Typing.{AFunction, size, parameter_type}
use Rattle.cpc_check_rules.specs.declared.rule.Rule.TheVariants.{Twice, Disagree, Undeclared, Incomplete, CpsForm}
use Rattle.cpc_check_rules.specs.Rule.{at_if}
use Rattle.cpc_check_rules.specs.Scopes.{in_items, is_sized}
use Rattle.cpc_check_rules.specs.FunctionRules.{repeated, reserved_breaks, parameter_names}
use Rattle.cpc_check_rules.specs.StmtRules.{start_breaks}
use Rattle.cpc_check_rules.specs.ItemRules.{Signature, outside, is_struct, is_item, is_function, is_oversized, field_names, fields_breaks, is_extern, is_host_like, types, cps_breaks, declared_breaks, parameters_breaks, global_start, item_breaks}
use Rattle.cpc_check_laws.proofs.Native.NativeValues.{left_none, right_none, both_none, unbroken}
use Rattle.cpc_check_laws.proofs.Native.OnePlace.{here, ident_here, expr_here, variable_here, parameter_here, item_here, item_again}
use Rattle.cpc_check_laws.proofs.Native.NativeItems.{reserved_native}
use Rattle.cpc_meaning.specs.Threads.{is_cps_mode}
use Rattle.cpc_meaning.proofs.Functions.{text_same}
use Rattle.cpc_check_laws.specs.Sound.Typed.{is_own}
use Rattle.cpc_check_laws.proofs.Sound.Agreement.{Grows, sizes_grow}
use Rattle.cpc_check_laws.proofs.Sound.Items.{last_first}
use Rattle.cpc_check_laws.proofs.Sound.Unbroken.{holds_then}
use Rattle.cpc_lifted_laws.specs.Complete.Kept.{KeepsItems}
use Rattle.cpc_lifted_laws.specs.Complete.Reads.{Carries}
use Rattle.cpc_lifted_laws.proofs.Complete.Acts.{start_carried}
use Rattle.cpc_lifted_laws.proofs.Complete.KeptFunctions.{function_kept}
use Rattle.cpc_lifted_laws.proofs.Complete.Names.{unread, image_if_unread, stays}
use Rattle.cpc_convert_common.specs.Marks.{has_marks}
use Rattle.cpc_convert_common.specs.Members.{Has, OnTop, Below}
use Rattle.cpc_convert_common.proofs.Members.{has_either}
use Rattle.cpc_convert_routines.specs.Kept.{kept_function, kept_items}
use Rattle.cpc_lifted_laws.proofs.Accepted.Counts.{not_cps}
use Rattle.cpc_lifted_laws.proofs.Rules.Items.{beside_all, beside_each, no_struct, struct_none, no_item, item_none}
use Rattle.cpc_chains_laws.proofs.Rules.Kept.{KeptItem, KeepStruct, KeepGlobal, KeepPrototype, KeepFunction, KeptAt, kept_split, kept_has, has_kept, kept_last}
use Rattle.cpc_chains_laws.proofs.Rules.KeptRows.{Front, Source, grown, keeps, defined, beside_other, beside_kept, declares_kept, function_has}
use Rattle.cpc_lifted_laws.proofs.Rules.Rows.{rows, each_row, has_at}
use Rattle.cpc_lifted_laws.proofs.Rules.Source.{signature, row_split, settles}
use Rattle.cpc_chains_laws.proofs.Rules.Types.{sized_more, fields_more, struct_more}

-- what a row says of two dialects
parameters_fine : (ps : List Parameter) → parameters_breaks D.Cpc (map parameter_here ps) ≡ [] → parameters_breaks D.Event (map parameter_here ps) ≡ []
parameters_fine ps h =
    let xs = parameter_names (map parameter_here ps) in
    both_none _ _ (left_none _ _ h) (reserved_native xs (right_none (repeated Twice [] xs) _ h))

no_form : (m : Mode) → is_cps_mode m ≡ false → cps_breaks D.Event m here ≡ []
no_form m e = ap (λ b. at_if (b && true) here CpsForm) (not_cps m e)

module _ (p front q : Program) (source : Source p) (ahead : Front p front) (inside : (i : Item) → Has i (kept_items p) → Has i q) where
  abbrev ev : Program → Program
  ev xs = front ++ kept_items xs

  module _ (before back : Program) (x : Item) (is : p ≡ before ++ x ∷ back) where
    -- what the rules say of it in the source
    of_source : item_breaks D.Cpc p before (item_here x) ≡ []
    of_source = row_split D.Cpc p [] p source.fine before x back is

    part : (rest : Program) × (p ≡ before ++ rest)
    part = (x ∷ back, is)

    part_more : (rest : Program) × (p ≡ (before ++ x ∷ []) ++ rest)
    part_more = (back, is ∙ sym (append_assoc before (x ∷ []) back))

    in_before : (y : Item) → Has y before → Has y p
    in_before y h = subst (Has y) (sym is) (go before h)
      where
        go : (xs : Program) → Has y xs → Has y (xs ++ x ∷ back)
        go _ (OnTop _ xs) = OnTop y (xs ++ x ∷ back)
        go _ (Below _ z xs h) = Below y z (xs ++ x ∷ back) (go xs h)

    it_is : Has x p
    it_is = subst (Has x) (sym is) (has_at before back x)

    -- a declaration that may stand beside those of the source
    settled : (y : Text) (new : Signature) → has_marks y ≡ false → declared_breaks before (ident_here y) new ≡ [] → declared_breaks (ev before) (ident_here y) new ≡ []
    settled y new e h =
        let s = settles before y new h in
        let all = beside_all y new (ev before)
        (λ i k. ⊎_elim (λ a. beside_other y new i (ahead.unmarked y e i a))
        (λ b. let j = kept_has before i b in beside_kept y new j.0 i j.2 (beside_each y new before s.0 s.1 j.0 j.1)) (has_either i front (kept_items before) k)) in
        both_none _ _ (ap (λ b. at_if b here Twice) all.0) (ap (λ b. at_if b here Disagree) all.1)

  -- ---- structs

  struct_row : (before back : Program) (tag : Text) (fs : List Variable) → p ≡ before ++ StructItem tag fs ∷ back → item_breaks D.Event q (ev before) (item_here (StructItem tag fs)) ≡ []
  struct_row before back tag fs is =
      let h = of_source before back (StructItem tag fs) is in
      let g = grown p front source ahead before (part before back (StructItem tag fs) is) in
      let h1 = right_none (reserved_breaks D.Cpc (ident_here tag ∷ [])) _ h in
      let twice = unbroken (is_struct tag before) here Twice (left_none _ _ h1) in
      let h2 = right_none (at_if (is_struct tag before) here Twice) _ h1 in
      let over = unbroken (is_oversized (size (before ++ StructItem tag (map bare_variable (map variable_here fs)) ∷ []) (TyStruct tag))) here Incomplete (left_none _ _ h2) in
      let h3 = right_none (at_if (is_oversized (size (before ++ StructItem tag (map bare_variable (map variable_here fs)) ∷ []) (TyStruct tag))) here Incomplete) _ h2 in
      let h4 = right_none (repeated Twice [] (field_names (map variable_here fs))) _ h3 in
      both_none _ _ (reserved_native (ident_here tag ∷ []) (left_none _ _ h)) (both_none _ _ (ap (λ b. at_if b here Twice) (none twice))
      (both_none _ _ (ap (λ b. at_if b here Incomplete) (fits over g h4)) (both_none _ _ (left_none _ _ h3) (fields_more (outside D.Cpc before).scope (outside D.Event (ev before)).scope g (map variable_here fs) h4))))
    where
      plain : has_marks tag ≡ false
      plain = (source.names.items (StructItem tag fs) (it_is before back (StructItem tag fs) is)).unmarked

      none : is_struct tag before ≡ false → is_struct tag (ev before) ≡ false
      none twice =
          no_struct tag (ev before)
          (λ gs k. ⊎_elim (λ a. let z : true ≡ false = sym (ahead.structs tag gs a) ∙ plain in absurd (cc))
          (λ b. let j = kept_has before (StructItem tag gs) b in struct_none tag before twice gs (as_struct gs j.0 j.1 j.2) (text_same tag)) (has_either (StructItem tag gs) front (kept_items before) k))
        where
          as_struct : (gs : List Variable) (i : Item) → Has i before → KeptItem i (StructItem tag gs) → Has (StructItem tag gs) before
          as_struct gs _ h (KeepStruct _ _) = h

      fits : is_oversized (size (before ++ StructItem tag (map bare_variable (map variable_here fs)) ∷ []) (TyStruct tag)) ≡ false → Grows before (ev before) → fields_breaks (outside D.Cpc before).scope (map variable_here fs) ≡ []
          → is_oversized (size (ev before ++ StructItem tag (map bare_variable (map variable_here fs)) ∷ []) (TyStruct tag)) ≡ false
      fits over g h4 =
          subst (λ y. is_oversized (size (ev before ++ y ∷ []) (TyStruct tag)) ≡ false) (sym (item_again (StructItem tag fs)))
          (struct_more (outside D.Cpc before).scope (outside D.Event (ev before)).scope g tag fs h4 (subst (λ y. is_oversized (size (before ++ y ∷ []) (TyStruct tag)) ≡ false) (item_again (StructItem tag fs)) over))

  -- ---- globals

  -- what a global starts with is read as in the source
  carries : (before back : Program) (x : Item) → p ≡ before ++ x ∷ back → Carries (outside D.Cpc before) (outside D.Event (ev before)) unread
  carries before back x is =
      let k = keeps p front source ahead before (part before back x is) in
      record { names = λ y. stays (outside D.Event (ev before)).scope y (in_items (reverse before) y) (k.names y); cells = k.cells; fields = k.fields; closed = refl; source = refl; target = refl }

  started : (before back : Program) (x : Item) → p ≡ before ++ x ∷ back → (y : Text) (t : Ty) (e : Expr) → start_breaks (outside D.Cpc before) (ident_here y) t (Some (expr_here e)) ≡ [] → start_breaks (outside D.Event (ev before)) (ident_here y) t (Some (expr_here e)) ≡ []
  started before back x is y t e h =
      subst (λ o. start_breaks (outside D.Event (ev before)) (ident_here y) t (option_map expr_here o) ≡ []) (image_if_unread (Some e))
      (start_carried (outside D.Cpc before) (outside D.Event (ev before)) unread (carries before back x is) y y t (Some e) h)

  start_row : (before back : Program) (x : Item) → p ≡ before ++ x ∷ back → (y : Text) (t : Ty) (o : Option Expr) → global_start (outside D.Cpc before) (ident_here y) t (option_map expr_here o) ≡ []
      → global_start (outside D.Event (ev before)) (ident_here y) t (option_map expr_here o) ≡ []
  start_row before back x is y t None h = refl
  start_row before back x is y t (Some (EText bytes)) h = h
  start_row before back x is y t (Some (ENamed z)) h = started before back x is y t (ENamed z) h
  start_row before back x is y t (Some (EInteger k z)) h = started before back x is y t (EInteger k z) h
  start_row before back x is y t (Some (ECharacter z)) h = started before back x is y t (ECharacter z) h
  start_row before back x is y t (Some (EUnary s e)) h = started before back x is y t (EUnary s e) h
  start_row before back x is y t (Some (EBinary o a b)) h = started before back x is y t (EBinary o a b) h
  start_row before back x is y t (Some (EAnd a b)) h = started before back x is y t (EAnd a b) h
  start_row before back x is y t (Some (EOr a b)) h = started before back x is y t (EOr a b) h
  start_row before back x is y t (Some (EChoose c a b)) h = started before back x is y t (EChoose c a b) h
  start_row before back x is y t (Some (ECast u e)) h = started before back x is y t (ECast u e) h
  start_row before back x is y t (Some (ESizeOf u)) h = started before back x is y t (ESizeOf u) h
  start_row before back x is y t (Some (EIndex a i)) h = started before back x is y t (EIndex a i) h
  start_row before back x is y t (Some (EMember e z)) h = started before back x is y t (EMember e z) h
  start_row before back x is y t (Some (EArrow e z)) h = started before back x is y t (EArrow e z) h
  start_row before back x is y t (Some (ECall f es)) h = started before back x is y t (ECall f es) h

  global_row : (before back : Program) (y : Text) (t : Ty) (o : Option Expr) → p ≡ before ++ GlobalItem y t o ∷ back → item_breaks D.Event q (ev before) (item_here (GlobalItem y t o)) ≡ []
  global_row before back y t o is =
      let h = of_source before back (GlobalItem y t o) is in
      let g = grown p front source ahead before (part before back (GlobalItem y t o) is) in
      let h1 = right_none (reserved_breaks D.Cpc (ident_here y ∷ [])) _ h in
      let twice = unbroken (is_item y before) here Twice (left_none _ _ h1) in
      let h2 = right_none (at_if (is_item y before) here Twice) _ h1 in
      let s = holds_then (is_sized (outside D.Cpc before).scope t) here Incomplete (left_none _ _ h2) in
      let h3 = right_none (at_if (not (is_sized (outside D.Cpc before).scope t)) here Incomplete) _ h2 in
      both_none _ _ (reserved_native (ident_here y ∷ []) (left_none _ _ h)) (both_none _ _ (ap (λ b. at_if b here Twice) (none twice))
      (both_none _ _ (ap (λ b. at_if (not b) here Incomplete) (sized_more (outside D.Cpc before).scope (outside D.Event (ev before)).scope g t s)) (start_row before back (GlobalItem y t o) is y t o h3)))
    where
      plain : has_marks y ≡ false
      plain = (source.names.items (GlobalItem y t o) (it_is before back (GlobalItem y t o) is)).unmarked

      none : is_item y before ≡ false → is_item y (ev before) ≡ false
      none twice = no_item y (ev before) (λ i k d. ⊎_elim (λ a. ahead.unmarked y plain i a d) (λ b. let j = kept_has before i b in item_none y before twice j.0 j.1 (declares_kept y j.0 i j.2 d)) (has_either i front (kept_items before) k))

  -- ---- functions

  prototype_row : (before back : Program) (m : Mode) (f : Text) (r : Ty) (ps : List Parameter) → is_cps_mode m ≡ false → p ≡ before ++ PrototypeItem m f r ps ∷ back → item_breaks D.Event q (ev before) (item_here (PrototypeItem m f r ps)) ≡ []
  prototype_row before back m f r ps e is =
      let h = of_source before back (PrototypeItem m f r ps) is in
      let new = signature m r ps false in
      let h1 = right_none (reserved_breaks D.Cpc (ident_here f ∷ [])) _ h in
      let h2 = right_none (cps_breaks D.Cpc m here) _ h1 in
      let h3 = right_none (declared_breaks before (ident_here f) new) _ h2 in
      let h4 = right_none (at_if (is_extern m && not (is_host_like r (types (map parameter_here ps)))) here Disagree) _ h3 in
      let there = unbroken (not (is_extern m) && not (is_function f p)) here Undeclared (left_none _ _ h4) in
      let h5 = right_none (at_if (not (is_extern m) && not (is_function f p)) here Undeclared) _ h4 in
      both_none _ _ (reserved_native (ident_here f ∷ []) (left_none _ _ h)) (both_none _ _ (no_form m e)
      (both_none _ _ (settled before back (PrototypeItem m f r ps) is f new (source.names.items (PrototypeItem m f r ps) (it_is before back (PrototypeItem m f r ps) is)).unmarked (left_none _ _ h2))
      (both_none _ _ (left_none _ _ h3) (both_none _ _ (ap (λ b. at_if b here Undeclared) (stays_there m refl)) (parameters_fine ps h5)))))
    where
      meant : in_items (reverse (before ++ PrototypeItem m f r ps ∷ [])) f ≡ AFunction m r (map parameter_type ps)
      meant = ap (λ xs. in_items xs f) (last_first before (PrototypeItem m f r ps)) ∙ ap (λ b. cond b (AFunction m r (map parameter_type ps)) (in_items (reverse before) f)) (text_same f)

      found : is_own m ≡ true → is_function f q ≡ true
      found own =
          let g = defined p front source ahead (before ++ PrototypeItem m f r ps ∷ []) (part_more before back (PrototypeItem m f r ps) is) f m r (map parameter_type ps) meant own in
          let mode : g.0.mode ≡ m = let z = g.3 in cc in
          let stay = has_kept p (FunctionItem g.0) (FunctionItem (kept_function g.0)) g.1 (KeepFunction g.0 (ap is_cps_mode mode ∙ e)) in
          subst (λ x. is_function x q ≡ true) g.2 (function_has q (kept_function g.0) (inside _ stay))

      stays_there : (n : Mode) → n ≡ m → (not (is_extern n) && not (is_function f q)) ≡ false
      stays_there Extern k = refl
      stays_there Native k = ap not (found (sym (ap is_own k)))
      stays_there Cps k = ap not (found (sym (ap is_own k)))
      stays_there Detached k = ap not (found (sym (ap is_own k)))

  function_row : (before back : Program) (f : Function) → is_cps_mode f.mode ≡ false → p ≡ before ++ FunctionItem f ∷ back → item_breaks D.Event q (ev before) (item_here (FunctionItem (kept_function f))) ≡ []
  function_row before back f e is =
      let x = FunctionItem f in
      let h = of_source before back x is in
      let new = signature f.mode f.result f.parameters true in
      let h1 = right_none (reserved_breaks D.Cpc (ident_here f.called ∷ [])) _ h in
      let h2 = right_none (cps_breaks D.Cpc f.mode here) _ h1 in
      let more = keeps p front source ahead (before ++ x ∷ []) (part_more before back x is) in
      function_kept before (ev before) f (not_cps f.mode e) (subst (KeepsItems (before ++ x ∷ [])) (sym (kept_last front before x (FunctionItem (kept_function f)) (KeepFunction f e))) more)
      (source.steps f (it_is before back x is)) (sizes_grow before (ev before) (grown p front source ahead before (part before back x is)))
      (settled before back x is f.called new (source.names.items x (it_is before back x is)).unmarked (left_none _ _ h2)) h

  -- ---- all of them

  stays_row : (before back : Program) (x y : Item) → KeptItem x y → p ≡ before ++ x ∷ back → item_breaks D.Event q (ev before) (item_here y) ≡ []
  stays_row before back _ _ (KeepStruct tag fs) is = struct_row before back tag fs is
  stays_row before back _ _ (KeepGlobal y t o) is = global_row before back y t o is
  stays_row before back _ _ (KeepPrototype m f r ps e) is = prototype_row before back m f r ps e is
  stays_row before back _ _ (KeepFunction f e) is = function_row before back f e is

  -- the items that stay break no rule of the dialect Event
  pub kept_rows : rows D.Event q front (kept_items p) ≡ []
  kept_rows = each_row D.Event q front (kept_items p) (λ some y back e. go some y (kept_split p some back y e))
    where
      go : (some : Program) (y : Item) → KeptAt p some y → item_breaks D.Event q (front ++ some) (item_here y) ≡ []
      go some y k = subst (λ xs. item_breaks D.Event q (front ++ xs) (item_here y) ≡ []) (sym k.front_is) (stays_row k.before k.after k.item y k.kept k.is)
