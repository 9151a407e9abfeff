-- The whole event program: its items, one row behind the other, and its `main`.
use Rattle.std.proofs.Common.{◌≡◌, ⊎_elim, Bool, true, false, cond, [], ◌∷◌, ◌++◌, map, reverse, length, refl, sym, ◌∙◌, ap, subst, append_assoc, codes}
use Rattle.cpc_base.specs.Bytes.{Text}
use Rattle.cpc_base.specs.declared.stop.Dialect.TheVariants as D
use Rattle.cpc_num.specs.declared.kinds.Kind.TheVariants.{Int}
use Rattle.cpc_tree.specs.declared.program.Mode.TheVariants.{Native}
use Rattle.cpc_tree.specs.Registers.{variables}
use Rattle.cpc_tree.specs.Syntax.{TyVoid, TyInt, Function, Item, StructItem, GlobalItem, PrototypeItem, FunctionItem, Program}
use Rattle.cpc_tree.specs.Typing.{AGlobal, AFunction, item_named, parameter_type}
use Rattle.cpc_check_rules.specs.Scopes.{in_items}
use Rattle.cpc_check_rules.specs.ItemRules.{in_body, body_breaks}
use Rattle.cpc_check_rules.specs.Rules.{has_main, is_main}
use Rattle.cpc_check_laws.proofs.Native.OnePlace.{stmt_here, function_here, item_here}
use Rattle.cpc_meaning.specs.Start.{main_name}
use Rattle.cpc_meaning.specs.Threads.{is_cps_mode}
use Rattle.cpc_meaning.proofs.Functions.{same_text}
use Rattle.cpc_check_laws.proofs.Sound.Items.{last_first, named_more}
use Rattle.cpc_check_laws.proofs.Sound.Knowing.{Same}
use Rattle.cpc_convert_common.specs.Marks.{has_marks}
use Rattle.cpc_convert_common.specs.Converted.{spawner_name, function_item}
use Rattle.cpc_convert_common.specs.Members.{Has, OnTop, Below}
use Rattle.cpc_convert_common.proofs.Members.{has_either}
use Rattle.cpc_convert_common.proofs.Marks.{marked_has}
use Rattle.cpc_convert_routines.specs.Routines.{passed_from, passed}
use Rattle.cpc_chains_event.specs.Pieces.{parameter_of}
use Rattle.cpc_convert_routines.specs.Kept.{kept_items, routines}
use Rattle.cpc_chains_event.specs.Converted.{all_boxes, all_made, main_function, converted}
use Rattle.cpc_convert_routines.specs.Named.{IsCps}
use Rattle.cpc_chains_event.proofs.Apart.{spawner_is}
use Rattle.cpc_chains_event.proofs.Structs.{all_boxes_are}
use Rattle.cpc_chains_laws.proofs.Rules.FunctionRows.{definition_fine}
use Rattle.cpc_lifted_laws.proofs.Rules.Items.{Declares, beside_all}
use Rattle.cpc_chains_laws.proofs.Rules.Kept.{KeptItem, KeepStruct, KeepGlobal, KeepPrototype, KeepFunction, kept_has}
use Rattle.cpc_chains_laws.proofs.Rules.KeptRows.{Source, beside_other, declares_kept}
use Rattle.cpc_chains_laws.proofs.Rules.Known.{knows}
use Rattle.cpc_lifted_laws.proofs.Rules.Meant.{said, behind_meant}
use Rattle.cpc_chains_laws.proofs.Rules.Parts.{definitions, front_of, before_made, whole, structs_declare, front_unmarked, made_marked, From, IsFrom, from_map}
use Rattle.cpc_lifted_laws.proofs.Rules.Rows.{rows, row_more}
use Rattle.cpc_lifted_laws.proofs.Rules.Source.{signature, known_at}

-- ---- `main`

-- there is a `main` where one of the items is
pub main_has : (q : Program) (f : Function) → Has (FunctionItem f) q → is_main (function_here f) ≡ true → has_main (map item_here q) ≡ true
main_has _ f (OnTop _ q) e = ap (λ b. cond b true (has_main (map item_here q))) e
main_has _ f (Below _ (StructItem t fs) q h) e = main_has q f h e
main_has _ f (Below _ (GlobalItem x t s) q h) e = main_has q f h e
main_has _ f (Below _ (PrototypeItem m x r ps) q h) e = main_has q f h e
main_has _ f (Below _ (FunctionItem g) q h) e = go (is_main (function_here g)) (main_has q f h e)
  where
    go : (b : Bool) → has_main (map item_here q) ≡ true → cond b true (has_main (map item_here q)) ≡ true
    go true k = refl
    go false k = k

pub native_main : (f : Function) → f.called ≡ main_name → f.mode ≡ Native → f.result ≡ TyInt Int → f.parameters ≡ [] → is_main (function_here f) ≡ true
native_main f a b c d = rw (a, b, c, d) refl

module _ (p : Program) (source : Source p) where
  -- what an item of the source says of a name is what the name first stands for
  said_first : (x : Item) → Has x p → (z : Text) → Declares z x → Same (said x) (item_named 0 p z)
  said_first x h z d = at (split p h)
    where
      split : (xs : Program) → Has x xs → (a : Program) × (b : Program) × (xs ≡ a ++ x ∷ b)
      split _ (OnTop _ xs) = ([], xs, refl)
      split _ (Below _ y xs h) = let s = split xs h in (y ∷ s.0, s.1, ap (λ zs. y ∷ zs) s.2)

      says : (x : Item) (xs : Program) → Declares z x → in_items (x ∷ xs) z ≡ said x
      says (StructItem tag fs) xs d = absurd d
      says (GlobalItem g t s) xs d = ap (λ b. cond b (AGlobal 0 t) (in_items xs z)) d
      says (PrototypeItem m f r ps) xs d = ap (λ b. cond b (AFunction m r (map parameter_type ps)) (in_items xs z)) d
      says (FunctionItem f) xs d = ap (λ b. cond b (AFunction f.mode f.result (map parameter_type f.parameters)) (in_items xs z)) d

      more : (x : Item) (front back : Program) → Declares z x → Same (said x) (item_named 0 front z) → Same (said x) (item_named 0 (front ++ back) z)
      more (StructItem tag fs) front back d s = absurd d
      more (GlobalItem g t e) front back d s = (s.0, named_more 0 front back z (AGlobal s.0 t) tt s.1)
      more (PrototypeItem m f r ps) front back d s = named_more 0 front back z (AFunction m r (map parameter_type ps)) tt s
      more (FunctionItem f) front back d s = named_more 0 front back z (AFunction f.mode f.result (map parameter_type f.parameters)) tt s

      at : (a : Program) × (b : Program) × (p ≡ a ++ x ∷ b) → Same (said x) (item_named 0 p z)
      at s =
          let e : p ≡ (s.0 ++ x ∷ []) ++ s.1 = s.2 ∙ sym (append_assoc s.0 (x ∷ []) s.1) in
          let k = known_at p source.own source.fine (s.0 ++ x ∷ []) s.1 e in
          let last : in_items (reverse (s.0 ++ x ∷ [])) z ≡ said x = ap (λ ys. in_items ys z) (last_first s.0 x) ∙ says x (reverse s.0) d in
          subst (λ q. Same (said x) (item_named 0 q z)) (sym e) (more x (s.0 ++ x ∷ []) s.1 d (subst (λ m. Same m (item_named 0 (s.0 ++ x ∷ []) z)) last (k.same z)))

  module _ (f : Function) (cps : IsCps p f) (is_main_name : f.called ≡ main_name) (nothing : f.parameters ≡ []) where
    main_meant : item_named 0 p main_name ≡ AFunction f.mode f.result (map parameter_type f.parameters)
    main_meant = ap (item_named 0 p) (sym is_main_name) ∙ source.named.meant f cps.has

    -- nothing that stays is called so
    main_apart : (x y : Item) → Has x p → KeptItem x y → Declares main_name x → ⊥
    main_apart _ _ h (KeepStruct tag fs) d = d
    main_apart _ _ h (KeepGlobal g t s) d = let k = said_first (GlobalItem g t s) h main_name d in let z : AGlobal k.0 t ≡ AFunction f.mode f.result (map parameter_type f.parameters) = sym k.1 ∙ main_meant in absurd (cc)
    main_apart _ _ h (KeepPrototype m g r ps e) d =
        let k : AFunction m r (map parameter_type ps) ≡ AFunction f.mode f.result (map parameter_type f.parameters) = sym (said_first (PrototypeItem m g r ps) h main_name d) ∙ main_meant in
        let same : m ≡ f.mode = cc in
        let z : true ≡ false = sym cps.mode ∙ sym (ap is_cps_mode same) ∙ e in absurd (cc)
    main_apart _ _ h (KeepFunction g e) d =
        let k : AFunction g.mode g.result (map parameter_type g.parameters) ≡ AFunction f.mode f.result (map parameter_type f.parameters) = sym (said_first (FunctionItem g) h main_name d) ∙ main_meant in
        let same : g.mode ≡ f.mode = cc in
        let z : true ≡ false = sym cps.mode ∙ sym (ap is_cps_mode same) ∙ e in absurd (cc)

    abbrev all : Program
    all = before_made p (routines p) ++ definitions p (routines p)

    not_main : (i : Item) → Has i all → Declares main_name i → ⊥
    not_main i h d =
        ⊎_elim (λ k. ⊎_elim (λ l. ⊎_elim (λ m. front_unmarked p source.names source.named main_name refl i m d) (λ m. let x = kept_has p i m in main_apart x.0 i x.1 x.2 (declares_kept main_name x.0 i x.2 d)) (has_either i (front_of p (routines p)) (kept_items p) l))
        (λ l. structs_declare main_name (all_boxes (routines p)) (all_boxes_are (routines p)) i l d) (has_either i (front_of p (routines p) ++ kept_items p) (all_boxes (routines p)) k))
        (λ k. go i (from_map function_item (all_made p (routines p)) i k) d) (has_either i (before_made p (routines p)) (definitions p (routines p)) h)
      where
        go : (i : Item) → From function_item (all_made p (routines p)) i → Declares main_name i → ⊥
        go _ (IsFrom g k) d = let z : true ≡ false = sym (made_marked p source.names source.named g k) ∙ ap has_marks (same_text g.called main_name d) ∙ refl in absurd (cc)

    -- its spawner is known
    spawner_meant : converted p ≡ whole p (routines p) → in_items (reverse (all ++ FunctionItem main_function ∷ [])) (spawner_name main_name) ≡ AFunction Native TyVoid []
    spawner_meant is =
        let k = (knows p source (all_made p (routines p)) (λ g h. h) is).spawners f cps in
        let none : passed f ≡ [] = ap (λ ps. passed_from 0 (length ps) (variables f)) nothing in
        behind_meant (spawner_name main_name) all (FunctionItem main_function ∷ []) (λ i h d. other i h d)
        ∙ (ap (λ x. in_items (reverse all) (spawner_name x)) (sym is_main_name) ∙ (k ∙ ap (λ xs. AFunction Native TyVoid (map parameter_type (map parameter_of xs))) none))
      where
        other : (i : Item) → Has i (FunctionItem main_function ∷ []) → Declares (spawner_name main_name) i → ⊥
        other _ (OnTop _ _) d =
            let z : true ≡ false = sym (marked_has main_name (codes "spawn")) ∙ ap has_marks (sym (spawner_is main_name)) ∙ sym (ap has_marks (same_text main_name (spawner_name main_name) d)) ∙ refl in absurd (cc)
        other i (Below _ _ _ h) d = elim h [ ]

    main_body : converted p ≡ whole p (routines p) → body_breaks (in_body D.Event all (function_here main_function)) (stmt_here main_function.body) ≡ []
    main_body is = simp (spawner_meant is) refl

    pub main_row : (q : Program) → converted p ≡ whole p (routines p) → rows D.Event q all (FunctionItem main_function ∷ []) ≡ []
    main_row q is =
        let new = signature Native main_function.result main_function.parameters true in
        let beside = beside_all main_name new all (λ i h. beside_other main_name new i (not_main i h)) in
        row_more D.Event q all (FunctionItem main_function) []
        (definition_fine q all main_function (record { native = refl; free = refl; parameters = refl; sized = λ s. refl }) beside.0 beside.1
        (record { body = main_body is; names = refl; labelled = refl; stray = refl; few = refl })) refl
