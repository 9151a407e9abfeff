-- The event program of an accepted program breaks no rule, where the bodies of what is made break none.
use Rattle.std.proofs.Common.{◌≡◌, ⊎_elim, not, Bool, true, false, List, [], ◌∷◌, ◌++◌, map, length, Option, Some, None, refl, sym, ◌∙◌, ap, subst}
use Rattle.cpc_base.specs.declared.stop.Place.{Place}
use Rattle.cpc_base.specs.declared.stop.Dialect.TheVariants as D
use Rattle.cpc_tree.specs.declared.program.Mode.TheVariants.{Native, Cps}
use Rattle.cpc_tree.specs.Grammar.{IsProgram}
use Rattle.cpc_tree.specs.Located.{LItem, LStruct, LGlobal, LPrototype, LFunctionItem, LProgram, bare, bare_item}
use Rattle.cpc_tree.specs.Registers.{outer_scope}
use Rattle.cpc_tree.specs.Syntax.{Function, Item, FunctionItem, Program}
use Rattle.cpc_tree.specs.Tokens.{Placed}
use Rattle.cpc_tree.specs.Typing.{function_named}
use Rattle.cpc_check_rules.specs.declared.rule.Rule.TheVariants.{NoMain}
use Rattle.cpc_check_rules.specs.Rule.{at_if}
use Rattle.cpc_check_rules.specs.ItemRules.{is_function, items_breaks}
use Rattle.cpc_check_rules.specs.Rules.{breaks, has_main}
use Rattle.cpc_check_laws.proofs.Native.NativeValues.{left_none, both_none}
use Rattle.cpc_check_laws.proofs.Native.OnePlace.{here, item_here, program_here, program_again}
use Rattle.cpc_check_laws.proofs.Native.PlacesItems.{unbroken_at_any_places}
use Rattle.cpc_meaning.specs.Start.{main_name}
use Rattle.cpc_meaning.specs.Threads as T
use Rattle.cpc_meaning.specs.Threads.{is_cps_mode}
use Rattle.cpc_check_laws.specs.Sound.Typed.{is_own}
use Rattle.cpc_check_laws.proofs.Sound.Agendas.{Each}
use Rattle.cpc_check_laws.proofs.Sound.Grammar.{items_shape}
use Rattle.cpc_check_laws.proofs.Sound.Programs.{ItemShape, program_typed}
use Rattle.cpc_lifted_laws.proofs.Complete.Steps.{has_steps}
use Rattle.cpc_convert_common.specs.Converted.{function_item}
use Rattle.cpc_convert_common.specs.Members.{Has, OnTop, Below}
use Rattle.cpc_convert_common.proofs.Members.{has_left, has_right}
use Rattle.cpc_chains_event.specs.Pieces.{spawner_function}
use Rattle.cpc_convert_routines.specs.Routines.{Routine}
use Rattle.cpc_convert_routines.specs.Kept.{kept_function, kept_items, routines}
use Rattle.cpc_chains_event.specs.Converted.{all_boxes, all_made, main_function, main_if, converted}
use Rattle.cpc_convert_routines.specs.Named.{IsCps}
use Rattle.cpc_chains_event.proofs.Made.{has_spawner}
use Rattle.cpc_lifted_laws.specs.Accepted.Functions.{HasMain}
use Rattle.cpc_lifted_laws.specs.Accepted.Pieces.{VariablesHaveCells}
use Rattle.cpc_lifted_laws.proofs.Accepted.Functions.{accepted_has_main}
use Rattle.cpc_lifted_laws.proofs.Accepted.Names.{accepted_has_names, accepted_is_named}
use Rattle.cpc_lifted_laws.proofs.Accepted.Pieces.{accepted_suits_pieces}
use Rattle.cpc_chains_laws.specs.Rules.Laws.{BodiesFine, Unbroken, BodiesSuffice}
use Rattle.cpc_chains_laws.proofs.Rules.Join.{main_has, native_main, main_row}
use Rattle.cpc_chains_laws.proofs.Rules.Kept.{KeepFunction, has_kept}
use Rattle.cpc_chains_laws.proofs.Rules.KeptRows.{Front, Source, function_has}
use Rattle.cpc_chains_laws.proofs.Rules.Known.{whole_made, front_is}
use Rattle.cpc_chains_laws.proofs.Rules.Parts.{frames, prototypes, driver, definitions, main_of, front_of, before_made, whole, converted_is, to_map}
use Rattle.cpc_lifted_laws.proofs.Rules.Rows.{rows, rows_append}
use Rattle.cpc_chains_laws.proofs.Rules.Staying.{kept_rows}
use Rattle.cpc_chains_laws.proofs.Rules.StructRows.{frame_rows, box_rows}
use Rattle.cpc_chains_laws.proofs.Rules.Target.{prototype_rows, driver_row, definition_rows}

-- a program at one place breaks no rule where its rows break none and it has a `main`
unbroken_here : (q : Program) → rows D.Event q [] q ≡ [] → has_main (map item_here q) ≡ true → breaks D.Event (program_here q) ≡ []
unbroken_here q h m = both_none _ _ (subst (λ z. items_breaks D.Event z [] (map item_here q) ≡ []) (sym (program_again q)) h) (both_none _ [] (ap (λ b. at_if (not b) here NoMain) m) refl)

module _ (p : Program) (source : Source p) (main : HasMain p) (cells : (f : Function) → IsCps p f → VariablesHaveCells p f) where
  main_there : Has (FunctionItem main.function) p × (main.function.called ≡ main_name)
  main_there = source.names.there main_name main.function main.named

  -- a native `main` stays
  kept_main : (q : Program) → ((i : Item) → Has i (kept_items p) → Has i q) → main.function.mode ≡ Native → has_main (map item_here q) ≡ true
  kept_main q inside e =
      main_has q (kept_function main.function) (inside _ (has_kept p _ _ main_there.0 (KeepFunction main.function (ap is_cps_mode e)))) (native_main (kept_function main.function) main_there.1 e main.result main.parameters)

  main_cps : main.function.mode ≡ Cps → IsCps p main.function
  main_cps e = record { has = main_there.0; mode = ap is_cps_mode e }

  -- ---- where something is made

  module _ (is : converted p ≡ whole p (routines p)) (bodies : BodiesFine p) where
    abbrev q : Program
    q = whole p (routines p)

    abbrev rs : List Routine
    rs = routines p

    in_whole : (i : Item) → Has i (before_made p rs ++ (definitions p rs ++ main_of p)) → Has i q
    in_whole i h = subst (Has i) (sym (whole_made p)) h

    kept_in : (i : Item) → Has i (kept_items p) → Has i q
    kept_in i h = in_whole i (has_left i (before_made p rs) _ (has_left i (front_of p rs ++ kept_items p) (all_boxes rs) (has_right i (front_of p rs) (kept_items p) h)))

    defined : (g : Function) → Has g (all_made p rs) → is_function g.called q ≡ true
    defined g h = function_has q g (in_whole _ (has_right _ (before_made p rs) _ (has_left _ (definitions p rs) (main_of p) (to_map function_item (all_made p rs) g h))))

    -- `main`, where it is cps
    main_rows : (o : Option Function) → function_named p main_name ≡ o → rows D.Event q (before_made p rs ++ definitions p rs) (main_if (T.is_cps o)) ≡ []
    main_rows None e = refl
    main_rows (Some f) e = go (is_cps_mode f.mode) refl
      where
        there : Has (FunctionItem f) p × (f.called ≡ main_name)
        there = source.names.there main_name f e

        none : f.parameters ≡ []
        none = let same : main.function ≡ f = (let z : Some main.function ≡ Some f = sym main.named ∙ e in cc) in subst (λ (g : Function). g.parameters ≡ []) same main.parameters

        go : (b : Bool) → is_cps_mode f.mode ≡ b → rows D.Event q (before_made p rs ++ definitions p rs) (main_if b) ≡ []
        go true c = main_row p source f (record { has = there.0; mode = c }) there.1 none q is
        go false c = refl

    whole_rows : rows D.Event q [] q ≡ []
    whole_rows =
        rows_append D.Event q [] (frames p rs) (prototypes p rs ++ (driver ++ (kept_items p ++ (all_boxes rs ++ (definitions p rs ++ main_of p))))) (frame_rows p source q)
        (rows_append D.Event q (frames p rs) (prototypes p rs) (driver ++ (kept_items p ++ (all_boxes rs ++ (definitions p rs ++ main_of p)))) (prototype_rows p source q defined)
        (rows_append D.Event q (frames p rs ++ prototypes p rs) driver (kept_items p ++ (all_boxes rs ++ (definitions p rs ++ main_of p))) (driver_row p source q)
        (rows_append D.Event q (front_of p rs) (kept_items p) (all_boxes rs ++ (definitions p rs ++ main_of p)) (kept_rows p (front_of p rs) q source (front_is p source) kept_in)
        (rows_append D.Event q (front_of p rs ++ kept_items p) (all_boxes rs) (definitions p rs ++ main_of p) (box_rows p source cells q)
        (rows_append D.Event q (before_made p rs) (definitions p rs) (main_of p) (definition_rows p source is bodies q) (main_rows (function_named p main_name) refl))))))

    whole_main : has_main (map item_here q) ≡ true
    whole_main = ⊎_elim (λ e. kept_main q kept_in e) (λ e. made_main e) main.mode
      where
        made_main : main.function.mode ≡ Cps → has_main (map item_here q) ≡ true
        made_main e =
            let c : T.is_cps (function_named p main_name) ≡ true = ap T.is_cps main.named ∙ ap is_cps_mode e in
            main_has q main_function (in_whole _ (has_right _ (before_made p rs) _ (has_right _ (definitions p rs) (main_of p) (subst (λ b. Has (FunctionItem main_function) (main_if b)) (sym c) (OnTop _ []))))) refl

    whole_unbroken : breaks D.Event (program_here (converted p)) ≡ []
    whole_unbroken = subst (λ z. breaks D.Event (program_here z) ≡ []) (sym is) (unbroken_here q whole_rows whole_main)

  -- ---- where nothing is

  module _ (is : converted p ≡ kept_items p) (none : routines p ≡ []) where
    no_cps : (f : Function) → IsCps p f → ⊥
    no_cps f c = nothing (subst (λ rs. Has (spawner_function f) (all_made p rs)) none (has_spawner p f c))
      where
        nothing : Has (spawner_function f) (all_made p []) → ⊥
        nothing h = elim h [ ]

    empty : Front p []
    empty = record { parts = λ i h. elim h [ ]; unmarked = λ z e i h d. elim h [ ]; structs = λ tag fs h. elim h [ ]; spawners = λ f c. absurd (no_cps f c) }

    kept_unbroken : breaks D.Event (program_here (converted p)) ≡ []
    kept_unbroken = subst (λ z. breaks D.Event (program_here z) ≡ []) (sym is)
        (unbroken_here (kept_items p) (kept_rows p [] (kept_items p) source empty (λ i h. h))
        (⊎_elim (λ e. kept_main (kept_items p) (λ i h. h) e) (λ e. absurd (no_cps main.function (main_cps e))) main.mode))

  -- in either case
  pub converted_unbroken : BodiesFine p → Unbroken p
  converted_unbroken bodies q e =
      unbroken_at_any_places D.Event (program_here (converted p)) q (program_again (converted p) ∙ sym e)
      (⊎_elim (λ is. whole_unbroken is bodies) (λ k. kept_unbroken k.0 k.1) (converted_is p))

-- ---- accepted programs

own_items : (xs : List LItem) → Each ItemShape xs → (f : Function) → Has (FunctionItem f) (map bare_item xs) → is_own f.mode ≡ true
own_items [] s f h = elim h [ ]
own_items (LStruct tag fs ∷ xs) s f (Below _ _ _ h) = own_items xs s.1 f h
own_items (LGlobal x t o ∷ xs) s f (Below _ _ _ h) = own_items xs s.1 f h
own_items (LPrototype q m x r ps ∷ xs) s f (Below _ _ _ h) = own_items xs s.1 f h
own_items (LFunctionItem g ∷ xs) s _ (OnTop _ _) = s.0.0
own_items (LFunctionItem g ∷ xs) s f (Below _ _ _ h) = own_items xs s.1 f h

-- what is known of an accepted program
pub source_of : (list : List Placed) (end : Place) (p : LProgram) → IsProgram D.Cpc list end p → breaks D.Cpc p ≡ [] → Source (bare p)
source_of list end p read h =
    let shape = items_shape list p.items read.1 read.3 in
    let names = accepted_has_names list end p read h in
    let one : breaks D.Cpc (program_here (bare p)) ≡ [] = unbroken_at_any_places D.Cpc p (program_here (bare p)) (sym (program_again (bare p))) h in
    let typed = program_typed D.Cpc p shape h in record {
      names = names;
      named = accepted_is_named list end p read h;
      fine = subst (λ z. rows D.Cpc z [] (bare p) ≡ []) (program_again (bare p)) (left_none _ _ one);
      own = own_items p.items shape;
      steps = λ f has. has_steps D.Cpc (bare p) f (outer_scope f) (length f.parameters) f.body (typed.functions f.called f (names.functions f has).found).body;
    }

pub bodies_suffice : BodiesSuffice
bodies_suffice list end p read h =
    converted_unbroken (bare p) (source_of list end p read h) (accepted_has_main list end p read h) (λ f c. (accepted_suits_pieces list end p read h f c.has).cells)
