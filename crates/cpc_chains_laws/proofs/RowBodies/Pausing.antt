-- The rows of cps statements, and of their arrivals, break no rule.
use Rattle.std.proofs.Common.{◌≡◌, ℕ, true, List, [], ◌∷◌, map, reverse, codes, Option, Some, None, option_map, refl, sym, ◌∙◌, ap, subst}
use Rattle.cpc_base.specs.Bytes.{Text}
use Rattle.cpc_base.specs.declared.stop.Dialect.TheVariants as D
use Rattle.cpc_num.specs.declared.kinds.Kind.TheVariants.{Int}
use Rattle.cpc_tree.specs.declared.program.Mode.TheVariants.{Cps, Detached}
use Rattle.cpc_tree.specs.Lists.{holds_number}
use Rattle.cpc_tree.specs.Points.{Path, Simple}
use Rattle.cpc_tree.specs.Primitives.{Primitive, Yield, Sleep, IoWait, Wait, RtDetach, primitive_named, takes_first}
use Rattle.cpc_tree.specs.Syntax.{Ty, TyInt, TyPointer, TyStruct, Expr, ENamed, Exprs, Stmt, Call, Detach, Function, Program}
use Rattle.cpc_tree.specs.Typing as T
use Rattle.cpc_tree.specs.Typing.{Meant, ALocal, AGlobal, AFunction, NotMeant, named, item_named, function_named, parameter_types}
use Rattle.cpc_check_rules.specs.Scopes as S
use Rattle.cpc_check_rules.specs.Scopes.{in_items, meant}
use Rattle.cpc_check_rules.specs.Operators.{Where}
use Rattle.cpc_check_rules.specs.Calls.{wanted_of, gives, gives_up, takes_section, callee, result, named_breaks, unmeant_breaks}
use Rattle.cpc_check_rules.specs.ExprRules.{called_breaks, expr_breaks}
use Rattle.cpc_check_rules.specs.StmtRules.{to_breaks, stmt_breaks}
use Rattle.cpc_check_laws.proofs.Native.OnePlace.{here, expr_here, exprs_here, stmt_here}
use Rattle.cpc_check_laws.proofs.Sound.Items.{named_more}
use Rattle.cpc_check_laws.proofs.Sound.Knowing.{Same}
use Rattle.cpc_check_laws.proofs.Sound.Unbroken.{split, not_broken}
use Rattle.cpc_check_laws.proofs.Run.Names.{primitive_kept}
use Rattle.cpc_meaning.specs.Act.{AtStatement}
use Rattle.cpc_meaning.specs.Threads.{is_cps}
use Rattle.cpc_meaning.specs.Ways.{AsCps, primitive_manner}
use Rattle.cpc_chains_laws.specs.Complete.Flat.{Runs, NoRow, AndLine}
use Rattle.cpc_lifted_laws.specs.Complete.Kept.{KeptName, KeptFunction}
use Rattle.cpc_lifted_laws.specs.Complete.Sets.{AllSet, AllSuit, Gives, is_simple}
use Rattle.cpc_lifted_laws.specs.Complete.Standing.{local_named, local_or, Tells}
use Rattle.cpc_lifted_laws.proofs.Complete.Called.{section_there}
use Rattle.cpc_chains_laws.proofs.Complete.Flat.{runs_both}
use Rattle.cpc_chains_laws.proofs.Complete.Frames.{runtime, pointer_sets, wait_fine, nothing_fine}
use Rattle.cpc_lifted_laws.proofs.Complete.Makers.{callback_suits}
use Rattle.cpc_lifted_laws.proofs.Complete.Parts.{call_parts, primitive_parts, section_parts}
use Rattle.cpc_lifted_laws.proofs.Complete.Rows.{detach_fine}
use Rattle.cpc_convert_common.specs.Members.{Has}
use Rattle.cpc_convert_image_laws.specs.Images.{Readings, images}
use Rattle.cpc_forms.specs.Flow.{Place, At}
use Rattle.cpc_lift_laws.specs.Used.{used_in, used_among, used_if, used_by}
use Rattle.cpc_chains_store_laws.specs.Driver.{drive_name, frame_tag}
use Rattle.cpc_chains_event.specs.Lines.{all_do, frame_lines, runtime_name, hands_nothing, hands_over, wait_lines, section_lines, enter_lines, waits_lines, cps_lines}
use Rattle.cpc_chains_event.specs.LocalLaws.{piece_locals, StandsIn}
use Rattle.cpc_convert_routines.specs.Named.{IsOwner, IsCps}
use Rattle.cpc_convert_routines.specs.Names.{to_name, under_name}
use Rattle.cpc_chains_event.specs.Pieces.{called_so, to_frame, is_entry}
use Rattle.cpc_convert_routines.specs.Routines.{Routine, routine_of, closure_of, readings_of}
use Rattle.cpc_lifted_laws.specs.Piece.Known.{CpsKnown}
use Rattle.cpc_chains_laws.specs.Rules.Laws.{Knows}
use Rattle.cpc_chains_laws.proofs.Rules.KeptRows.{Source}
use Rattle.cpc_lifted_laws.proofs.Rules.Source.{known_at}
use Rattle.cpc_chains_laws.specs.Wait.Waiting.{Waiting, CallsCps, CallsWait, Submits}
use Rattle.cpc_chains_laws.proofs.RowBodies.Framing.{frame_fine, hands_run, call_fine}
use Rattle.cpc_chains_laws.proofs.RowBodies.InPlace.{v, function_named_there, named_whole, none_hides, moved_all, moved_suits, w}
use Rattle.cpc_chains_laws.proofs.RowBodies.Inside.{local, free, driver, none_named}
use Rattle.cpc_chains_laws.proofs.RowBodies.Moved.{held_right}
use Rattle.cpc_chains_laws.proofs.RowBodies.Nodes.{IsFormed, before, scope, narrow_blocks, carries, is_part, row, kept_nothing, kept_item}
use Rattle.cpc_lifted_laws.proofs.RowBodies.Occurring.{section_types}
use Rattle.cpc_chains_laws.proofs.RowBodies.Rowing.{LinesRun, all_run}

-- ---- primitives that wait

waits : (prim : Primitive) → primitive_manner (Some prim) ≡ AsCps → (gives_up prim ≡ true) × (is_simple prim ≡ true)
waits Yield e = (refl, refl)
waits Sleep e = (refl, refl)
waits IoWait e = (refl, refl)
waits Wait e = (refl, refl)
waits prim e = absurd (cc)

waits_named : (prim : Primitive) → primitive_manner (Some prim) ≡ AsCps → primitive_named (runtime_name (Some prim)) ≡ Some (runtime prim)
waits_named Yield e = refl
waits_named Sleep e = refl
waits_named IoWait e = refl
waits_named Wait e = refl
waits_named prim e = absurd (cc)

-- a detached function stays one
detached_stays : (x : Text) (u : Ty) (ts : List Ty) (m : Meant) → KeptName x (AFunction Detached u ts) m → m ≡ AFunction Detached u ts
detached_stays x u ts _ (KeptFunction _ _ _) = refl

module _ (p : Program) (source : Source p) (f : Function) (known : CpsKnown p f) (formed : IsFormed f) (l : Place) (owner : IsOwner (routine_of p f) l) (all : Program) (k : Knows p all) (path : Path) where
  abbrev r : Routine
  r = routine_of p f

  abbrev at : Where
  at = v p source f known formed l owner all k

  abbrev sc : T.Scope
  sc = scope p source f known formed l owner all k path

  abbrev names : Readings
  names = readings_of r sc

  abbrev its : Program
  its = before p source f known formed l owner all k

  abbrev Kept : List ℕ → Type 0
  Kept js = (j : ℕ) → holds_number js j ≡ true → holds_number (closure_of r l) j ≡ true

  no_local : (x : Text) (m : Meant) → named p sc x ≡ m → ((j : ℕ) (t : Ty) → m ≡ ALocal j t → ⊥) → local_named sc x ≡ None
  no_local x m e h = none_named p sc x (λ j t i. h j t (sym e ∙ i))

  module _ (bs : List S.Block) (tells : Tells sc bs) where
    abbrev its_place : Where
    its_place = w p source f known formed l owner all k path bs tells

    item_there : (x : Text) → local_named sc x ≡ None → meant its_place.scope x ≡ in_items (reverse its) x
    item_there x e = tells x (in_items (reverse its) x) ∙ ap (λ o. local_or o (in_items (reverse its) x)) e

    -- ---- a call of a cps function

    -- a cps function that is called is declared there
    declared_there : (to : Option Expr) (x : Text) (es : Exprs) (u : Ty) (ps : List Ty) → named p sc x ≡ AFunction Cps u ps → stmt_breaks its_place (stmt_here (Call to (ENamed x) es)) ≡ [] → meant its_place.scope x ≡ AFunction Cps u ps
    declared_there to x es u ps e i = item_there x none ∙ go (in_items (reverse its) x) refl
      where
        none : local_named sc x ≡ None
        none = no_local x (AFunction Cps u ps) e (λ j t z. absurd (cc))

        whole : item_named 0 p x ≡ AFunction Cps u ps
        whole = sym (none_hides p sc x none) ∙ e

        same : Same (in_items (reverse its) x) (item_named 0 its x)
        same = (known_at p source.own source.fine its (row p source f known formed l owner all k).rest (is_part p source f known formed l owner all k)).same x

        called : called_breaks its_place (expr_here (ENamed x)) (expr_breaks its_place (expr_here (ENamed x))) ≡ []
        called =
            let j = split (to_breaks its_place (option_map expr_here to) here (result (callee its_place (expr_here (ENamed x)) (exprs_here es)))) _ i in
            (split (called_breaks its_place (expr_here (ENamed x)) (expr_breaks its_place (expr_here (ENamed x)))) _ j.1).0

        unmeant : (o : Option Primitive) → primitive_named x ≡ o → in_items (reverse its) x ≡ NotMeant → in_items (reverse its) x ≡ AFunction Cps u ps
        unmeant (Some prim) h g = absurd (let z : NotMeant ≡ AFunction Cps u ps = sym (known.primitives x prim h) ∙ whole in cc)
        unmeant None h g =
            not_broken _ _ (sym (ap (λ o. unmeant_breaks its_place here o) h) ∙ (sym (ap (λ m. named_breaks its_place (expr_here (ENamed x)) here (expr_breaks its_place (expr_here (ENamed x))) m (primitive_named x)) (item_there x none ∙ g)) ∙ called))

        go : (m : Meant) → in_items (reverse its) x ≡ m → in_items (reverse its) x ≡ AFunction Cps u ps
        go (AFunction m t ts) g = g ∙ (sym (named_whole p source f known formed l owner all k path x m t ts g) ∙ whole)
        go NotMeant g = unmeant (primitive_named x) refl g
        go (AGlobal j t) g =
            let s = subst (λ z. Same z (item_named 0 its x)) g same in
            let there : item_named 0 p x ≡ AGlobal s.0 t =
            subst (λ ys. item_named 0 ys x ≡ AGlobal s.0 t) (sym (is_part p source f known formed l owner all k)) (named_more 0 its (row p source f known formed l owner all k).rest x (AGlobal s.0 t) tt s.1) in
            absurd (let z : AGlobal s.0 t ≡ AFunction Cps u ps = sym there ∙ whole in cc)
        go (ALocal j t) g = absurd (subst (λ z. Same z (item_named 0 its x)) g same)

    pub parameters_are : (x : Text) (u : Ty) (ps : List Ty) (g : Function) → named p sc x ≡ AFunction Cps u ps → function_named p x ≡ Some g → AFunction g.mode g.result (parameter_types g) ≡ AFunction Cps u ps
    parameters_are x u ps g e i =
        let there = source.names.there x g i in
        sym (source.names.functions g there.0).meant ∙ (ap (item_named 0 p) there.1 ∙ (sym (none_hides p sc x (no_local x (AFunction Cps u ps) e (λ j t z. absurd (cc)))) ∙ e))

    -- its arguments, and where its value goes
    pub calls_parts : (to : Option Expr) (x : Text) (es : Exprs) (u : Ty) (ps : List Ty) → named p sc x ≡ AFunction Cps u ps → stmt_breaks its_place (stmt_here (Call to (ENamed x) es)) ≡ [] → AllSet its_place ps es × Gives its_place to u
    calls_parts to x es u ps e i = call_parts its_place to x es Cps u ps (declared_there to x es u ps e i) i

    -- ---- a primitive that waits

    pub waits_parts : (to : Option Expr) (x : Text) (es : Exprs) (prim : Primitive) → named p sc x ≡ NotMeant → primitive_named x ≡ Some prim → primitive_manner (Some prim) ≡ AsCps → stmt_breaks its_place (stmt_here (Call to (ENamed x) es)) ≡ []
        → AllSuit its_place (map wanted_of (takes_first prim)) es × Gives its_place to (gives prim)
    waits_parts to x es prim e i m h =
        primitive_parts its_place to x es prim (waits prim m).1
        (item_there x (no_local x NotMeant e (λ j t z. absurd (cc))) ∙ kept_nothing p source f known formed l owner all k x (primitive_kept x prim i)) i h

    -- ---- lines

    -- where a cps statement goes on: a leader, whose frame is made first
    module _ (back : ℕ) (leads : Has back r.split.leaders) (keeps : (j : ℕ) → holds_number (closure_of r (At back)) j ≡ true → holds_number (closure_of r l) j ≡ true) (to_word : StandsIn (called_so to_name to_frame) (piece_locals p r l)) where
      to_local : meant at.scope to_name ≡ ALocal 0 (TyPointer (TyStruct frame_tag))
      to_local = local p f known l owner all k (called_so to_name to_frame) to_word

      nothing_run : Runs at (hands_nothing ∷ []) at
      nothing_run = AndLine at at _ [] refl (nothing_fine at refl refl (free p f known l owner all k) refl) (NoRow at)

      wait_run : (prim : Primitive) (es : Exprs) → primitive_manner (Some prim) ≡ AsCps → AllSuit at (map wanted_of (takes_first prim)) (images names es) → Runs at (wait_lines r names (Some back) (Some prim) es) at
      wait_run prim es m s =
          runs_both at at at (frame_lines r to_name (At back)) _ (frame_fine p source f known formed l owner all k back leads keeps to_name to_word)
          (AndLine at at _ _ refl (wait_fine at refl refl (free p f known l owner all k) prim (runtime_name (Some prim)) drive_name to_name (images names es) 0 (TyStruct frame_tag) (waits prim m).0 (waits_named prim m) (driver p f known l owner all k) to_local s) nothing_run)

      section_run : (to : Option Expr) (x : Text) (es : Exprs) → Kept (used_among sc es) → stmt_breaks its_place (stmt_here (Detach to x es)) ≡ [] → Runs at (section_lines r names (Some back) x es) at
      section_run to x es h i =
          let parts = section_parts its_place to x es i in
          let item = function_named_there p source f known formed l owner all k path bs tells x Detached (TyInt Int) parts.0 parts.1 in
          let means : meant at.scope x ≡ AFunction Detached (TyInt Int) parts.0 =
          detached_stays x (TyInt Int) parts.0 (meant at.scope x) (subst (λ m. KeptName x m (meant at.scope x)) item (kept_item p source f known formed l owner all k x)) in
          let there : takes_section at.scope parts.0 ≡ true =
          section_there _ at _ (carries p source f known formed l owner all k path) parts.0 (sym (section_types its bs (narrow_blocks p source f known formed l owner all k path) f.mode f.result D.Cpc parts.0) ∙ parts.2) in
          runs_both at at at (frame_lines r to_name (At back)) _ (frame_fine p source f known formed l owner all k back leads keeps to_name to_word)
          (AndLine at at _ _ refl
          (detach_fine at drive_name to_name x (images names es) parts.0 refl refl (free p f known l owner all k (codes "rt_detach") RtDetach refl) (callback_suits at drive_name refl (driver p f known l owner all k))
          (pointer_sets at refl refl (free p f known l owner all k) to_name 0 (TyStruct frame_tag) to_local) means there (moved_all p source f known formed l owner all k path bs tells parts.0 es h parts.3)) nothing_run)

      enter_run : (g : Function) (es : Exprs) → IsCps p g → StandsIn (called_so under_name to_frame) (piece_locals p r l) → AllSet at (parameter_types g) (images names es) → Runs at (enter_lines r names (Some back) g es) at
      enter_run g es c under s =
          runs_both at at at (frame_lines r under_name (At back)) _ (frame_fine p source f known formed l owner all k back leads keeps under_name under)
          (runs_both at at at _ (hands_over to_name ∷ []) (call_fine p source f known formed l owner all k g c (source.names.functions g c.has).few names es to_word under s) (hands_run p source f known formed l owner all k to_name to_word))

      -- a cps statement
      pub cps_run : (s : Stmt) → Waiting p sc s → Kept (used_by sc s) → stmt_breaks its_place (stmt_here s) ≡ [] → (is_entry p (AtStatement (Simple s)) ≡ true → StandsIn (called_so under_name to_frame) (piece_locals p r l)) → LinesRun at (all_do (cps_lines p r names s (Some back)))
      cps_run _ (CallsCps to x es u ps g e i c gets) h j under =
          let parts = calls_parts to x es u ps e j in
          let same = parameters_are x u ps g e i in
          let types : ps ≡ parameter_types g = cc in
          let rest = held_right sc (λ m. holds_number (closure_of r l) m ≡ true) (used_if sc to) _ h in
          let among = held_right sc (λ m. holds_number (closure_of r l) m ≡ true) (used_in sc (ENamed x)) (used_among sc es) rest in
          let sets = subst (λ ts. AllSet at ts (images names es)) types (moved_all p source f known formed l owner all k path bs tells ps es among parts.0) in
          let word = under (ap is_cps i ∙ c.mode) in
          all_run at _ (subst (λ o. Runs at (waits_lines r names (Some back) x o es) at) (sym i) (enter_run g es c word sets))
      cps_run _ (CallsWait to x es prim e i m none) h j under =
          let parts = waits_parts to x es prim e i m j in
          let rest = held_right sc (λ m. holds_number (closure_of r l) m ≡ true) (used_if sc to) _ h in
          let among = held_right sc (λ m. holds_number (closure_of r l) m ≡ true) (used_in sc (ENamed x)) (used_among sc es) rest in
          let suits = moved_suits p source f known formed l owner all k path bs tells (map wanted_of (takes_first prim)) es among parts.0 in
          all_run at _ (subst (λ o. Runs at (waits_lines r names (Some back) x o es) at) (sym none) (subst (λ o. Runs at (wait_lines r names (Some back) o es) at) (sym i) (wait_run prim es m suits)))
      cps_run _ (Submits to x es d) h j under =
          all_run at _ (section_run to x es (held_right sc (λ m. holds_number (closure_of r l) m ≡ true) (used_if sc to) (used_among sc es) h) j)
