-- What the rows ask of native code: functions and names are found alike, faults are shown alike, and sections come to the same.
use Rattle.std.proofs.Common.{◌≡◌, ℕ, true, false, not, cond, List, Option, Some, refl, sym, ◌∙◌, ap, subst}
use Rattle.std.specs.Prelude.{is_some}
use Rattle.cpc_base.specs.Bytes.{Text}
use Rattle.cpc_check_rules.specs.Operators as O
use Rattle.cpc_store.specs.Store.{Value}
use Rattle.cpc_tree.specs.Lists.{holds_number}
use Rattle.cpc_tree.specs.Points.{Path, Point, Here, Arrival, End, Found, Simple, found}
use Rattle.cpc_tree.specs.Syntax.{Exprs, Spawn, Function, Program}
use Rattle.cpc_tree.specs.Typing.{function_named}
use Rattle.cpc_tree.specs.declared.program.Mode.{Mode}
use Rattle.cpc_tree.specs.declared.program.Mode.TheVariants.{Extern, Native, Cps, Detached}
use Rattle.cpc_meaning.specs.Act.{AtStatement}
use Rattle.cpc_meaning.specs.Plain.{Frame}
use Rattle.cpc_meaning.specs.Start.{before_underscores}
use Rattle.cpc_meaning.specs.Threads.{is_cps_mode, shown_in}
use Rattle.cpc_meaning.specs.Trees.{trees, stood_at}
use Rattle.cpc_forms.specs.Split.{Position, InTree, split_form}
use Rattle.cpc_lift_laws.specs.Lift.{closure_in}
use Rattle.cpc_convert_image_laws.specs.Relations as R
use Rattle.cpc_convert_image_laws.specs.Stacks.{EntersAlike}
use Rattle.cpc_convert_routines.specs.ClosureLaws.{lifting}
use Rattle.cpc_convert_routines.specs.Kept.{kept_function}
use Rattle.cpc_chains_event.specs.Converted.{converted}
use Rattle.cpc_chains_event.proofs.BoxesThere.{structs_there}
use Rattle.cpc_lifted_laws.specs.Accepted.Lifted.{kept_of}
use Rattle.cpc_chains_laws.specs.Related.Running.{Places, SamePoint}
use Rattle.cpc_chains_laws.proofs.Related.Sections.{InSection, SectionFacts, sections_alike}
use Rattle.cpc_chains_laws.proofs.Related.Setting.{Setting, NativeFacts}
use Rattle.cpc_lifted_laws.specs.Native.Convertible.{Convertible}
use Rattle.cpc_lifted_laws.specs.Native.Instance.{stays_whole, is_whole, StaysAs, NamesDetached, DetachedAs, cut_of}
use Rattle.cpc_chains_laws.proofs.Native.Codes.{codes_found}
use Rattle.cpc_chains_laws.proofs.Native.Entering.{no_graph, entered_alike}
use Rattle.cpc_chains_laws.proofs.Native.Instance.{setting_of}
use Rattle.cpc_chains_laws.proofs.Native.Names.{used_kept}
use Rattle.cpc_chains_laws.proofs.Native.Points.{Good, good_here, good_arrival, good_end, native_point}
use Rattle.cpc_lifted_laws.proofs.Native.Respawned.{Kind, ASpawn, Another, kind_of}
use Rattle.cpc_chains_laws.proofs.Native.Wholes.{kept_there, kept_named, wholes_are_found}

-- a detached function is not cps
pub detached_stays : (m : Mode) → O.is_detached m ≡ true → is_cps_mode m ≡ false
detached_stays Extern e = refl
detached_stays Native e = refl
detached_stays Detached e = refl
detached_stays Cps e = absurd (cc)

module _ (p : Program) (h : Convertible p) where
  abbrev q : Program
  q = converted p

  -- ---- functions that are not cut

  -- the name of a function that stays
  pub whole_of : (f : Text) (fn : Function) → function_named p f ≡ Some fn → is_cps_mode fn.mode ≡ false → is_whole p f ≡ true
  whole_of f fn is c = ap stays_whole is ∙ ap not c

  -- all is kept there
  all_kept : (f : Text) (point : Point) (k : ℕ) → is_whole p f ≡ true → kept_of p f (InTree point) k ≡ true
  all_kept f point k w =
      let found = wholes_are_found p h.names h.named f w in
      ap (λ o. cond (not (is_some o)) true (holds_number (closure_in (split_form p) (lifting p) f ((lifting p).owner f (InTree point))) k)) (no_graph p f found.function found.named found.kept.mode)

  -- faults there are shown alike
  shown_alike : (f : Text) → is_whole p f ≡ true → before_underscores f ≡ shown_in p f
  shown_alike f w = let found = wholes_are_found p h.names h.named f w in h.shown.native f found.function found.named found.kept.mode

  -- it is entered alike
  enters_alike : (f g : Function) → StaysAs p f g → EntersAlike (SamePoint (cut_of p)) (split_form p) (trees q) f g
  enters_alike f g s =
      subst (λ g. EntersAlike (SamePoint (cut_of p)) (split_form p) (trees q) f g) (sym s.same)
      (entered_alike p h.names h.named f s.kept (SamePoint (cut_of p)) (λ b. (refl, whole_of f.called f (h.named.found f s.kept.has) s.kept.mode)))

  -- ---- detached functions

  module _ (f : Text) (d : NamesDetached p f) where
    stays : is_cps_mode d.function.mode ≡ false
    stays = detached_stays d.function.mode d.detached

    -- nothing is spawned there
    no_spawn_there : {A : Type 0} (path : Path) (g : Text) (es : Exprs) → found d.function.body path ≡ Simple (Spawn g es) → A
    no_spawn_there path g es e =
        let stood = ap (λ o. stood_at o (Here path)) d.named ∙ ap (λ s. AtStatement s) e in
        let typed = h.positions.typed f d.function (InTree (Here path)) (Simple (Spawn g es)) d.named stood in
        absurd (let i : true ≡ false = sym d.detached ∙ typed.0.not_detached in cc)

    -- what stands at its points is known
    good_detached : (b : Point) → Good p h f d.function d.named stays b ((split_form p).code.stood f (InTree b))
    good_detached (Here path) = go (found d.function.body path) refl (kind_of d.function.body path)
      where
        go : (s : Found) → found d.function.body path ≡ s → Kind s → Good p h f d.function d.named stays (Here path) ((split_form p).code.stood f (InTree (Here path)))
        go _ e (ASpawn g es) = no_spawn_there path g es e
        go _ e (Another s same) = good_here p h f d.function d.named stays path s e same
    good_detached (Arrival path) = go (found d.function.body path) refl (kind_of d.function.body path)
      where
        go : (s : Found) → found d.function.body path ≡ s → Kind s → Good p h f d.function d.named stays (Arrival path) ((split_form p).code.stood f (InTree (Arrival path)))
        go _ e (ASpawn g es) = no_spawn_there path g es e
        go _ e (Another s same) = good_arrival p h f d.function d.named stays path s e same
    good_detached End = good_end p h f d.function d.named stays

    detached_as : DetachedAs p d.function (kept_function d.function)
    detached_as = record { stays = record { kept = kept_there p h.names f d.function d.named stays; same = refl }; detached = d.detached }

  detached_found : (x : Text) → NamesDetached p x → R.Found (DetachedAs p) (function_named p x) (function_named q x)
  detached_found x d =
      subst (λ o. R.Found (DetachedAs p) o (function_named q x)) (sym d.named)
      (subst (λ u. R.Found (DetachedAs p) (Some d.function) u) (sym (kept_named p h.names h.named x d.function d.named (stays x d)))
      (R.BothFound d.function (kept_function d.function) (detached_as x d) (record { result = refl; parameters = refl })))

  module _ (there : Places) (fine : Frame Position → Option Value → Type 0) (given : Text → List Value → Type 0) where
    abbrev z : Setting
    z = setting_of p there fine given

    pub section_facts : SectionFacts z (DetachedAs p)
    section_facts = record {
      common = record { types = (structs_there p h.named).types; codes = detached_found };
      enters = λ f g r.
          subst (λ g. EntersAlike (InSection z) (split_form p) (trees q) f g) (sym r.stays.same)
          (entered_alike p h.names h.named f r.stays.kept (InSection z) (λ b. (refl, record { function = f; named = h.named.found f r.stays.kept.has; detached = r.detached })));
      shown = λ f d. h.shown.native f d.function d.named (stays f d);
      points = λ s f b slots d.
          native_point p h f d.function d.named (stays f d) (NamesDetached p) (DetachedAs p) (InSection z) (detached_as f d) (λ b. (refl, d)) b (good_detached f d b)
          (λ x u. used_kept (NamesDetached p) p h.named ((split_form p).code.scope f (InTree b)) x u.used (λ mode r ps s i. u.closed d mode r ps i)) s slots;
      written = λ s f b slots g d e. (good_detached f d b).written slots s g e;
    }

    pub native_facts : NativeFacts z
    native_facts = record {
      common = record { types = (structs_there p h.named).types; codes = codes_found p h.names h.named };
      enters = enters_alike;
      whole = all_kept;
      shown = shown_alike;
      nobody = h.shown.nobody;
      sections = λ bound jobs ns s bs source held. sections_alike z (DetachedAs p) section_facts bs bound jobs ns s source held;
    }
