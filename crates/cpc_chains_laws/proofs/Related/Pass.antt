-- The conversion: where the facts hold of the two programs, and what is known of all states of the lifted run, the event program follows it.
use Rattle.std.proofs.Common.{⊎_elim, inl, inr, ℕ, [], None, refl, sym, subst, arith}
use Rattle.cpc_store.specs.Store.{empty_store}
use Rattle.cpc_tree.specs.Trace.{is_over}
use Rattle.cpc_meaning_matching.specs.Simulation.{Follows, one}
use Rattle.cpc_meaning_matching.specs.Systems.{NeverStuck, run}
use Rattle.cpc_meaning_matching.proofs.Paths.{path_map}
use Rattle.cpc_meaning.specs.History.{History}
use Rattle.cpc_meaning.specs.Matching.{event_system}
use Rattle.cpc_meaning.specs.Start.{opening, main_name, globals, make_globals}
use Rattle.cpc_meaning.specs.Threads.{Pending}
use Rattle.cpc_meaning.specs.Events.{CallMain, callbacks_of}
use Rattle.cpc_meaning.proofs.Connect.{machine_ends}
use Rattle.cpc_forms.specs.Split.{Position}
use Rattle.cpc_lift_laws.specs.Lifted.{lifted_system}
use Rattle.cpc_lift_laws.proofs.Along.{matches_along}
use Rattle.cpc_lift_laws.proofs.Lifting.{lifted_ends}
use Rattle.cpc_lifted_laws.specs.Related.Bounds.{Bounds, Enough}
use Rattle.cpc_chains_laws.proofs.Related.Joined.{RowFacts, row}
use Rattle.cpc_chains_laws.proofs.Related.Relation.{Source, Target, Shared, going, with_main, Related, MainIsReady, MainIsNext, Goes, IsOver}
use Rattle.cpc_chains_laws.proofs.Related.Rows.{Near, midway_near, Shows}
use Rattle.cpc_chains_laws.proofs.Related.Setting.{Setting, from_form, to_form, Known}

-- states that stand for each other show the same
pub related_shows : (z : Setting) (x : Source) (y : Target) → Related z.codes z.cut z.there x y → Shows x y
related_shows z _ _ (MainIsReady w) = record { trace = refl; outcome = refl }
related_shows z _ _ (MainIsNext w) = record { trace = refl; outcome = refl }
related_shows z _ _ (Goes w bs k j owned a tags b runs g owns fresh) = record { trace = refl; outcome = refl }
related_shows z x y (IsOver _ _ over trace outcome) = record { trace = sym trace; outcome = sym outcome }

module _ (z : Setting) (bounds : Bounds) (facts : RowFacts z bounds) (most : ℕ) (enough : Enough bounds most) where
  -- a step of the source costs at most so many of the target
  abbrev pub within : Source → ℕ
  within x = most

  opens : (h : History) → Related z.codes z.cut z.there (opening z.source (Pending main_name []) h) (opening z.target CallMain h)
  opens h =
      let w : Shared = record { store = globals (make_globals z.source z.source empty_store); jobs = []; history = h; trace = [] } in
      subst (λ s. Related z.codes z.cut z.there (opening z.source (Pending main_name []) h) (going w s None (with_main CallMain))) (sym facts.globals) (MainIsReady w)

  module _ (known : (h : History) (n : ℕ) → NeverStuck is_over (lifted_system z.kept (from_form z) h) → Known z (run (lifted_system z.kept (from_form z) h) n)) where
    pub follows_lifted : Follows is_over (lifted_system z.kept (from_form z)) (event_system (to_form z)) within one
    follows_lifted = record {
      on = λ h live.
          matches_along (lifted_ends Position (from_form z) z.kept h) (machine_ends (callbacks_of (to_form z)) CallMain h) live within one (Known z) (λ n. known h n live)
          (Related z.codes z.cut z.there) (opens h)
          (λ x y r. let s = related_shows z x y r in record { trace = s.trace; outcome = s.outcome })
          (λ x y o r. let i = enough.goes in omega arith)
          (λ x x' y e stuck k k' r.
          path_map (λ t s. s) (λ t s. ⊎_elim (λ (a : Near z x t). inl (record { trace = a.trace; outcome = a.outcome })) (λ (a : Near z x' t). inr (record { trace = a.trace; outcome = a.outcome })) (midway_near z bounds.rise x x' y t s))
          (row z bounds facts most enough x x' y e k k' r));
    }
