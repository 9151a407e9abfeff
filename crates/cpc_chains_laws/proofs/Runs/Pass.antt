-- Where `main` is native, the event program follows the lifted run: what rows ask of states is known from the third one on, once `main` has begun.
use Rattle.std.proofs.Common.{◌≡◌, ◌⊎◌, inl, inr, ⊎_elim, ℕ, zero, suc, true, [], Some, None, refl, sym, ◌∙◌, ap, subst, arith}
use Rattle.cpc_store.specs.Store.{Store, empty_store}
use Rattle.cpc_tree.specs.Trace.{Mark, Outcome, is_over}
use Rattle.cpc_tree.specs.Typing.{function_named}
use Rattle.cpc_meaning_matching.specs.Simulation.{Matches, Path, Last, one}
use Rattle.cpc_meaning_matching.specs.Steps.{or_stay}
use Rattle.cpc_meaning_matching.specs.Systems.{System, run, Alike, NeverStuck}
use Rattle.cpc_meaning_matching.proofs.Paths.{path_map, path_wider, matches_of_paths}
use Rattle.cpc_meaning_matching.proofs.Systems.{over_stays}
use Rattle.cpc_meaning.specs.Agenda.{begin_round}
use Rattle.cpc_meaning.specs.History.{History}
use Rattle.cpc_meaning.specs.Matching.{event_system}
use Rattle.cpc_meaning.specs.Start.{main_name, globals, make_globals}
use Rattle.cpc_meaning.specs.Threads.{Pending}
use Rattle.cpc_meaning.specs.Events.{CallMain, callbacks_of}
use Rattle.cpc_meaning.proofs.Connect.{machine_ends}
use Rattle.cpc_forms.specs.Split.{Position}
use Rattle.cpc_lift_laws.specs.Lifted.{lifted_system}
use Rattle.cpc_lift_laws.proofs.Lifting.{lifted_ends}
use Rattle.cpc_convert_image_laws.specs.Held.{IsHeldStore}
use Rattle.cpc_convert_image_laws.specs.Relations.{Found}
use Rattle.cpc_lifted_laws.specs.Related.Bounds.{Bounds, Enough}
use Rattle.cpc_chains_laws.proofs.Related.Beginning.{main_row}
use Rattle.cpc_chains_laws.proofs.Related.Joined.{RowFacts, row}
use Rattle.cpc_chains_laws.proofs.Related.Pass.{related_shows}
use Rattle.cpc_chains_laws.proofs.Related.Relation.{Source, Target, Shared, going, source_state, target_state, with_main, Related}
use Rattle.cpc_chains_laws.proofs.Related.Rows.{Near, midway_near, RowFor}
use Rattle.cpc_chains_laws.proofs.Related.Setting.{Setting, from_form, to_form, Known}

-- where a run comes to by a step
pub next_along : {S M O : Type 0} (A : System S M O) (x x' : S) (n : ℕ) → A.next x ≡ Some x' → x ≡ run A n → x' ≡ run A (suc n)
next_along A x x' n e i = sym (ap (or_stay x) e) ∙ ap (λ s. or_stay s (A.next s)) i

module _ (z : Setting) (bounds : Bounds) (facts : RowFacts z bounds) (most : ℕ) (enough : Enough bounds most) (found : Found z.pairs (function_named z.source main_name) (function_named z.target main_name)) (h : History) where
  abbrev pub A : System Source Mark Outcome
  A = lifted_system z.kept (from_form z) h

  abbrev pub B : System Target Mark Outcome
  B = event_system (to_form z) h

  module _ (live : NeverStuck is_over A) (store : IsHeldStore z.codes (run A 1).store) (known : (is_over (run A 2).outcome ≡ true) ⊎ ((n : ℕ) → Known z (run A (suc (suc n))))) where
    -- the first states: `main` is ready, `main` is next, and then states that stand for each other
    abbrev ready : Shared → Source
    ready w = source_state w None (with_main (Pending main_name []))

    abbrev ready' : Shared → Target
    ready' w = target_state w [] None (with_main CallMain)

    abbrev begins : Shared → Source
    begins w = source_state w None (begin_round (with_main (Pending main_name [])))

    abbrev begins' : Shared → Target
    begins' w = target_state w [] None (begin_round (with_main CallMain))

    abbrev w0 : Shared
    w0 = record { store = globals (make_globals z.source z.source empty_store); jobs = []; history = h; trace = [] }

    abbrev Stage : ℕ → Source → Target → Type 0
    Stage zero x y = y ≡ ready' w0
    Stage (suc zero) x y = y ≡ begins' w0
    Stage (suc (suc n)) x y = Related z.codes z.cut z.there x y

    abbrev R : Source → Target → Type 0
    R x y = (n : ℕ) × (x ≡ run A n) × Stage n x y

    opens : R A.opening B.opening
    opens = (0, refl, ap (λ (s : Store). going w0 s None (with_main CallMain)) facts.globals)

    alike_at : (n : ℕ) (x : Source) (y : Target) → x ≡ run A n → Stage n x y → Alike A B x y
    alike_at zero x y e s = record { trace = ap (λ (x : Source). x.trace) e ∙ ap (λ (y : Target). y.trace) (sym s); outcome = ap (λ (x : Source). x.outcome) e ∙ ap (λ (y : Target). y.outcome) (sym s) }
    alike_at (suc zero) x y e s = record { trace = ap (λ (x : Source). x.trace) e ∙ ap (λ (y : Target). y.trace) (sym s); outcome = ap (λ (x : Source). x.outcome) e ∙ ap (λ (y : Target). y.outcome) (sym s) }
    alike_at (suc (suc n)) x y e s = let k = related_shows z x y s in record { trace = k.trace; outcome = k.outcome }

    abbrev PathTo : Source → Source → Target → Type 0
    PathTo x x' y = Path B.next one (R x') (λ t. Alike A B x t ⊎ Alike A B x' t) most y

    -- a row of states that stand for each other
    as_path : (x x' : Source) (y : Target) (n : ℕ) → x' ≡ run A (suc (suc n)) → RowFor z bounds.rise x x' most y → PathTo x x' y
    as_path x x' y n i r =
        path_map (λ t s. (suc (suc n), i, s))
        (λ t s. ⊎_elim (λ (a : Near z x t). inl (record { trace = a.trace; outcome = a.outcome })) (λ (a : Near z x' t). inr (record { trace = a.trace; outcome = a.outcome })) (midway_near z bounds.rise x x' y t s)) r

    -- a run that is over has no step
    no_step : {X : Type 0} (x x' : Source) (n : ℕ) → is_over (run A 2).outcome ≡ true → A.next x ≡ Some x' → x ≡ run A (suc (suc n)) → X
    no_step x x' n over e i =
        let same : x ≡ run A 2 = i ∙ over_stays {A = A} (lifted_ends Position (from_form z) z.kept h) 2 (suc (suc n)) (omega arith) over in
        let none = (lifted_ends Position (from_form z) z.kept h).none x (ap (λ (s : Source). is_over s.outcome) same ∙ over) in
        absurd (let k : None ≡ Some x' = sym none ∙ e in cc)

    path_at : (n : ℕ) (x x' : Source) (y : Target) → A.next x ≡ Some x' → x ≡ run A n → Stage n x y → PathTo x x' y
    path_at zero x x' y e i s =
        let i' = next_along A x x' 0 e i in
        subst (PathTo x x') (sym s) (Last most (ready' w0) (begins' w0) refl (let k = enough.goes in omega arith) (1, i', refl))
    path_at (suc zero) x x' y e i s =
        subst (PathTo x x') (sym s)
        (subst (λ x. PathTo x x' (begins' w0)) (sym i)
        (as_path (run A 1) x' (begins' w0) 0 (next_along A x x' 1 e i)
        (path_wider most (let k = enough.goes in omega arith) (main_row z facts.native facts.keeps w0 store found x' (ap A.next (sym i) ∙ e)))))
    path_at (suc (suc n)) x x' y e i s =
        ⊎_elim (λ over. no_step x x' n over e i)
        (λ (k : (n : ℕ) → Known z (run A (suc (suc n)))).
        let i' = next_along A x x' (suc (suc n)) e i in
        as_path x x' y (suc n) i' (row z bounds facts most enough x x' y e (subst (Known z) (sym i) (k n)) (subst (Known z) (sym i') (k (suc n))) s)) known

    pub matches_native : Matches A B (λ (x : Source). most) one
    matches_native =
        matches_of_paths (lifted_ends Position (from_form z) z.kept h) (machine_ends (callbacks_of (to_form z)) CallMain h) live (λ (x : Source). most) one R opens
        (λ x y r. alike_at r.0 x y r.1 r.2) (λ x y o r. let i = enough.goes in omega arith) (λ x x' y e stuck r. path_at r.0 x x' y e r.1 r.2)
