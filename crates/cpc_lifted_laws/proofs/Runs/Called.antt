-- Once a native `main` has begun, each call that is to begin is one of a cps function.
use Rattle.std.proofs.Common.{◌≡◌, ◌⊎◌, inl, inr, ℕ, zero, suc, true, List, [], Option, Some, None, option_map, refl, sym, ◌∙◌, ap, subst}
use Rattle.cpc_store.specs.Store.{Value, Store}
use Rattle.cpc_tree.specs.Syntax.{Program}
use Rattle.cpc_tree.specs.Trace.{is_over}
use Rattle.cpc_tree.specs.Typing.{function_named}
use Rattle.cpc_meaning_matching.specs.Steps.{or_stay}
use Rattle.cpc_meaning_matching.specs.Systems.{NeverStuck}
use Rattle.cpc_meaning.specs.Agenda.{Agenda}
use Rattle.cpc_meaning.specs.Answer.{Answer, Gives, Faults, NoAnswer, needed}
use Rattle.cpc_meaning.specs.History.{History}
use Rattle.cpc_meaning.specs.Machine.{State, next, schedules, settled}
use Rattle.cpc_meaning.specs.Plain.{Stack, Asks, make_frame, plain}
use Rattle.cpc_meaning.specs.Requests.{Asked, Builtin, Host, ToSpawn, Section}
use Rattle.cpc_meaning.specs.Section.{Job}
use Rattle.cpc_meaning.specs.Start.{main_name}
use Rattle.cpc_meaning.specs.Threads.{Thread, Pending, Suspended, threads_of}
use Rattle.cpc_meaning_laws.proofs.Pointer.Blocks.{Only, any_then}
use Rattle.cpc_check_laws.specs.Kept.Layers.{KeepsModes}
use Rattle.cpc_check_laws.proofs.Kept.Agendas as A
use Rattle.cpc_forms.specs.Split.{Position, split_form}
use Rattle.cpc_lift_laws.specs.Lifted.{tidy}
use Rattle.cpc_lifted_laws.specs.Accepted.Lifted.{kept_of, lifted_threads, lifted_after}
use Rattle.cpc_lifted_laws.specs.Accepted.Moves.{IsReady, IsKept}
use Rattle.cpc_lifted_laws.proofs.Accepted.Spawns.{step_spawns}
use Rattle.cpc_lifted_laws.proofs.Accepted.Walk.{tidied_so}
use Rattle.cpc_lifted_laws.proofs.Accepted.Counts.{cps_same}
use Rattle.cpc_lifted_laws.specs.Runs.Runs.{NamesCps}
use Rattle.cpc_lifted_laws.specs.Arrival.Arrivals.{AnyValue}
use Rattle.cpc_lifted_laws.proofs.Accepted.Agendas.{Lists, shuffled_lists, added_lists, later_lists}

module _ (p : Program) where
  abbrev pub OfCps : Thread Position → Type 0
  OfCps (Pending f vs) = NamesCps p f
  OfCps (Suspended k) = Unit {0}

  -- all calls that are to begin
  abbrev pub AllOfCps : Agenda (Thread Position) → Type 0
  AllOfCps a = Lists OfCps a

  abbrev Kept : Store → Option (Stack Position) → Agenda (Thread Position) → List Job → Type 0
  Kept s o a jobs = AllOfCps a

  abbrev AskedCps : Store → Stack Position → Asked → List Value → Type 0
  AskedCps s k (ToSpawn f) vs = NamesCps p f
  AskedCps s k asked vs = Unit {0}

  kept : IsKept (split_form p) Kept AskedCps AnyValue
  kept = record {
    went = λ s t k j a jobs e h. h;
    returned = λ s t k v a jobs e h. h;
    answered = λ s t k j v a jobs e h. h;
    stores = λ s t o a jobs e h. h;
    shuffled = λ s o a b jobs move h. shuffled_lists OfCps a b move h;
    spawned = λ s k a jobs f vs asks h. added_lists OfCps (Pending f vs) a _ asks (IsReady a) h;
    suspended = λ s k j a b jobs prim vs gives asks e add h. added_lists OfCps (Suspended j) a b tt add h;
    submitted = λ s k j a b jobs f g vs cells e add is asks copy h. added_lists OfCps (Suspended j) a b tt add h;
    begun = λ s t a jobs f g vs v ds frame e is made h. later_lists OfCps _ ds a e h;
    resumed = λ s k v a jobs ds e due h. later_lists OfCps _ ds a e h;
  }

  -- ---- runs

  module _ (modes : KeepsModes (split_form p)) where
    asks_cps : (s : State Position (Thread Position)) (k : Stack Position) → s.running ≡ Some k → (asked : Asked) (vs : List Value) → plain (split_form p) s.store k ≡ Gives (Asks (record { asked = asked; arguments = vs })) → AskedCps s.store k asked vs
    asks_cps s k e (ToSpawn f) vs i =
        let w = step_spawns (split_form p) s.store k.arriving k.frames f vs i in
        λ g j. cps_same g.mode ∙ modes.spawns w.name w.function w.at f w.arguments g w.named w.stood j
    asks_cps s k e (Section f) vs i = tt
    asks_cps s k e (Builtin prim) vs i = tt
    asks_cps s k e (Host x) vs i = tt

    abbrev pub AllCpsIn : State Position (Thread Position) → Type 0
    AllCpsIn s = AllOfCps s.agenda

    -- a step keeps it
    pub next_cps : (h : History) (n : ℕ) → AllCpsIn (lifted_after p h n) → AllCpsIn (lifted_after p h (suc n))
    next_cps h n all = let s = lifted_after p h n in tidied_so (split_form p) Kept AskedCps AnyValue kept (kept_of p) (λ s h. h) s (asks_cps s) (λ d ds e. tt) all

    -- ---- the first two steps

    module _ (h : History) (live : NeverStuck is_over (lifted_threads p h)) where
      -- `main` is called in the second step
      abbrev calls_main : Answer (State Position (Thread Position))
      calls_main = schedules (threads_of (split_form p)) (lifted_after p h 1) (lifted_after p h 1).agenda.round

      main_called : Only AllCpsIn calls_main
      main_called =
          any_then AllCpsIn (needed (function_named p main_name)) _ λ g.
          any_then AllCpsIn (make_frame (split_form p) g [] (lifted_after p h 1).store) _ λ r. A.nothing_there OfCps AnyValue tt

      second : (u : Answer (State Position (Thread Position))) → calls_main ≡ u → Only AllCpsIn u → (is_over (lifted_after p h 2).outcome ≡ true) ⊎ AllCpsIn (lifted_after p h 2)
      second (Gives t) e only = inr (subst (λ v. AllCpsIn (or_stay (lifted_after p h 1) (option_map (tidy (kept_of p)) (settled (threads_of (split_form p)) (lifted_after p h 1) v)))) (sym e) only)
      second (Faults fault) e only = inl (ap (λ v. is_over (or_stay (lifted_after p h 1) (option_map (tidy (kept_of p)) (settled (threads_of (split_form p)) (lifted_after p h 1) v))).outcome) e)
      second NoAnswer e only = absurd (stuck (live.here 1))
        where
          stuck : (is_over (lifted_after p h 1).outcome ≡ true) ⊎ ((t : State Position (Thread Position)) × ((lifted_threads p h).next (lifted_after p h 1) ≡ Some t)) → ⊥
          stuck (inl over) = absurd (cc)
          stuck (inr (t, goes)) = absurd (let z : (lifted_threads p h).next (lifted_after p h 1) ≡ None = ap (λ v. option_map (tidy (kept_of p)) (settled (threads_of (split_form p)) (lifted_after p h 1) v)) e in let w : None ≡ Some t = sym z ∙ goes in cc)

      -- so the run is over then, or it is so from then on
      pub cps_from_then : (is_over (lifted_after p h 2).outcome ≡ true) ⊎ ((n : ℕ) → AllCpsIn (lifted_after p h (suc (suc n))))
      cps_from_then = go (second calls_main refl main_called)
        where
          onward : AllCpsIn (lifted_after p h 2) → (n : ℕ) → AllCpsIn (lifted_after p h (suc (suc n)))
          onward all zero = all
          onward all (suc n) = next_cps h (suc (suc n)) (onward all n)

          go : (is_over (lifted_after p h 2).outcome ≡ true) ⊎ AllCpsIn (lifted_after p h 2) → (is_over (lifted_after p h 2).outcome ≡ true) ⊎ ((n : ℕ) → AllCpsIn (lifted_after p h (suc (suc n))))
          go (inl over) = inl over
          go (inr all) = inr (onward all)
