-- What holds of all items of an agenda is kept by what the moves of threads do to it, over items of any type.
use Rattle.std.proofs.Common.{◌≡◌, List, [], ◌∷◌, Result, Ok, subst}
use Rattle.std.specs.List.{All}
use Rattle.std.proofs.lemmas.List.Elements.{All-nil, All-cons, All-head, All-tail}
use Rattle.cpc_num.specs.declared.kinds.Fault.{Fault}
use Rattle.cpc_store.specs.Store.{Value}
use Rattle.cpc_meaning.specs.Agenda.{Due, Agenda, poll}
use Rattle.cpc_meaning.specs.Answer.{of_result}
use Rattle.cpc_meaning_laws.proofs.Pointer.Blocks.{Only}
use Rattle.cpc_check_laws.specs.Kept.Kept.{KeptAgenda}
use Rattle.cpc_check_laws.proofs.Kept.Agendas as A
use Rattle.cpc_lifted_laws.specs.Accepted.Moves.{Shuffled, MadeCondition, FreedCondition, Signalled, SignalledAll, BeganRound, WasPolled, Added, IsReady, Sleeps, AwaitsIo, WaitsOn, AwaitsSection}
use Rattle.cpc_lifted_laws.specs.Arrival.Arrivals.{AnyValue}

any_values : (vs : List Value) → All AnyValue vs
any_values [] = All-nil AnyValue
any_values (v ∷ vs) = All-cons AnyValue v vs tt (any_values vs)

module _ {T : Type 0} (Fine : T → Type 0) where
  -- all items are so; nothing is said of a result
  abbrev pub Lists : Agenda T → Type 0
  Lists a = KeptAgenda Fine AnyValue a

  ok_only : (r : Result (Agenda T) Fault) (b : Agenda T) → r ≡ Ok b → Only Lists (of_result r) → Lists b
  ok_only r b e h = subst (λ r. Only Lists (of_result r)) e h

  pub shuffled_lists : (a b : Agenda T) → Shuffled a b → Lists a → Lists b
  shuffled_lists _ _ (MadeCondition a) h = A.other_conditions Fine AnyValue tt _ _ a h
  shuffled_lists _ _ (FreedCondition c a b e) h = ok_only _ b e (A.cond_free_so Fine AnyValue tt c a h)
  shuffled_lists _ _ (Signalled c a b e) h = ok_only _ b e (A.signal_so Fine AnyValue tt c a h)
  shuffled_lists _ _ (SignalledAll c a b e) h = ok_only _ b e (A.signal_all_so Fine AnyValue tt c a h)
  shuffled_lists _ _ (BeganRound a none) h = A.begin_round_so Fine AnyValue tt a h
  shuffled_lists _ _ (WasPolled told vs a none) h = A.begin_round_so Fine AnyValue tt (poll told vs a) (A.poll_so Fine AnyValue tt told vs a (any_values vs) h)

  pub added_lists : (item : T) (a b : Agenda T) → Fine item → Added item a b → Lists a → Lists b
  added_lists item _ _ i (IsReady a) h = A.ready_one_so Fine AnyValue tt item a i h
  added_lists item _ _ i (Sleeps z a b e) h = ok_only _ b e (A.sleep_so Fine AnyValue tt z item a i h)
  added_lists item _ _ i (AwaitsIo fd way a) h = A.io_so Fine AnyValue tt fd way item a i h
  added_lists item _ _ i (WaitsOn c a b e) h = ok_only _ b e (A.wait_so Fine AnyValue tt c item a i h)
  added_lists item _ _ i (AwaitsSection a b e) h = ok_only _ b e (A.section_so Fine AnyValue tt item a i h)

  -- the first of the round, and the agenda without it
  pub first_lists : (d : Due T) (ds : List (Due T)) (a : Agenda T) → a.round ≡ d ∷ ds → Lists a → Fine d.item
  first_lists d ds a e h = (All-head (A.DueSo Fine AnyValue tt) d ds (subst (All (A.DueSo Fine AnyValue tt)) e h.round)).0

  pub later_lists : (d : Due T) (ds : List (Due T)) (a : Agenda T) → a.round ≡ d ∷ ds → Lists a → Lists (record a { round = ds })
  later_lists d ds a e h = A.later_round Fine AnyValue tt ds a (All-tail (A.DueSo Fine AnyValue tt) d ds (subst (All (A.DueSo Fine AnyValue tt)) e h.round)) h
