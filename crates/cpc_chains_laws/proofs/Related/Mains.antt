-- The row in which a cps `main` is called: the target calls its `main`, which puts the driver with the first frame into the next round, and takes it there.
use Rattle.std.proofs.Common.{◌≡◌, inl, inr, ℕ, suc, ◌+◌, ◌≤◌, [], ◌∷◌, Some, None, option_map, refl, sym, arith}
use Rattle.cpc_store.specs.declared.values.Class.TheVariants.{Frame}
use Rattle.cpc_store.specs.Store.{Null, Unset, At as Pointer, Blocks}
use Rattle.cpc_meaning_matching.specs.Simulation.{More}
use Rattle.cpc_meaning_matching.proofs.Paths.{path_map, path_wider}
use Rattle.cpc_meaning.specs.Agenda.{new_agenda, begin_round}
use Rattle.cpc_meaning.specs.Machine.{next}
use Rattle.cpc_meaning.specs.Start.{main_name}
use Rattle.cpc_meaning.specs.Threads.{Pending, threads_of}
use Rattle.cpc_meaning.specs.Events.{CallMain, CallWith}
use Rattle.cpc_meaning.proofs.Both as B
use Rattle.cpc_lift_laws.specs.Lifted.{tidy}
use Rattle.cpc_convert_image_laws.specs.Held.{beside}
use Rattle.cpc_convert_flat_laws.specs.Blocks.{Owns}
use Rattle.cpc_chains_store_laws.specs.Chains.{frame_cells}
use Rattle.cpc_chains_store_laws.specs.Driver.{drive_name}
use Rattle.cpc_convert_flat_laws.specs.Walks.{Finishes}
use Rattle.cpc_convert_flat_laws.proofs.Walks.{climb_then, whole_climb}
use Rattle.cpc_lifted_laws.specs.Related.Bounds.{Bounds, Enough}
use Rattle.cpc_chains_laws.specs.Related.Items.{first_saved, driven}
use Rattle.cpc_lifted_laws.specs.Related.Cut.{Tagged, owned_in}
use Rattle.cpc_chains_laws.proofs.Related.Entry.{EntryFacts}
use Rattle.cpc_chains_laws.proofs.Related.Idle.{idle_row}
use Rattle.cpc_chains_laws.proofs.Related.Putting.{agenda_ready, owns_ready, pending_put}
use Rattle.cpc_chains_laws.proofs.Related.Relation.{Source, Target, Shared, AgendaFor, source_state, target_state, with_main, Related}
use Rattle.cpc_chains_laws.proofs.Related.Rows.{RowFor, Midway, AtFirst, AtLast, near_quiet, MainWaits, with_first}
use Rattle.cpc_chains_laws.proofs.Related.Setting.{Setting, from_form, NativeFacts, KeepsFacts, Known}
use Rattle.cpc_chains_laws.proofs.Related.Turns.{begin_alike}

-- `main` is a cps function: what stands for it makes its first frame and makes it ready, and then nothing runs
pub record CpsMain (z : Setting) (bounds : Bounds) : Type 0 where
  pub steps : ℕ
  pub within : steps ≤ bounds.mains
  pub leads : (w : Shared) → Finishes z.target w.trace steps (target_state w [] None (begin_round (with_main CallMain))) (target_state w (with_first z) None (with_main (CallWith drive_name (Pointer Frame 0 0))))

module _ (z : Setting) (native : NativeFacts z) (keeps : KeepsFacts z) (bounds : Bounds) (entry : EntryFacts z bounds) (most : ℕ) (enough : Enough bounds most) (main : CpsMain z bounds) (w : Shared) where
  -- the source, and the target at the call of `main`, and before and in the round of the driver
  abbrev from : Source
  from = source_state w None (begin_round (with_main (Pending main_name [])))

  abbrev to : Target
  to = target_state w [] None (begin_round (with_main CallMain))

  abbrev waiting : Target
  waiting = target_state w (with_first z) None (with_main (CallWith drive_name (Pointer Frame 0 0)))

  abbrev taken : Target
  taken = target_state w (with_first z) None (begin_round (with_main (CallWith drive_name (Pointer Frame 0 0))))

  abbrev item : Tagged
  item = driven (Pointer Frame 0 0) (0 ∷ [])

  nothing_waits : AgendaFor z.cut (with_first z) new_agenda new_agenda new_agenda
  nothing_waits = record {
    items = record { ready = B.Ends; round = B.Ends; waiters = B.Ends; descriptors = B.Ends; timers = B.Ends; sections = B.Ends; live = refl; now = refl; conditions_made = refl; timers_made = refl; sections_made = refl };
    untagged = record { ready = B.Ends; round = B.Ends; waiters = B.Ends; descriptors = B.Ends; timers = B.Ends; sections = B.Ends; live = refl; now = refl; conditions_made = refl; timers_made = refl; sections_made = refl };
  }

  main_waits : AgendaFor z.cut (with_first z) (with_main (Pending main_name [])) (with_main item) (with_main item.callback)
  main_waits = agenda_ready z.cut (with_first z) (Pending main_name []) item new_agenda new_agenda new_agenda (pending_put z.cut [] main_name []) nothing_waits

  main_owns : Owns (with_first z) (owned_in (begin_round (with_main item)))
  main_owns = owns_ready [] (frame_cells (first_saved z.cut main_name []) Null Unset) [] item.callback new_agenda (record { each = λ b. refl })

  pub cps_main_row : (x' : Source) → Known z from → Known z x' → option_map (tidy z.kept) (next (threads_of (from_form z)) from) ≡ Some x' → RowFor z bounds.rise from x' most to
  cps_main_row x' known known' e =
      path_wider most (let i = enough.begins in let j = main.within in let k : main.steps + (2 + (5 + bounds.begins)) ≤ most = omega arith in k)
      (climb_then {q = z.target} {trace = w.trace} (Related z.codes z.cut z.there x') (Midway z bounds.rise from x' to) (λ t q few. AtFirst (near_quiet z from t refl q) (let i = enough.begun in let m = main.within in omega (arith, i, m, few)))
      main.steps (2 + (5 + bounds.begins)) to (main.leads w).before (whole_climb main.steps main.steps to (main.leads w).before (main.leads w).leads)
      (More (2 + (5 + bounds.begins)) (1 + (5 + bounds.begins)) (main.leads w).before waiting (main.leads w).last (omega arith) (AtFirst (record { trace = refl; outcome = refl; runs = inr (main_there waiting refl refl) }) (let i = enough.begun in omega (arith, i)))
      (More (1 + (5 + bounds.begins)) (5 + bounds.begins) waiting taken refl (omega arith) (AtFirst (record { trace = refl; outcome = refl; runs = inr (main_there taken refl refl) }) (let i = enough.begun in omega (arith, i)))
      (path_map (λ t s. s) (few_there x')
      (idle_row z native keeps bounds entry (5 + bounds.begins) (3 + bounds.opens) (omega arith) (omega arith) enough.taken enough.less w (with_first z) (begin_round (with_main (Pending main_name []))) (begin_round (with_main item)) (begin_round (with_main item.callback))
      (begin_alike main_waits) main_owns (refl, tt) x' known known' e)))))
    where
      -- from the first state of the row
      few_there : (x' : Source) (t : Target) → Midway z (3 + bounds.opens) from x' taken t → Midway z bounds.rise from x' to t
      few_there x' t (AtFirst near less) = AtFirst near (let i = enough.begun in omega (arith, i, less))
      few_there x' t (AtLast near last stands goes less) = AtLast near last stands goes (let i = enough.begun in omega (arith, i, less))

      main_there : (t : Target) → t.running ≡ None → t.store ≡ beside (with_first z) w.store → MainWaits z from t
      main_there t rests store = record { shared = w; source = refl; rests = rests; store = store }
