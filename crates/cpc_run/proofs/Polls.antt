-- A poll is taken, once it is known what the sections come to that it tells.
use Rattle.std.proofs.Common.{◌≡◌, ℕ, suc, ◌<◌, ◌≤◌, length, List, [], ◌∷◌, ◌++◌, map, refl, sym, ap, subst, ◌∙◌, arith}
use Rattle.std.proofs.lemmas.List.{length-map}
use Rattle.cpc_base.specs.Bytes.{Text}
use Rattle.cpc_base.specs.declared.names.Name.{Name}
use Rattle.cpc_base.proofs.Lists.{equal_heads}
use Rattle.cpc_num.specs.declared.kinds.Fault.{Fault}
use Rattle.cpc_tree.specs.Erase.{Names}
use Rattle.cpc_tree.specs.Lists.{rest_of}
use Rattle.cpc_tree.specs.Points.{Point}
use Rattle.cpc_tree.specs.Trace as T
use Rattle.cpc_store.specs.Store.{Store, Value}
use Rattle.cpc_meaning.specs.Agenda as A
use Rattle.cpc_meaning.specs.Copies.{Collected, AllGave, OneFailed, NotClear, collect}
use Rattle.cpc_meaning.specs.Events.{Callback, callbacks}
use Rattle.cpc_meaning.specs.Machine.{Machine, polled, told_state}
use Rattle.cpc_meaning.specs.Trees.{trees}
use Rattle.cpc_meaning.proofs.Agendas.{SameAgenda, outs}
use Rattle.cpc_sections.specs.Backs.{CollectsAs}
use Rattle.cpc_history_marks.specs.declared.marks.Told.{Told}
use Rattle.cpc_history_marks.specs.Views.{told_of}
use Rattle.cpc_agenda_turns.specs.Laws.{sections_told, turned}
use Rattle.cpc_agenda_turns.specs.Turns as N
use Rattle.cpc_run_jobs.specs.Holding.{Holds, left_out, items_of}
use Rattle.cpc_run.specs.declared.looped.Loop.{Loop}
use Rattle.cpc_run.specs.declared.step.Step.TheVariants as X
use Rattle.cpc_run_code.specs.Code.{store_in, stack_in}
use Rattle.cpc_run_shown.specs.Shown.{shown, shown_of}
use Rattle.cpc_run.specs.States.{States, IsCallback, Stands, Fits, CameTo, lists_in, polls_in, settles, where_running, program_in}
use Rattle.cpc_run.proofs.Alike.{poll_same, polled_out, polled_made}
use Rattle.cpc_run_shown.proofs.Marks.{shown_more}
use Rattle.cpc_run_code.proofs.Written.{gave_all}

-- as many sections are out as the loop has
pub outs_so : (names : Names) (l : Loop) (s : States) → SameAgenda (IsCallback names) (lists_in names l) s.agenda → A.out (lists_in names l) ≡ A.out s.agenda
outs_so names l s g = outs (IsCallback names) (lists_in names l).sections s.agenda.sections g.sections

-- a poll is there where one is wanted
pub some_left : (names : Names) (l : Loop) (told : T.Told) → N.WantsPoll told (lists_in names l) (polls_in l) → 0 < length l.turns.polls.now
some_left names l told wants = let e : length (polls_in l) ≡ suc (length wants.left) = ap length wants.next in let same = length-map l.turns.polls.now told_of in omega (arith, e, same)

-- fewer are left once one is taken
pub fewer_polls : (x : T.Told) (xs ys : List Told) → map told_of ys ≡ x ∷ map told_of xs → length xs ≤ length ys
fewer_polls x xs ys e =
    let lengths : length (map told_of ys) ≡ suc (length (map told_of xs)) = ap length e in
    let front = length-map xs told_of in
    let whole = length-map ys told_of in
    omega (arith, lengths, front, whole)

-- what stands behind the first
behind_first : {X : Type 0} (x : X) (xs ys : List X) → ys ≡ x ∷ xs → ys ≡ x ∷ rest_of ys
behind_first x xs ys e = e ∙ ap (λ zs. x ∷ zs) (sym (ap rest_of e))

module _ (names : Names) (l : Loop) (printed : Text) (s : States) (h : Stands names l printed s) (fits : Fits names l) (told : T.Told) where
  abbrev m : Machine Point Callback
  m = callbacks (program_in names l)

  abbrev ns : List ℕ
  ns = A.completed told.events

  -- what the sections come to, as the state has it
  abbrev pub collected : Collected
  collected = sections_told m told s

  -- what came of the sections, as the loop has them
  pub collected_so : (x : Collected) (t : Store) → t ≡ store_in names l.machine → CollectsAs x (collect (trees (items_of names l.jobs)) l.jobs.bound s.jobs ns t) → CollectsAs x collected
  collected_so x t store e =
      subst (λ b. CollectsAs x (collect (trees (program_in names l)) b s.jobs ns s.store)) (sym h.lists.bound_so)
      (subst (λ u. CollectsAs x (collect (trees (program_in names l)) l.jobs.bound s.jobs ns u)) (store ∙ sym h.store)
      (subst (λ p. CollectsAs x (collect (trees p) l.jobs.bound s.jobs ns t)) fits.items e))

  -- the poll is wanted, and this goes out for it
  module _ (new : Loop) (text : Text) (trace : new.trace ≡ l.trace) (wants : N.WantsPoll told (lists_in names l) (polls_in l)) (more : text ≡ printed ++ shown_of l.trace (T.Polled told)) where
    abbrev at : States
    at = told_state told (rest_of s.history.polls) s

    next : s.history.polls ≡ told ∷ rest_of s.history.polls
    next = behind_first told wants.left s.history.polls (h.lists.polls ∙ wants.next)

    shows : shown new.trace (s.trace ++ T.Polled told ∷ []) ≡ text
    shows = ap (λ b. shown b (s.trace ++ T.Polled told ∷ [])) trace ∙ shown_more l.trace s.trace (T.Polled told) ∙ ap (λ t. t ++ shown_of l.trace (T.Polled told)) h.printed_so ∙ sym more

    -- a section failed
    pub poll_broke : (fault : Fault) (f : Name) → CollectsAs (OneFailed fault (names f)) collected → CameTo names (X.Broke fault f) new text s (settles names l s (turned m (N.Poll told) s s.agenda))
    poll_broke fault f e = go collected e
      where
        go : (c : Collected) → CollectsAs (OneFailed fault (names f)) c → CameTo names (X.Broke fault f) new text s (settles names l s (polled m told at c))
        go NotClear e = tt
        go (AllGave ws u) e = absurd (cc e)
        go (OneFailed g x) e = subst (λ c. CameTo names (X.Broke fault f) new text s (settles names l s (polled m told at c))) e (record { told = told; left = rest_of s.history.polls; next = next; over = refl; printed_so = shows })

    -- all gave values, and the poll was taken with them
    module _ (vs : List Value) (t : Store) (store : store_in names new.machine ≡ t) (stack : stack_in names new.machine ≡ stack_in names l.machine) (still : new.running ≡ l.running) (bound : new.jobs.bound ≡ l.jobs.bound)
        (taken : N.TakesPoll vs (lists_in names l) (polls_in l) (lists_in names new) (polls_in new)) (held : Holds names new.jobs s.jobs s.agenda.sections_made (left_out ns (A.out s.agenda))) where
      told_is : taken.told ≡ told
      told_is = equal_heads told taken.told wants.left (polls_in new) (polls_in l) wants.next taken.next

      stands : length vs ≡ length ns → CameTo names X.On new text s (settles names l s (polled m told at (AllGave vs t)))
      stands enough = record {
        store = sym store;
        running = h.running ∙ ap (λ b. where_running b (stack_in names l.machine)) (sym still) ∙ ap (λ k. where_running new.running k) (sym stack);
        lists = record {
          agenda = poll_same (IsCallback names) (lists_in names l) s.agenda h.lists.agenda told vs (lists_in names new) (taken.begun ∙ ap (λ x. A.begin_round (A.poll x vs (lists_in names l))) told_is);
          polls = ap rest_of (h.lists.polls ∙ taken.next);
          held = subst (λ n. Holds names new.jobs s.jobs n (A.out (A.begin_round (A.poll told vs s.agenda)))) (sym (polled_made told vs s.agenda))
              (subst (λ xs. Holds names new.jobs s.jobs s.agenda.sections_made xs) (sym (polled_out told vs s.agenda enough)) held);
          bound_so = h.lists.bound_so ∙ sym bound;
        };
        printed_so = shows;
        going = h.going;
      }

      pub poll_taken : CollectsAs (AllGave vs t) collected → CameTo names X.On new text s (settles names l s (turned m (N.Poll told) s s.agenda))
      poll_taken e = go collected refl e
        where
          go : (c : Collected) → collected ≡ c → CollectsAs (AllGave vs t) c → CameTo names X.On new text s (settles names l s (polled m told at c))
          go NotClear i e = tt
          go (OneFailed g x) i e = absurd (cc e)
          go (AllGave ws u) i e = subst (λ c. CameTo names X.On new text s (settles names l s (polled m told at c))) e (stands (gave_all (trees (program_in names l)) s.history.section_bound s.jobs ns s.store vs t (i ∙ sym e)))
