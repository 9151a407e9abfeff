-- A run, step by step.
use Rattle.std.proofs.Common.{◌≡◌, ◌⊎◌, inl, inr, ℕ, suc, ◌+◌, ◌<◌, ◌≤◌, Bool, true, [], ◌++◌, length, Option, Some, None, Result, Ok, refl, sym, ap, subst, ◌∙◌, arith, add-one}
use Rattle.std.proofs.lemmas.List.{append-nil, length-map}
use Rattle.std.proofs.lemmas.Bool.{cases_lt}
use Rattle.cpc_base.specs.Bytes.{Text}
use Rattle.cpc_base.specs.declared.names.Name.{Name}
use Rattle.cpc_base.specs.declared.stop.NoMemory.{NoMemory}
use Rattle.cpc_num.specs.declared.kinds.Fault.{Fault}
use Rattle.cpc_tree.specs.Erase.{Names, Table, in_table}
use Rattle.cpc_tree.specs.Syntax.{Program}
use Rattle.cpc_tree.specs.Trace as T
use Rattle.cpc_check_rules.specs.Apart.{Spells}
use Rattle.cpc_meaning_matching.specs.Steps.{or_stay}
use Rattle.cpc_meaning.specs.Events.{callbacks}
use Rattle.cpc_meaning.specs.History.{History}
use Rattle.cpc_meaning.specs.Machine.{ends, try_step, unless_over, step}
use Rattle.cpc_meaning.specs.Runs.{live_cells}
use Rattle.cpc_meaning.specs.Start.{before_underscores}
use Rattle.cpc_history_marks.specs.Views.{told_of}
use Rattle.cpc_run.specs.declared.looped.Loop.{Loop}
use Rattle.cpc_run.specs.declared.made.Made.{Made}
use Rattle.cpc_run.specs.declared.made.Made.TheVariants as M
use Rattle.cpc_run_shown.specs.declared.outcome.Ended.{Ended}
use Rattle.cpc_run_shown.specs.declared.outcome.Ended.TheVariants as E
use Rattle.cpc_run_shown.specs.declared.outcome.Limits.{Limits}
use Rattle.cpc_run_shown.specs.declared.outcome.Outcome.{Outcome}
use Rattle.cpc_run_shown.specs.declared.outcome.Outcome.TheVariants as O
use Rattle.cpc_run_shown.specs.declared.outcome.RunReport.{RunReport}
use Rattle.cpc_run_shown.specs.Outcomes.{outcome_of}
use Rattle.cpc_run_shown.specs.Shown.{shown, all_shown, last_of}
use Rattle.cpc_run.specs.States.{States, Breaks, Within, Keeps, program_in}
use Rattle.cpc_run.specs.Reports.{MadeSo, Reached, NeverStuck, IsLeft, IsBrokenOff, IsCutShort, IsPrefix, KeepsFirst, WentOut, EndsSo, Tells, Wrote, run_of}
use Rattle.cpc_run_shown.specs.Known.{IsInTable}
use Rattle.cpc_run_code.proofs.Making.{step_made}
use Rattle.cpc_run_shown.proofs.Marks.{all_is, no_last, none_last}

-- ---- the next state

-- where a state goes on, the step is the one that is tried
stepped : (q : Program) (s t : States) → s.outcome ≡ T.Going → try_step (callbacks q) s ≡ Some t → step (callbacks q) s ≡ t
stepped q s t going e = ap (λ o. or_stay s (unless_over o (try_step (callbacks q) s))) going ∙ ap (or_stay s) e

-- a state of a run that is never stuck has a next one
module _ (q : Program) (h : History) (n : ℕ) (stuck : NeverStuck q h) (going : (run_of q h n).outcome ≡ T.Going) where
  next_in : (o : Option States) → try_step (callbacks q) (run_of q h n) ≡ o → (t : States) × (o ≡ Some t)
  next_in None e = absurd (stuck n (going, e))
  next_in (Some t) e = (t, refl)

  pub next_is : try_step (callbacks q) (run_of q h n) ≡ Some (run_of q h (suc n))
  next_is =
      let t = next_in (try_step (callbacks q) (run_of q h n)) refl in
      t.1 ∙ ap Some (sym (stepped q (run_of q h n) t.0 going t.1))

upto : (P : ℕ → Type 0) (n : ℕ) → ((m : ℕ) → m ≤ n → P m) → P (suc n) → (m : ℕ) → m ≤ suc n → P m
upto P n h here m le = go (or_last m n le)
  where
    or_last : (m n : ℕ) → m ≤ suc n → (m ≤ n) ⊎ (m ≡ suc n)
    or_last m n le = elim (cases_lt n m) [ inl h ↦ inr (omega arith) | inr h ↦ inl h ]

    go : (m ≤ n) ⊎ (m ≡ suc n) → P m
    go (inl k) = h m k
    go (inr e) = subst P (sym e) here

module _ (names : Names) (q : Program) (h : History) (cap : ℕ) (trace : Bool) (l : Loop) (printed : Text) (n cells : ℕ) (stuck : NeverStuck q h) (r : Reached names q h cap trace l printed n cells) where
  here_going : (run_of q h n).outcome ≡ T.Going
  here_going = r.going n (omega arith)

  -- what a step came to, said of the next state of the run
  pub made_next : (m : Result Made NoMemory) (new : Loop) (old text : Text) → MadeSo names cap m new old text (run_of q h n) (try_step (callbacks (program_in names l)) (run_of q h n))
      → MadeSo names cap m new old text (run_of q h n) (Some (run_of q h (suc n)))
  made_next m new old text x =
      subst (MadeSo names cap m new old text (run_of q h n)) (next_is q h n stuck here_going)
      (subst (λ p. MadeSo names cap m new old text (run_of q h n) (try_step (callbacks p) (run_of q h n))) r.program x)

  reached_next : (new : Loop) (old text : Text) (left : ℕ) → Keeps l new → MadeSo names cap (Ok (M.On left)) new old text (run_of q h n) (try_step (callbacks (program_in names l)) (run_of q h n))
      → Reached names q h cap trace new text (suc n) left
  reached_next new old text left keeps x =
      let made = made_next (Ok (M.On left)) new old text x in record {
        fits = keeps.runs names r.fits;
        program = keeps.program names ∙ r.program;
        stands = made.0;
        cells_are = made.1;
        going = upto (λ m. (run_of q h m).outcome ≡ T.Going) n r.going made.0.going;
        bounded = upto (λ m. live_cells (run_of q h m) ≤ cap) n r.bounded (subst (λ c. c ≤ cap) made.1 made.2);
        traces = keeps.trace ∙ r.traces;
        polls = keeps.polls ∙ r.polls;
        made = step_made q (run_of q h n) r.made;
      }

  pub reached_more : (new : Loop) (text : Text) (left : ℕ) → Keeps l new → MadeSo names cap (Ok (M.On left)) new printed text (run_of q h n) (try_step (callbacks (program_in names l)) (run_of q h n))
      → Reached names q h cap trace new text (n + 1) left
  reached_more new text left keeps x = subst (λ m. Reached names q h cap trace new text m left) (sym (add-one n)) (reached_next new printed text left keeps x)

  pub over_next : (new : Loop) (text : Text) (outcome : Outcome) → MadeSo names cap (Ok (M.Over outcome)) new printed text (run_of q h n) (try_step (callbacks (program_in names l)) (run_of q h n))
      → run_of q h (suc n) ≡ ends (outcome_of names outcome) (run_of q h n)
  over_next new text outcome x = (made_next (Ok (M.Over outcome)) new printed text x).1

  pub same_text : (new : Loop) (text : Text) (outcome : Outcome) → MadeSo names cap (Ok (M.Over outcome)) new printed text (run_of q h n) (try_step (callbacks (program_in names l)) (run_of q h n)) → text ≡ printed
  same_text new text outcome x = (made_next (Ok (M.Over outcome)) new printed text x).0

  pub full_next : (new : Loop) (text : Text) (left : ℕ) → MadeSo names cap (Ok (M.Full left)) new printed text (run_of q h n) (try_step (callbacks (program_in names l)) (run_of q h n))
      → (text ≡ printed) × (left ≡ live_cells (run_of q h (suc n))) × (cap < left)
  full_next new text left x = made_next (Ok (M.Full left)) new printed text x

-- a state that was reached has no more live cells than the cap, and its pointers lead into blocks that were made
pub within_cap : (names : Names) (q : Program) (h : History) (cap : ℕ) (trace : Bool) (l : Loop) (printed : Text) (n cells : ℕ) → Reached names q h cap trace l printed n cells → Within cap (run_of q h n)
within_cap names q h cap trace l printed n cells r = record { made = r.made; live = r.bounded n (omega arith) }

-- nor has the first state
pub first_within : (names : Names) (q : Program) (h : History) (cap : ℕ) (trace : Bool) (l : Loop) (printed : Text) (n cells : ℕ) → Reached names q h cap trace l printed n cells → live_cells (run_of q h 0) ≤ cap
first_within names q h cap trace l printed n cells r = r.bounded 0 (omega arith)

-- ---- names in what is told

module _ (names : Names) (table : Table) (spells : Spells table names) (q : Program) (h : History) (limits : Limits) where
  over_in : (n : ℕ) (o : Outcome) → outcome_of names o ≡ outcome_of (in_table table) o → IsLeft names q h limits n (E.Over o) → IsLeft (in_table table) q h limits n (E.Over o)
  over_in n o e left = record { within = left.within; over = left.over ∙ e; before = left.before }

  -- how the run was left, by the names of the table
  pub left_in : (n : ℕ) (e : Ended) → IsInTable table e → IsLeft names q h limits n e → IsLeft (in_table table) q h limits n e
  left_in n (E.Over (O.Ended k)) i left = over_in n (O.Ended k) refl left
  left_in n (E.Over (O.Exited z)) i left = over_in n (O.Exited z) refl left
  left_in n (E.Over (O.Failed fault f)) i left = over_in n (O.Failed fault f) (ap (λ t. T.Failed fault (before_underscores t)) (spells.inside f i)) left
  left_in n (E.Over O.HistoryEnded) i left = over_in n O.HistoryEnded refl left
  left_in n (E.Over (O.BadHistory k)) i left = over_in n (O.BadHistory k) refl left
  left_in n E.Steps i left = left
  left_in n (E.Full cells) i left = left
  left_in n E.WriteFault i left = left
  left_in n E.Memory i left = left
  left_in n (E.NoHost x) i left = left

-- ---- what is told

whole_prefix : (text : Text) → IsPrefix text text
whole_prefix text = record { rest = []; whole = sym (append-nil text) }

-- what is known at an end of what was reached
pub record AtEnd (q : Program) (h : History) (limits : Limits) (trace : Bool) (n cells polls : ℕ) (whole : Text) : Type 0 where
  pub wrote : whole ≡ shown trace (run_of q h n).trace
  pub cells_are : cells ≡ live_cells (run_of q h n)
  pub bounded : (m : ℕ) → 0 < n → m ≤ n → live_cells (run_of q h m) ≤ limits.cells
  pub polls_are : length h.polls ≡ polls + length (run_of q h n).history.polls
  pub broken_off : IsBrokenOff q h limits.steps n

module _ (names : Names) (q : Program) (h : History) (limits : Limits) (trace : Bool) (n cells polls : ℕ) where
  -- all that was put out is what went out, whatever the end
  went_all : (table : Table) (e : Ended) → IsInTable table e → (out whole : Text) → whole ≡ shown trace (run_of q h n).trace → out ≡ whole ++ last_of names trace e → IsLeft names q h limits n e → WentOut names q h limits trace n e out
  went_all table e known out whole wrote is left = go e known (is ∙ ap (λ w. w ++ last_of names trace e) wrote ∙ sym (all_is names trace e (run_of q h n).trace)) left
    where
      go : (e : Ended) → IsInTable table e → out ≡ all_shown names trace e (run_of q h n).trace → IsLeft names q h limits n e → WentOut names q h limits trace n e out
      go (E.Over outcome) known is left = is
      go E.Steps known is left = is
      go (E.Full cells) known is left = is
      go E.WriteFault known is left = absurd known
      go E.Memory known is left = subst (IsPrefix out) (is ∙ none_last names trace (run_of q h n).trace) (whole_prefix out)
      go (E.NoHost x) known is left = absurd left

  pub tells_all : (table : Table) (e : Ended) → IsInTable table e → (out whole : Text) → IsLeft names q h limits n e → KeepsFirst q h limits.cells e → AtEnd q h limits trace n cells polls whole → out ≡ whole ++ last_of names trace e
      → Tells names q h limits trace (record { ended = e; steps = n; cells = cells; polls = polls }) out
  tells_all table e known out whole left first at is = record {
    left = left;
    wrote = went_all table e known out whole at.wrote is left;
    cells = inl at.cells_are;
    bounded = at.bounded;
    first = λ starved. inl (subst (KeepsFirst q h limits.cells) starved first);
    polls = at.polls_are;
  }

  -- the sink failed where this end was due
  pub tells_part : (due : Ended) (out whole : Text) → IsLeft names q h limits n due → KeepsFirst q h limits.cells due → AtEnd q h limits trace n cells polls whole → IsCutShort out (whole ++ last_of names trace due)
      → Tells names q h limits trace (record { ended = E.WriteFault; steps = n; cells = cells; polls = polls }) out
  tells_part due out whole left first at part = record {
    left = at.broken_off;
    wrote = (due, left, first, subst (IsCutShort out) (ap (λ w. w ++ last_of names trace due) at.wrote ∙ sym (all_is names trace due (run_of q h n).trace)) part);
    cells = inl at.cells_are;
    bounded = at.bounded;
    first = λ starved. cc;
    polls = at.polls_are;
  }

  -- the sink failed on the way
  pub tells_cut : (out whole : Text) → live_cells (run_of q h 0) ≤ limits.cells → AtEnd q h limits trace n cells polls whole → IsCutShort out whole → Tells names q h limits trace (record { ended = E.WriteFault; steps = n; cells = cells; polls = polls }) out
  tells_cut out whole first at part = record {
    left = at.broken_off;
    wrote = (E.WriteFault, at.broken_off, first, subst (IsCutShort out) (at.wrote ∙ sym (no_last names trace (run_of q h n).trace)) part);
    cells = inl at.cells_are;
    bounded = at.bounded;
    first = λ starved. cc;
    polls = at.polls_are;
  }

  pub tells_memory : (out whole : Text) → (live_cells (run_of q h 0) ≤ limits.cells) ⊎ (trace ≡ true) → AtEnd q h limits trace n cells polls whole → IsPrefix out whole → Tells names q h limits trace (record { ended = E.Memory; steps = n; cells = cells; polls = polls }) out
  tells_memory out whole first at part = record {
    left = at.broken_off;
    wrote = subst (IsPrefix out) at.wrote part;
    cells = inl at.cells_are;
    bounded = at.bounded;
    first = λ starved. made first;
    polls = at.polls_are;
  }
    where
      made : (live_cells (run_of q h 0) ≤ limits.cells) ⊎ (trace ≡ true) → (live_cells (run_of q h 0) ≤ limits.cells) ⊎ ((trace ≡ true) ⊎ (cells ≡ 0))
      made (inl fits) = inl fits
      made (inr traced) = inr (inl traced)

-- the report that was due, or that the sink failed or memory was wanting
pub tells_end : (table : Table) (q : Program) (h : History) (limits : Limits) (trace : Bool) (due : RunReport) (ended : Ended) (out whole : Text) → (IsInTable table due.ended → IsLeft (in_table table) q h limits due.steps due.ended)
    → KeepsFirst q h limits.cells due.ended → AtEnd q h limits trace due.steps due.cells due.polls whole → EndsSo table trace due.ended ended out whole → Tells (in_table table) q h limits trace (record due { ended = ended }) out
tells_end table q h limits trace due ended out whole left first at (inl e) =
    subst (λ x. Tells (in_table table) q h limits trace (record due { ended = x }) out) (sym e.1) (tells_all (in_table table) q h limits trace due.steps due.cells due.polls table due.ended e.0 out whole (left e.0) first at e.2)
tells_end table q h limits trace due ended out whole left first at (inr (inl e)) =
    subst (λ x. Tells (in_table table) q h limits trace (record due { ended = x }) out) (sym e.1) (tells_part (in_table table) q h limits trace due.steps due.cells due.polls due.ended out whole (left e.0) first at e.2)
tells_end table q h limits trace due ended out whole left first at (inr (inr e)) =
    subst (λ x. Tells (in_table table) q h limits trace (record due { ended = x }) out) (sym e.0) (tells_memory (in_table table) q h limits trace due.steps due.cells due.polls out whole (inr e.1) at e.2)

-- what was due is told, or that the sink failed or memory was wanting
pub ends_told : (table : Table) (q : Program) (h : History) (limits : Limits) (trace : Bool) (due result : RunReport) (whole : Text) (told now : Option Text) → (IsInTable table due.ended → IsLeft (in_table table) q h limits due.steps due.ended)
    → KeepsFirst q h limits.cells due.ended → AtEnd q h limits trace due.steps due.cells due.polls whole → result ≡ record due { ended = result.ended } → Wrote told now (λ o. EndsSo table trace due.ended result.ended o whole)
    → Wrote told now (Tells (in_table table) q h limits trace result)
ends_told table q h limits trace due result whole told now left first at same w =
    (w.0, w.1, subst (λ r. Tells (in_table table) q h limits trace r w.0) (sym same) (tells_end table q h limits trace due result.ended w.0 whole left first at w.2))

-- ---- what is known at each end

-- of what was reached
pub at_end : (names : Names) (q : Program) (h : History) (limits : Limits) (trace : Bool) (l : Loop) (printed : Text) (n cells polls : ℕ) → Reached names q h limits.cells trace l printed n cells → polls + length l.turns.polls.now ≡ l.polls → n ≤ limits.steps
    → AtEnd q h limits trace n cells polls printed
at_end names q h limits trace l printed n cells polls r counted within = record {
  wrote = sym r.stands.printed_so ∙ ap (λ b. shown b (run_of q h n).trace) r.traces;
  cells_are = r.cells_are;
  bounded = λ m pos le. r.bounded m le;
  polls_are = sym r.polls ∙ sym counted ∙ ap (λ k. polls + k) (sym (ap length r.stands.lists.polls ∙ length-map l.turns.polls.now told_of));
  broken_off = record { within = within; going = λ m lt. r.going m (omega arith) };
}

module _ (names : Names) (q : Program) (h : History) (limits : Limits) (trace : Bool) (l : Loop) (printed : Text) (n cells polls : ℕ) (stuck : NeverStuck q h) (r : Reached names q h limits.cells trace l printed n cells)
    (counted : polls + length l.turns.polls.now ≡ l.polls) (below : n < limits.steps) where
  here : AtEnd q h limits trace n cells polls printed
  here = at_end names q h limits trace l printed n cells polls r counted (omega (arith, below))

  -- where a step was the last one
  pub left_over : (new : Loop) (text : Text) (outcome : Outcome) → MadeSo names limits.cells (Ok (M.Over outcome)) new printed text (run_of q h n) (try_step (callbacks (program_in names l)) (run_of q h n))
      → IsLeft names q h limits (n + 1) (E.Over outcome) × AtEnd q h limits trace (n + 1) cells polls text
  left_over new text outcome x =
      let last = over_next names q h limits.cells trace l printed n cells stuck r new text outcome x in
      let same = same_text names q h limits.cells trace l printed n cells stuck r new text outcome x in
      subst (λ m. IsLeft names q h limits m (E.Over outcome) × AtEnd q h limits trace m cells polls text) (sym (add-one n)) (
        record { within = omega arith; over = ap (λ s. s.outcome) last; before = λ m lt. r.going m (omega arith) },
        record {
          wrote = same ∙ here.wrote ∙ sym (ap (λ s. shown trace s.trace) last);
          cells_are = r.cells_are ∙ sym (ap live_cells last);
          bounded = λ m pos le. upto (λ m. live_cells (run_of q h m) ≤ limits.cells) n r.bounded (subst (λ s. live_cells s ≤ limits.cells) (sym last) (r.bounded n (omega arith))) m le;
          polls_are = here.polls_are ∙ sym (ap (λ s. polls + length s.history.polls) last);
          broken_off = record { within = omega arith; going = λ m lt. r.going m (omega arith) };
        },
      )

  -- where a step took a poll, and a section failed
  pub left_broke : (new : Loop) (text : Text) (fault : Fault) (f : Name) → new.trace ≡ l.trace
      → MadeSo names limits.cells (Ok (M.Broke fault f)) new printed text (run_of q h n) (try_step (callbacks (program_in names l)) (run_of q h n))
      → IsLeft names q h limits (n + 1) (E.Over (O.Failed fault f)) × AtEnd q h limits trace (n + 1) cells (polls + 1) text
  left_broke new text fault f same x =
      let b : Breaks names fault f new.trace text (run_of q h n) (run_of q h (suc n)) = made_next names q h limits.cells trace l printed n cells stuck r (Ok (M.Broke fault f)) new printed text x in
      let before : length h.polls ≡ polls + length (run_of q h n).history.polls = here.polls_are in
      let took : length (run_of q h n).history.polls ≡ suc (length b.left) = ap length b.next in
      let left : length (run_of q h (suc n)).history.polls ≡ length b.left = ap (λ s. length s.history.polls) b.over in
      subst (λ m. IsLeft names q h limits m (E.Over (O.Failed fault f)) × AtEnd q h limits trace m cells (polls + 1) text) (sym (add-one n)) (
        record { within = omega arith; over = ap (λ s. s.outcome) b.over; before = λ m lt. r.going m (omega arith) },
        record {
          wrote = sym b.printed_so ∙ ap (λ y. shown y (run_of q h (suc n)).trace) (same ∙ r.traces);
          cells_are = r.cells_are ∙ sym (ap live_cells b.over);
          bounded = λ m pos le. upto (λ m. live_cells (run_of q h m) ≤ limits.cells) n r.bounded (subst (λ s. live_cells s ≤ limits.cells) (sym b.over) (r.bounded n (omega arith))) m le;
          polls_are = omega (arith, before, took, left);
          broken_off = record { within = omega arith; going = λ m lt. r.going m (omega arith) };
        },
      )

  -- where a step would leave too many cells
  pub left_full : (new : Loop) (text : Text) (left : ℕ) → MadeSo names limits.cells (Ok (M.Full left)) new printed text (run_of q h n) (try_step (callbacks (program_in names l)) (run_of q h n))
      → IsLeft names q h limits n (E.Full left) × AtEnd q h limits trace n cells polls text
  left_full new text left x =
      let made = full_next names q h limits.cells trace l printed n cells stuck r new text left x in (
        inl (below, r.bounded n (omega arith), record { goes_on = r.going n (omega arith); above = subst (λ c. limits.cells < c) made.1 made.2 }, made.1),
        subst (AtEnd q h limits trace n cells polls) (sym made.0) here,
      )
