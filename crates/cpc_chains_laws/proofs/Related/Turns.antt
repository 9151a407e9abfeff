-- Where nothing runs and the round is over both machines turn alike: they poll, begin a round, or end.
use Rattle.std.proofs.Common.{◌≡◌, ℕ, Bool, true, false, List, [], ◌∷◌, ◌++◌, length, Option, Some, None, refl, sym, ◌∙◌, ap, subst, arith}
use Rattle.cpc_store.specs.Store.{Value, Blocks}
use Rattle.cpc_tree.specs.Lists.{is_empty}
use Rattle.cpc_tree.specs.Trace.{Told, Polled, Outcome, Ended, Failed, is_over}
use Rattle.cpc_meaning.specs.Answer.{Answer, Gives}
use Rattle.cpc_meaning.specs.Agenda.{Agenda, begin_round, needs_poll, completed, out, not_out, poll}
use Rattle.cpc_meaning.specs.Copies.{Collected, collect}
use Rattle.cpc_meaning.specs.Machine.{ends, polled, takes_poll, next_poll, next_round, turns_where, turns}
use Rattle.cpc_meaning.specs.Threads.{Thread, shown_in, threads_of}
use Rattle.cpc_meaning.specs.Events.{Callback, callbacks_of}
use Rattle.cpc_meaning.proofs.Both.{both_length, both_empty}
use Rattle.cpc_meaning.proofs.Agendas.{begins, polls_same, polled as same_polled, outs}
use Rattle.cpc_forms.specs.Split.{Position}
use Rattle.cpc_convert_image_laws.specs.Held.{beside}
use Rattle.cpc_convert_image_laws.specs.Relations.{Meets, BothGive, Stuck}
use Rattle.cpc_convert_flat_laws.specs.Blocks.{count, Owns}
use Rattle.cpc_convert_flat_laws.proofs.Blocks.{count_append}
use Rattle.cpc_chains_laws.specs.Related.Fresh.{AllFresh}
use Rattle.cpc_lifted_laws.specs.Related.Sums.{total}
use Rattle.cpc_lifted_laws.specs.Related.Cut.{Cut, Tagged, IsUntagged, owned_in}
use Rattle.cpc_chains_laws.specs.Related.Items.{ItemFor}
use Rattle.cpc_chains_laws.specs.Related.Running.{NothingRuns}
use Rattle.cpc_lifted_laws.proofs.Related.Owned.{count_owned}
use Rattle.cpc_lifted_laws.proofs.Related.Sums.{total_begins, total_polled, round_polled}
use Rattle.cpc_chains_laws.proofs.Related.Relation.{Source, Target, Shared, AgendaFor, source_state, target_state, Related, Goes, IsOver}
use Rattle.cpc_chains_laws.proofs.Related.Setting.{Setting, from_form, to_form, NativeFacts, Known, CollectedAlike, BothGave, BothFailed, SourceStuck}

-- agendas of items that stand for each other: the same is outstanding, and an act on all three keeps that
module _ {cut : Cut} {bs : Blocks} {a : Agenda (Thread Position)} {tags : Agenda Tagged} {b : Agenda Callback} (g : AgendaFor cut bs a tags b) where
  pub polls_alike : needs_poll a ≡ needs_poll b
  polls_alike = polls_same (ItemFor cut bs) a tags g.items ∙ polls_same IsUntagged tags b g.untagged

  pub outs_alike : out a ≡ out b
  outs_alike = outs (ItemFor cut bs) a.sections tags.sections g.items.sections ∙ outs IsUntagged tags.sections b.sections g.untagged.sections

  pub ready_alike : is_empty a.ready ≡ is_empty b.ready
  ready_alike = both_empty _ _ g.items.ready ∙ both_empty _ _ g.untagged.ready

  pub waiters_alike : length a.waiters ≡ length b.waiters
  waiters_alike = both_length _ _ g.items.waiters ∙ both_length _ _ g.untagged.waiters

  pub begin_alike : AgendaFor cut bs (begin_round a) (begin_round tags) (begin_round b)
  begin_alike = record { items = begins (ItemFor cut bs) a tags g.items; untagged = begins IsUntagged tags b g.untagged }

  pub poll_alike : (told : Told) (vs : List Value) → AgendaFor cut bs (poll told vs a) (poll told vs tags) (poll told vs b)
  poll_alike told vs = record { items = same_polled (ItemFor cut bs) told vs a tags g.items; untagged = same_polled IsUntagged told vs tags b g.untagged }

-- blocks are owned as before where the items own them as often
pub owns_again : (bs : Blocks) (owned : List ℕ) (a b : Agenda Tagged) → ((n : ℕ) → total (λ (t : Tagged). count n t.owned) b ≡ total (λ (t : Tagged). count n t.owned) a) → Owns bs (owned ++ owned_in a) → Owns bs (owned ++ owned_in b)
owns_again bs owned a b same o = record {
  each = λ n.
      let e = o.each n in
      let f = count_append n owned (owned_in a) in
      let g = count_append n owned (owned_in b) in
      let h = count_owned n a in
      let i = count_owned n b in
      let j = same n in
      omega (arith, e, f, g, h, i, j);
}

module _ (z : Setting) (facts : NativeFacts z) where
  abbrev Relates : Source → Target → Type 0
  Relates = Related z.codes z.cut z.there

  abbrev Steps : Answer Source → Answer Target → Type 0
  Steps = Meets Relates

  module _ (w : Shared) (bs : Blocks) (a : Agenda (Thread Position)) (tags : Agenda Tagged) (b : Agenda Callback) (over : tags.round ≡ []) (g : AgendaFor z.cut bs a tags b) (owns : Owns bs (owned_in tags)) (fresh : AllFresh bs) (held : Known z (source_state w None a)) where
    abbrev x : Source
    x = source_state w None a

    abbrev y : Target
    y = target_state w bs None b

    -- what is shared where a poll is told
    abbrev told_shared : Told → List Told → Shared
    told_shared told left = record w { history = record w.history { polls = left }; trace = w.trace ++ Polled told ∷ [] }

    polled_total : (n : ℕ) (told : Told) (vs : List Value) → total (λ (t : Tagged). count n t.owned) (begin_round (poll told vs tags)) ≡ total (λ (t : Tagged). count n t.owned) tags
    polled_total n told vs =
        let weight : Tagged → ℕ = λ (t : Tagged). count n t.owned in
        total_begins weight (poll told vs tags) (round_polled weight told vs tags ∙ over) ∙ total_polled weight told vs tags

    ended : (o : Outcome) → is_over o ≡ true → Relates (ends o x) (ends o y)
    ended o e = IsOver (ends o x) (ends o y) e refl refl

    -- with the sections' values a round begins
    polled_alike : (told : Told) (left : List Told) (c d : Collected) → CollectedAlike z bs c d
        → Steps (polled (threads_of (from_form z)) told (source_state (told_shared told left) None a) c) (polled (callbacks_of (to_form z)) told (target_state (told_shared told left) bs None b) d)
    polled_alike told left _ _ (BothGave vs t) =
        BothGive _ _ (Goes (record w { store = t; history = record w.history { polls = left }; trace = w.trace ++ Polled told ∷ [] }) bs None None [] _ (begin_round (poll told vs tags)) _ NothingRuns
        (begin_alike (poll_alike g told vs)) (owns_again bs [] tags (begin_round (poll told vs tags)) (λ n. polled_total n told vs) owns) fresh)
    polled_alike told left _ _ (BothFailed fault f e) =
        subst (λ name. Steps (Gives (ends (Failed fault (shown_in z.source f)) (source_state (told_shared told left) None a))) (Gives (ends (Failed fault name) (target_state (told_shared told left) bs None b)))) (sym e)
        (BothGive _ _ (IsOver _ _ refl refl refl))
    polled_alike told left _ _ (SourceStuck c) = Stuck _

    takes_alike : (told : Told) (left : List Told) (n : Option ℕ) → Steps (takes_poll (threads_of (from_form z)) x told left n) (takes_poll (callbacks_of (to_form z)) y told left n)
    takes_alike told left (Some n) = BothGive _ _ (IsOver _ _ refl refl refl)
    takes_alike told left None =
        polled_alike told left (collect (from_form z) w.history.section_bound w.jobs (completed told.events) w.store) (collect (to_form z) w.history.section_bound w.jobs (completed told.events) (beside bs w.store))
        (facts.sections w.history.section_bound w.jobs (completed told.events) w.store bs held.store held.jobs)

    next_poll_alike : (polls : List Told) → Steps (next_poll (threads_of (from_form z)) x polls) (next_poll (callbacks_of (to_form z)) y polls)
    next_poll_alike [] = BothGive _ _ (IsOver _ _ refl refl refl)
    next_poll_alike (told ∷ polls) =
        subst (λ n. Steps (takes_poll (threads_of (from_form z)) x told polls (not_out (completed told.events) (out a))) (takes_poll (callbacks_of (to_form z)) y told polls n))
        (ap (not_out (completed told.events)) (outs_alike g)) (takes_alike told polls (not_out (completed told.events) (out a)))

    round_alike : (n : Bool) → Relates (next_round x n) (next_round y n)
    round_alike true = IsOver _ _ refl refl (ap Ended (sym (waiters_alike g)))
    round_alike false = Goes w bs None None [] _ (begin_round tags) _ NothingRuns (begin_alike g) (owns_again bs [] tags (begin_round tags) (λ n. total_begins (λ (t : Tagged). count n t.owned) tags over) owns) fresh

    turns_where_alike : (n : Bool) → Steps (turns_where (threads_of (from_form z)) x n) (turns_where (callbacks_of (to_form z)) y n)
    turns_where_alike true = next_poll_alike w.history.polls
    turns_where_alike false = subst (λ n. Steps (Gives (next_round x (is_empty a.ready))) (Gives (next_round y n))) (ready_alike g) (BothGive _ _ (round_alike (is_empty a.ready)))

    -- a turn of both
    pub turns_meet : Steps (turns (threads_of (from_form z)) x) (turns (callbacks_of (to_form z)) y)
    turns_meet = subst (λ n. Steps (turns_where (threads_of (from_form z)) x (needs_poll a)) (turns_where (callbacks_of (to_form z)) y n)) (polls_alike g) (turns_where_alike (needs_poll a))
