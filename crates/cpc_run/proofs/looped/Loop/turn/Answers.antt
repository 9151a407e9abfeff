use Rattle.std.proofs.Common.{◌++◌, refl, sym, ap, subst, ◌∙◌}
use Rattle.cpc_history_marks.specs.Views.{told_of}
use Rattle.cpc_agenda_turns.specs.Turns.{turn_of, TurnIs}
use Rattle.cpc_run.specs.States.{DidTurn, Fits, lists_in, polls_in, settles}
use Rattle.cpc_run.proofs.Kept.{turns_kept, kept_then}
use Rattle.cpc_run.proofs.Turns.{round_began, poll_wanted, run_ended, history_over, poll_refused, stands_as_before, wants_so, steady_so, counts_so}
use Rattle.cpc_run.proofs.looped.Loop.turn.Goals as goal

pub returns-in-Round-clause-steady : goal.returns-in-Round-clause-steady
returns-in-Round-clause-steady g c = steady_so c.args.self.now c.turn.new.self c.turn.ensures.polls c.requires.steady

pub returns-in-Round-clause-did : goal.returns-in-Round-clause-did
returns-in-Round-clause-did g c = λ names fits sent s stands.
    let l = c.args.self.now in
    let new = record l { turns = c.turn.new.self } in
    let tie = subst (λ t. TurnIs (turn_of t) (lists_in names l) (polls_in l) (lists_in names new)) c.in-Round.is (c.in_ok-turn.ensures.turned names) in
    round_began names l new (sent ++ c.args.pending.now.items) s stands refl refl refl refl c.turn.ensures.polls tie

pub polls-requires-clause-steady : goal.polls-requires-clause-steady
polls-requires-clause-steady g c = steady_so c.args.self.now c.turn.new.self c.turn.ensures.polls c.requires.steady

pub polls-requires-clause-round : goal.polls-requires-clause-round
polls-requires-clause-round g c = λ names.
    let l = c.args.self.now in
    let new = record l { turns = c.turn.new.self } in
    let tie = subst (λ t. TurnIs (turn_of t) (lists_in names l) (polls_in l) (lists_in names new)) c.in-Poll.is (c.in_ok-turn.ensures.turned names) in
    ap (λ a. a.round) tie.1 ∙ c.requires.round names

pub polls-requires-clause-wants : goal.polls-requires-clause-wants
polls-requires-clause-wants g c = λ names.
    let l = c.args.self.now in
    let new = record l { turns = c.turn.new.self } in
    let tie = subst (λ t. TurnIs (turn_of t) (lists_in names l) (polls_in l) (lists_in names new)) c.in-Poll.is (c.in_ok-turn.ensures.turned names) in
    wants_so names l new (told_of c.in-Poll.told.now) c.turn.ensures.polls tie

pub returns-in-Poll-clause-keeps : goal.returns-in-Poll-clause-keeps
returns-in-Poll-clause-keeps g c = kept_then c.args.self.now _ c.polls.new.self (turns_kept c.args.self.now c.turn.new.self) c.polls.ensures.keeps

pub returns-in-Poll-clause-polls : goal.returns-in-Poll-clause-polls
returns-in-Poll-clause-polls g c = counts_so c.args.self.now (record c.args.self.now { turns = c.turn.new.self }) c.polls.result c.turn.ensures.polls c.polls.ensures.polls

pub returns-in-Poll-clause-did : goal.returns-in-Poll-clause-did
returns-in-Poll-clause-did g c = λ names fits sent s stands.
    let l = c.args.self.now in
    let mid = record l { turns = c.turn.new.self } in
    let printed = sent ++ c.args.pending.now.items in
    let tie = subst (λ t. TurnIs (turn_of t) (lists_in names l) (polls_in l) (lists_in names mid)) c.in-Poll.is (c.in_ok-turn.ensures.turned names) in
    let fits_mid : Fits names mid = record { runs = fits.runs; main = fits.main; serves = fits.serves; items = fits.items } in
    subst (λ a. DidTurn names c.polls.result c.polls.new.self (sent ++ c.polls.new.pending.items) s (settles names l s a))
    (sym (poll_wanted names l mid printed s stands refl refl refl refl c.turn.ensures.polls (told_of c.in-Poll.told.now) tie))
    (c.polls.ensures.did names fits_mid sent s (stands_as_before names l mid printed s refl refl refl c.turn.ensures.polls refl tie.1 stands))

pub returns-in-Ended-clause-did : goal.returns-in-Ended-clause-did
returns-in-Ended-clause-did g c = λ names fits sent s stands.
    let l = c.args.self.now in
    let new = record l { turns = c.turn.new.self } in
    let tie = subst (λ t. TurnIs (turn_of t) (lists_in names l) (polls_in l) (lists_in names new)) c.in-Ended.is (c.in_ok-turn.ensures.turned names) in
    run_ended names l new (sent ++ c.args.pending.now.items) s stands refl refl refl refl c.turn.ensures.polls c.in-Ended.waiters (sent ++ c.args.pending.now.items) tie

pub returns-in-HistoryEnded-clause-did : goal.returns-in-HistoryEnded-clause-did
returns-in-HistoryEnded-clause-did g c = λ names fits sent s stands.
    let l = c.args.self.now in
    let new = record l { turns = c.turn.new.self } in
    let tie = subst (λ t. TurnIs (turn_of t) (lists_in names l) (polls_in l) (lists_in names new)) c.in-HistoryEnded.is (c.in_ok-turn.ensures.turned names) in
    history_over names l new (sent ++ c.args.pending.now.items) s stands refl refl refl refl c.turn.ensures.polls (sent ++ c.args.pending.now.items) tie

pub returns-in-BadHistory-clause-did : goal.returns-in-BadHistory-clause-did
returns-in-BadHistory-clause-did g c = λ names fits sent s stands.
    let l = c.args.self.now in
    let new = record l { turns = c.turn.new.self } in
    let tie = subst (λ t. TurnIs (turn_of t) (lists_in names l) (polls_in l) (lists_in names new)) c.in-BadHistory.is (c.in_ok-turn.ensures.turned names) in
    poll_refused names l new (sent ++ c.args.pending.now.items) s stands refl refl refl refl c.turn.ensures.polls c.in-BadHistory.section (sent ++ c.args.pending.now.items) tie
