use Rattle.std.proofs.Common.{◌++◌, ◌≤◌, refl, subst}
use Rattle.cpc_run.specs.States.{CameTo}
use Rattle.cpc_run.specs.Shorts.{Counts, IsBeyond}
use Rattle.cpc_run.proofs.Shorts.{err_is, turn_counts}
use Rattle.cpc_run.proofs.Turns.{turn_step, stands_as_before}
use Rattle.cpc_run.proofs.Steps.{taken, taken_counts}
use Rattle.cpc_run.proofs.looped.Loop.schedules.Goals as goal

pub returns-in_ok-take-in-Some-clause-did : goal.returns-in_ok-take-in-Some-clause-did
returns-in_ok-take-in-Some-clause-did g c = λ names fits sent s within stands.
    taken names c.args.self.now _ (sent ++ c.args.pending.now.items) s c.in-Some.item c.in-Some.waited
    c.take.new.self (sent ++ c.args.pending.now.items) stands c.requires.idle refl c.requires.idle refl refl refl (c.in-Some.ensures.next names)
    (λ t h. c.in_ok-take-in-Some.ensures.did names (record { runs = fits.runs; main = fits.main; serves = fits.serves; items = fits.items }) (sent ++ c.args.pending.now.items) t h)

pub returns-in_err-take-in-Some-clause-short : goal.returns-in_err-take-in-Some-clause-short
returns-in_err-take-in-Some-clause-short g c =
    let short = c.in_err-take-in-Some.field-0.0 in
    err_is _ c.from_residual.result short c.from_residual.ensures.1 (λ names fits sent s within stands.
    taken_counts names c.args.self.now _ sent s c.in-Some.item c.in-Some.waited (IsBeyond c.args.cap short) stands c.requires.idle refl c.requires.idle refl refl refl (c.in-Some.ensures.next names)
    (λ t on live. c.in_err-take-in-Some.ensures.short names (record { runs = fits.runs; main = fits.main; serves = fits.serves; items = fits.items }) sent t on))

pub returns-in_ok-take-in-Some-clause-capped : goal.returns-in_ok-take-in-Some-clause-capped
returns-in_ok-take-in-Some-clause-capped g c = λ names fits sent s within stands.
    taken_counts names c.args.self.now _ sent s c.in-Some.item c.in-Some.waited (λ n. n ≤ c.args.cap) stands c.requires.idle refl c.requires.idle refl refl refl (c.in-Some.ensures.next names)
    (λ t on live. c.in_ok-take-in-Some.ensures.capped names (record { runs = fits.runs; main = fits.main; serves = fits.serves; items = fits.items }) sent t on)

pub returns-in_ok-turn-in-None-clause-capped : goal.returns-in_ok-turn-in-None-clause-capped
returns-in_ok-turn-in-None-clause-capped g c = λ names fits sent s within stands.
    let l = c.args.self.now in
    subst (Counts (λ n. n ≤ c.args.cap)) (turn_step names l sent s stands c.requires.idle (c.in-None.ensures.none names).0) (turn_counts names l s c.args.cap within)

pub returns-in_ok-turn-in-None-clause-did : goal.returns-in_ok-turn-in-None-clause-did
returns-in_ok-turn-in-None-clause-did g c = λ names fits sent s within stands.
    let l = c.args.self.now in
    let printed = sent ++ c.args.pending.now.items in
    let none = c.in-None.ensures.none names in
    subst (CameTo names c.in_ok-turn-in-None.field-0 c.turn.new.self (sent ++ c.turn.new.pending.items) s) (turn_step names l printed s stands c.requires.idle none.0)
    (c.in_ok-turn-in-None.ensures.did names (record { runs = fits.runs; main = fits.main; serves = fits.serves; items = fits.items }) sent s (stands_as_before names l _ printed s refl refl refl refl refl none.1 stands))
