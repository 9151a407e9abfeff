use Rattle.std.proofs.Common.{refl, ap}
use Rattle.cpc_meaning.specs.Runs.{frames_registers}
use Rattle.cpc_eval_values.specs.Shown.{values_of}
use Rattle.cpc_run_code.proofs.Coded.{idle_frames}
use Rattle.cpc_run.proofs.Shorts.{starts_short, starts_capped}
use Rattle.cpc_run.proofs.Turns.{called}
use Rattle.cpc_run.proofs.looped.Loop.starts.Goals as goal

pub returns-clause-did : goal.returns-clause-did
returns-clause-did c = λ names fits printed s stands.
    called names c.args.self.now _ printed s stands refl refl refl refl (names c.args.function) (values_of names c.args.arguments.now) (c.in_ok-call.ensures.entered names fits.runs)

pub returns-in-Some-clause-short : goal.returns-in-Some-clause-short
returns-in-Some-clause-short c = λ names fits sent s stands.
    let l = c.args.self.now in
    starts_short names l s (names c.args.function) (values_of names c.args.arguments.now) c.cells_with.result c.args.cap c.in-Some.short stands.store
    (ap frames_registers (idle_frames names l.machine (c.requires.steady.idle c.requires.idle))) c.in-Some.ensures.some (λ g e. c.cells_with.ensures.some names fits.runs g e)

pub returns-clause-capped : goal.returns-clause-capped
returns-clause-capped c = λ names fits sent s stands.
    let l = c.args.self.now in
    starts_capped names l s (names c.args.function) (values_of names c.args.arguments.now) c.cells_with.result c.args.cap c.requires.cap c.in_default.ensures.none stands.store
    (ap frames_registers (idle_frames names l.machine (c.requires.steady.idle c.requires.idle))) (λ g e. c.cells_with.ensures.some names fits.runs g e)
