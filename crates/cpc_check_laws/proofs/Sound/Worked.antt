-- The examples are accepted and well typed; programs that are not accepted can be stuck.
use Rattle.std.proofs.Common.{refl}
use Rattle.cpc_base.specs.declared.stop.Dialect.TheVariants as D
use Rattle.cpc_check_laws.specs.Sound.Examples.{example, event_example, ExamplesAreAccepted, UnacceptedAreStuck}
use Rattle.cpc_check_laws.proofs.Sound.Programs.{program_typed}

pub examples_are_accepted : ExamplesAreAccepted
examples_are_accepted = (
  record {
    breaks = refl;
    typed = program_typed D.Cpc example
        (tt, (tt, (tt, ((refl, refl, (tt, (tt, tt))), ((refl, refl, (tt, tt)), ((refl, refl, (tt, (tt, (tt, (tt, ((tt, ((tt, tt), (tt, tt))), (tt, tt))))))), ((refl, refl, (tt, (tt, (tt, (tt, (tt, (tt, (tt, tt)))))))), tt)))))))
        refl;
  },
  record {
    breaks = refl;
    typed = program_typed D.Event event_example
        (tt, (tt, ((refl, refl, (tt, (tt, tt))), ((refl, refl, (tt, (tt, tt))), ((refl, refl, (tt, (tt, (tt, (tt, (tt, (tt, tt))))))), tt)))))
        refl;
  },
)

pub unaccepted_are_stuck : UnacceptedAreStuck
unaccepted_are_stuck = (
  record { breaks = refl; stuck = (refl, refl) },
  record { breaks = refl; stuck = (refl, refl) },
  record { breaks = refl; stuck = (refl, refl) },
  record { breaks = refl; stuck = (refl, refl) },
  record { breaks = refl; stuck = (refl, refl) },
  record { breaks = refl; stuck = (refl, refl) },
  record { breaks = refl; stuck = (refl, refl) },
  record { breaks = refl; stuck = (refl, refl) },
  record { breaks = refl; stuck = (refl, refl) },
  record { breaks = refl; stuck = (refl, refl) },
  record { breaks = refl; stuck = (refl, refl) },
  record { breaks = refl; stuck = (refl, refl) },
  record { breaks = refl; stuck = (refl, refl) },
  record { breaks = refl; stuck = (refl, refl) },
  record { breaks = refl; stuck = (refl, refl) },
)
