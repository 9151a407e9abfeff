use Rattle.std.proofs.Common.{◌≡◌, true, [], ◌∷◌, sym, subst}
use Rattle.cpc_history_marks.specs.Views.{told_of}
use Rattle.cpc_meaning.specs.History.{polls_fit}
use Rattle.cpc_live.proofs.Fits.{made_fits}
use Rattle.cpc_live.proofs.live.Live.turn.Goals as goal

pub returns-clause-fits : goal.returns-clause-fits
returns-clause-fits g c = λ h. subst (λ t. polls_fit (t ∷ []) ≡ true) (sym c.in_ok-poll.ensures) (made_fits (told_of c.in_ok-told.told) c.args.accepted.now h)
