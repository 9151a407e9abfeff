use Rattle.std.proofs.Common.{sym}
use Rattle.cpc_native_acts.proofs.Fitting.{lengths_differ}
use Rattle.cpc_native_acts.proofs.fits.are_taken.Goals as goal

pub returns-then-takes-values : goal.returns-then-takes-values
returns-then-takes-values c = sym (lengths_differ c.args.takes.now c.args.values.now c.if-takes-values.true)
