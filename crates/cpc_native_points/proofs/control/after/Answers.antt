use Rattle.std.proofs.Common.{◌≤◌, ℕ, ap, subst, arith}
use Rattle.cpc_tree.specs.Erase.{stmt_of}
use Rattle.cpc_tree.specs.Points as P
use Rattle.cpc_native_points.specs.Depth.{deep, depth, numbers}
use Rattle.cpc_native_points.specs.Leads.{HasRoom}
use Rattle.cpc_native_points.specs.Seen.{path_of}
use Rattle.cpc_native_points.proofs.Fitting.{led_fits}
use Rattle.cpc_native_points.proofs.Within.{after_fits, fits_more}
use Rattle.cpc_native_points.proofs.control.after.Goals as goal

pub go-requires : goal.go-requires
go-requires c =
    let room = c.requires.room in
    let path = c.args.point.now.path in
    let parts = c.deref.result.now in
    let body = c.body.result.now in
    let move = P.after (stmt_of numbers body) (path_of parts) c.args.holds in
    let same = ap deep c.body.ensures in
    let low : depth (stmt_of numbers body) ≤ path.cap = omega (arith, room, same) in
    let short = fits_more (depth (stmt_of numbers body)) path.cap move low (after_fits (stmt_of numbers body) (path_of parts) c.args.holds) in
    let H : ℕ → Type 0 = λ n. HasRoom path.cap n c.step-m.result in
    record { room = room; fits = subst H c.deref.ensures.len (led_fits path.cap parts c.step-m.result move (c.step-m.ensures numbers) short) }
