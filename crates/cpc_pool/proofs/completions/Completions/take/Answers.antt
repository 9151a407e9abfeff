use Rattle.std.proofs.Common.{◌≡◌, ◌++◌, refl, subst, Some, length, take, drop, suc, arith}
use Rattle.std.specs.Prelude.{slice_get}
use Rattle.std.proofs.lemmas.Option.{slice_get_read}
use Rattle.cpc_pool.proofs.Taking.{of_place}
use Rattle.cpc_pool.proofs.completions.Completions.take.Goals as goal

pub returns-clause-taken : goal.returns-clause-taken
returns-clause-taken g c =
    let same = g.W.Runner.same in
    let items = c.self.inside.list.items in
    let ds = c.args.self.now.0 in
    let at = c.in_ok-at.at in
    let d = c.in_ok-done.done in
    let within = c.in_ok-done.ensures.variant.0 refl in
    let read : slice_get items at ≡ Some d = slice_get_read items (length items) at d (refl {a = length items}) (omega (arith, within)) c.in_ok-done.ensures.value in
    let there : slice_get ds at ≡ Some d = subst (λ v. slice_get v.0 at ≡ Some d) c.self.view_is read in (
      at,
      d,
      c.in_ok-at.ensures.first.0,
      there,
      of_place same ds at d c.args.job.now there c.in_ok-at.ensures.first.1,
      refl {a = d.end},
      subst (λ v. c.remove.new.self.items ≡ take at v.0 ++ drop (suc at) v.0) c.self.view_is c.in_ok-done.ensures.items,
    )
