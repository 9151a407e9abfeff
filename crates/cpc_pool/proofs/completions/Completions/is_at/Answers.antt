use Rattle.std.proofs.Common.{◌≡◌, ◌<◌, true, false, length, refl, subst, Some, arith}
use Rattle.std.specs.Prelude.{slice_get, IsTrue}
use Rattle.std.proofs.lemmas.Option.{slice_get_read}
use Rattle.cpc_pool.proofs.Taking.{none_behind, at_place, of_place}
use Rattle.cpc_pool.proofs.completions.Completions.is_at.Goals as goal

pub returns-in-Some-clause-same : goal.returns-in-Some-clause-same
returns-in-Some-clause-same g c =
    let same = g.W.Runner.same in
    let items = c.self.inside.list.items in
    let ds = c.args.self.now.0 in
    let at = c.args.at in
    let j = c.args.job.now in
    let d = c.in-Some.done.now in
    let within = c.in-Some.ensures.variant.0 refl in
    let read : slice_get items at ≡ Some d = slice_get_read items (length items) at d (refl {a = length items}) (omega (arith, within)) c.in-Some.ensures.lookup in
    let there : slice_get ds at ≡ Some d = subst (λ v. slice_get v.0 at ≡ Some d) c.self.view_is read in
    ((λ (t : IsTrue c.is_same.result). at_place same ds at d j there (c.is_same.ensures.same.0 t)), (λ i. c.is_same.ensures.same.1 (of_place same ds at d j there i)))

pub returns-in-None-clause-same : goal.returns-in-None-clause-same
returns-in-None-clause-same g c =
    let items = c.self.inside.list.items in
    let at = c.args.at in
    let past : at < length items → ⊥ = λ (h : at < length items). let e : false ≡ true = c.in-None.ensures.variant.1 (omega (arith, h)) in cc in
    let ds = c.args.self.now.0 in
    let none = subst (λ v. at < length v.0 → ⊥) c.self.view_is past in
    ((λ (t : IsTrue false). absurd (let e : false ≡ true = t in cc)), (λ i. absurd (none_behind g.W.Runner.same ds at c.args.job.now none i)))
