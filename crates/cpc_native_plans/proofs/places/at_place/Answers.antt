use Rattle.std.proofs.Common.{Ok, sym, refl}
use Rattle.cpc_store.specs.declared.values.Value as V
use Rattle.cpc_meaning.specs.Answer.{Gives, ◌>>=◌}
use Rattle.cpc_meaning.specs.Eval as E
use Rattle.cpc_eval_values.specs.Shown.{value_of}
use Rattle.cpc_eval_values.proofs.Meeting.{meets_then, meets_through}
use Rattle.cpc_eval.specs.Shapes.{types_of}
use Rattle.cpc_eval.specs.Spots.{spot_of}
use Rattle.cpc_eval.specs.Values.{assigned_at}
use Rattle.cpc_eval.specs.declared.places.Spot.{Spot}
use Rattle.cpc_eval.proofs.EvalParts.{assigned_as}
use Rattle.cpc_native_plans.proofs.Stopping.{meets_by}
use Rattle.cpc_native_plans.proofs.Doing.{aimed_by}
use Rattle.cpc_native_plans.proofs.places.at_place.Goals as goal

pub returns-in_err-written-clause-value : goal.returns-in_err-written-clause-value
returns-in_err-written-clause-value c = λ names k e there typed.
    let v = value_of names c.args.given in
    meets_by _ _ _ (sym (aimed_by k e v))
    (meets_then (spot_of c.args.there.spot) (E.place k e) _ _ there
    (meets_through (λ (q : Spot × V.Value). (spot_of q.0, value_of names q.1)) c.from_residual.result _ (assigned_at k e v) _ c.from_residual.ensures.1
    (assigned_as k e (types_of names c.args.there.typed) _ v _ typed (c.place_of.ensures names) (c.in_err-written.ensures.value names))))

pub returns-clause-value : goal.returns-clause-value
returns-clause-value c = λ names k e there typed.
    let v = value_of names c.args.given in
    let spot = spot_of c.args.there.spot in
    let w = value_of names c.in_ok-written.written in
    meets_by (Ok (spot, w)) _ _ (sym (aimed_by k e v))
    (meets_then spot (E.place k e) (λ s. assigned_at k e v >>= (λ x. Gives (s, x))) (Ok (spot, w)) there
    (meets_then w (assigned_at k e v) (λ x. Gives (spot, x)) (Ok (spot, w))
    (assigned_as k e (types_of names c.args.there.typed) _ v (Ok w) typed (c.place_of.ensures names) (c.in_ok-written.ensures.value names)) refl))
