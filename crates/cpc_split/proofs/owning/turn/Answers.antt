use Rattle.std.proofs.Common.{◌∙◌, ap, sym, subst, refl, ◌<◌, length, Some}
use Rattle.std.proofs.lemmas.Option.{slice_get_read, get_or_from_slice_get}
use Rattle.cpc_forms.specs.Spread.{IsSpread, left_to_do}
use Rattle.cpc_split.specs.Steps.{flow_by}
use Rattle.cpc_split.specs.Seen.{spread_of}
use Rattle.cpc_split.proofs.Turns.{last_owned, last_within, as_long, handed_on}
use Rattle.cpc_split.proofs.owning.turn.Goals.{In_ok-visit_step-in-Some}
use Rattle.cpc_split.proofs.owning.turn.Goals as goal

-- src/owning.rt:26:34
pub index-requires : goal.index-requires
index-requires c =
    subst (λ k. c.in-Some.node < k) (sym c.args.marks.now.owners.ok.0)
    (last_within c.args.entry c.args.steps.now c.requires.inside c.args.marks.now.owners.items _ _ c.in-Some.node c.requires.spread c.in-Some.ensures.items)

-- src/owning.rt:27:21
pub step_at-step-requires-clause-within : goal.step_at-step-requires-clause-within
step_at-step-requires-clause-within c =
    subst (λ k. c.in-Some.node < k)
    (as_long c.args.entry c.args.steps.now c.requires.inside c.args.marks.now.owners.items _ _ c.in-Some.node c.requires.spread c.in-Some.ensures.items)
    (last_within c.args.entry c.args.steps.now c.requires.inside c.args.marks.now.owners.items _ _ c.in-Some.node c.requires.spread c.in-Some.ensures.items)

-- a turn hands the owner on
handed : (c : In_ok-visit_step-in-Some) → IsSpread (flow_by c.args.entry c.args.steps.now) (spread_of c.visit_step.new.self) × (left_to_do (spread_of c.visit_step.new.self) < left_to_do (spread_of c.args.marks.now))
handed c =
    let os = c.args.marks.now.owners.items in
    let less = last_within c.args.entry c.args.steps.now c.requires.inside os _ _ c.in-Some.node c.requires.spread c.in-Some.ensures.items in
    let at = slice_get_read os (length os) c.in-Some.node c.index.result.now refl less c.index.ensures ∙ ap Some c.in-Some-index.is in
    handed_on c.args.entry c.args.steps.now c.requires.inside os _ _ c.in-Some.node c.requires.spread c.in-Some.ensures.items c.in-Some-index.owner at c.step_at-step.result c.step_at-step.ensures.value (spread_of c.visit_step.new.self) c.in_ok-visit_step-in-Some.ensures.spread

-- src/owning.rt:17:1
pub returns-in_ok-visit_step-in-Some-clause-spread : goal.returns-in_ok-visit_step-in-Some-clause-spread
returns-in_ok-visit_step-in-Some-clause-spread c = (handed c).0

-- src/owning.rt:17:1
pub returns-in_ok-visit_step-in-Some-clause-less : goal.returns-in_ok-visit_step-in-Some-clause-less
returns-in_ok-visit_step-in-Some-clause-less c = λ e. (handed c).1

-- src/owning.rt:17:1
pub returns-in_default-clause-spread : goal.returns-in_default-clause-spread
returns-in_default-clause-spread c =
    let os = c.args.marks.now.owners.items in
    let o = last_owned c.args.entry c.args.steps.now c.requires.inside os _ _ c.in-Some.node c.requires.spread c.in-Some.ensures.items in
    absurd (c.in_default.not-Some o.owner (c.index.ensures ∙ get_or_from_slice_get os c.in-Some.node (Some o.owner) c.index.result.now o.at))
