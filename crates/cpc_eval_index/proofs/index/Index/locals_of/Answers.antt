use Rattle.std.proofs.Common.{◌≡◌, ◌∙◌, get_or, None, Some, ap, refl}
use Rattle.std.proofs.lemmas.Option.{slice_get_past}
use Rattle.cpc_eval_index.specs.Bodies.{function_defined}
use Rattle.cpc_eval_index.specs.Indexed.{program_items}
use Rattle.cpc_eval_index.proofs.Kept.{one_known}
use Rattle.cpc_eval_index.proofs.index.Index.locals_of.Goals as goal

pub locals_in-requires : goal.locals_in-requires
locals_in-requires c =
    one_known c.args.self.now c.args.place c.in-Some.item.now _ c.in-Some.ensures
    (c.table_at.ensures ∙ ap (λ rows. get_or rows c.args.place None) c.deref.ensures.value)

pub returns-in-Some-clause-some : goal.returns-in-Some-clause-some
returns-in-Some-clause-some c = λ item at.
    let same : c.in-Some.item.now ≡ item = (let e : Some c.in-Some.item.now ≡ Some item = c.in-Some.ensures ∙ at in cc) in
    c.locals_in.ensures.owner ∙ ap function_defined same

pub returns-in-None-clause-some : goal.returns-in-None-clause-some
returns-in-None-clause-some c = λ item at. absurd (let e : None ≡ Some item = c.in-None.ensures ∙ at in cc)

pub returns-in-Some-clause-none : goal.returns-in-Some-clause-none
returns-in-Some-clause-none c = λ past. absurd (let e : Some c.in-Some.item.now ≡ None = c.in-Some.ensures ∙ slice_get_past (program_items c.args.self.now) c.args.place past in cc)

pub returns-in-None-clause-none : goal.returns-in-None-clause-none
returns-in-None-clause-none c = λ past. refl
