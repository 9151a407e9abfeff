use Rattle.std.proofs.Common.{◌≡◌, pos, subst, ◌∙◌, arith}
use Rattle.std.proofs.lemmas.Int.{ints, to_z_pos}
use mir.Val.{to_z}
use mir.Syntax.{w128}
use Rattle.cpc_num.specs.declared.kinds.Kind.TheVariants.{Long}
use Rattle.cpc_store.specs.Store.{Whole}
use Rattle.cpc_meaning.specs.Machine.{reply}
use Rattle.cpc_meaning.specs.Trees.{trees}
use Rattle.cpc_run_code.specs.Code.{stack_in}
use Rattle.cpc_run.specs.States.{Did, settles, program_in}
use Rattle.cpc_run.proofs.looped.Loop.replies_time.Goals as goal

pub returns-clause-did : goal.returns-clause-did
returns-clause-did c = λ names fits printed s acted.
    let l = c.args.self.now in
    let same : to_z w128 c.now-time.result ≡ pos c.now-time.result = grind (arith, ints, to_z_pos) in
    subst (λ n. Did names c.reply.result c.reply.new.self printed s (settles names l s (reply (trees (program_in names l)) (stack_in names l.machine) (Whole Long (pos n)) s)))
    (c.now-time.ensures.value names ∙ acted.lists.agenda.now)
    (subst (λ z. Did names c.reply.result c.reply.new.self printed s (settles names l s (reply (trees (program_in names l)) (stack_in names l.machine) (Whole Long z) s))) same (c.reply.ensures.did names fits printed s s acted))

pub reply-requires-clause-lawful : goal.reply-requires-clause-lawful
reply-requires-clause-lawful c =
    let same : to_z w128 c.now-time.result ≡ pos c.now-time.result = grind (arith, ints, to_z_pos) in
    let bound = c.now-time.ensures.bounded in
    record { low = omega (arith, ints, same, bound); high = omega (arith, ints, same, bound) }
