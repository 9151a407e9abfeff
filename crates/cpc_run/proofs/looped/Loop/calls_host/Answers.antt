use Rattle.std.proofs.Common.{◌≡◌, ◌++◌, sym, ap, subst, ◌∙◌, arith}
use Rattle.std.proofs.lemmas.Int.{ints, to_z-of_z}
use mir.Val.{to_z, of_z}
use mir.Syntax.{w64, w128}
use Rattle.cpc_num.specs.declared.kinds.Kind.TheVariants.{Long}
use Rattle.cpc_store.specs.Store.{Whole}
use Rattle.cpc_tree.specs.Trace.{HostCall}
use Rattle.cpc_meaning.specs.Answer.{Gives}
use Rattle.cpc_meaning.specs.Machine.{ints_of, reply}
use Rattle.cpc_meaning.specs.Trees.{trees}
use Rattle.cpc_eval_values.specs.Shown.{values_of}
use Rattle.cpc_run_code.specs.Code.{stack_in}
use Rattle.cpc_run_shown.specs.Shown.{shown_of}
use Rattle.cpc_run.specs.States.{Came, Did, settles, program_in}
use Rattle.cpc_tree.specs.Erase.{in_table}
use Rattle.cpc_run.proofs.Missing.{not_missing}
use Rattle.cpc_run.proofs.Hosted.{call_says, ok_is, said_for}
use Rattle.cpc_base.proofs.Lists.{found_within, none_not_some}
use Rattle.cpc_run.proofs.looped.Loop.calls_host.Goals as goal

pub returns-clause-did : goal.returns-clause-did
returns-clause-did g c = ok_is _ c.reply.result (λ r e.
    let z = c.in-Some-call.answer in
    let (said, which) = said_for r z in (
      said,
      λ names fits spells sent s acted rest left.
          let l = c.args.self.now in
          let new = c.reply.new.self in
          let text = c.in-Some.text.now in
          let zs = c.in_ok-numbers.numbers.items in
          let after = c.put_host.new.pending.items in
          let same : to_z w64 (of_z w64 z) ≡ z = grind (arith, ints, to_z-of_z) in
          let wide : to_z w128 (of_z w128 z) ≡ z = grind (arith, ints, to_z-of_z) in
          let value : to_z w128 (of_z w128 (to_z w64 (of_z w64 z))) ≡ z = ap (λ y. to_z w128 (of_z w128 y)) same ∙ wide in
          let shows : after ≡ c.args.pending.now.items ++ shown_of l.trace (HostCall text zs z) =
          subst (λ y. after ≡ c.args.pending.now.items ++ shown_of l.trace (HostCall text zs y)) same c.in_ok-put_host.ensures in
          call_says g.R.HostRule.answers names l new c.args.request.now.function c.args.name c.args.table.now text (values_of names c.args.request.now.args.items) zs z sent c.args.pending.now.items after r said which
          (subst (λ xs. ints_of (values_of names xs) ≡ Gives zs) c.as_slice.ensures.value (c.in_ok-numbers.ensures names)) spells (sym c.in-Some.ensures.text) (subst (λ ys. g.R.HostRule.answers text ys z) c.as_slice-2.ensures.value c.in-Some-call.ensures.meets) shows s acted
          (λ t a. subst (λ y. Came names r new (sent ++ after) s (settles names l s (reply (trees (program_in names l)) (stack_in names l.machine) (Whole Long y) t))) value
          (subst (λ x. Did names x new (sent ++ after) s (settles names l s (reply (trees (program_in names l)) (stack_in names l.machine) (Whole Long (to_z w128 (of_z w128 (to_z w64 (of_z w64 z))))) t))) e (c.reply.ensures.did names (record { runs = fits.runs; main = fits.main; serves = fits.serves; items = fits.items }) (sent ++ after) s t a)))
          rest left,
    ))

pub unreachable-requires : goal.unreachable-requires
unreachable-requires g c = let there = found_within c.args.table.now c.args.name.0 c.requires.known in none_not_some there.0 (c.in_default.ensures.text ∙ there.1)

pub unreachable-requires-in_default-call : goal.unreachable-requires-in_default-call
unreachable-requires-in_default-call g c =
    let table = c.args.table.now in
    let vs = c.args.request.now.args.items in
    let zs = c.in_ok-numbers.numbers.items in
    let numbers = subst (λ xs. ints_of (values_of (in_table table) xs) ≡ Gives zs) c.as_slice.ensures.value (c.in_ok-numbers.ensures (in_table table)) in
    not_missing _ table c.args.name c.in-Some.text.now vs zs _ (sym c.in-Some.ensures.text) numbers c.as_slice-2.ensures.value c.requires.there (sym c.in_default-call.ensures.there)
