use Rattle.std.proofs.Common.{◌+◌, not, ap, ◌∙◌, arith}
use Rattle.cpc_base.proofs.Truth.{not_of_not}
use Rattle.cpc_tree.specs.declared.program.Word.{Word}
use Rattle.cpc_check_rules.specs.Noted.{noted, first_of}
use Rattle.cpc_check_rules.specs.FunctionRules.{repeated}
use Rattle.cpc_check_names.proofs.Held.{held_more, told_more, so_far, left}
use Rattle.cpc_check_names.proofs.labels.note_repeated.Goals as goal

pub loop-word-preserved : goal.loop-word-preserved
loop-word-preserved c = λ names apart.
    let i = c.loop-word.invariant names apart in
    let w = c.in_ok-is_new.ensures in
    let words = c.args.words.now in
    let index = c.loop-word.word-index in
    let d : Word = record { place = record { line = 0; column = 0 }; name = record { 0 = 0 } } in (
      held_more names apart _ _ words index d (omega arith) w.updates.0 i.0,
      ap (λ f. noted f (repeated c.args.rule (so_far names words (index + 1)) (left names words (index + 1)))) c.note_if.ensures
          ∙ (told_more names c.args.rule (first_of c.loop-word.first) (not c.in_ok-is_new.is_new) words index d (omega arith) (ap not w.added ∙ (not_of_not _ ∙ i.0 _)) ∙ i.1),
    )
