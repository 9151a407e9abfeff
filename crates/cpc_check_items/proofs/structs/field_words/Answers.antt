use Rattle.std.proofs.Common.{map, sym, ◌∙◌, arith}
use Rattle.cpc_tree.specs.Locate.{ident}
use Rattle.cpc_check_items.proofs.Notes.{words_more, words_end}
use Rattle.cpc_check_items.proofs.structs.field_words.Goals as goal

pub loop-field-preserved : goal.loop-field-preserved
loop-field-preserved c = λ names.
    words_more names c.loop-field.words.items _ c.args.fields.now c.loop-field.field-index c.field-item.result (omega arith) c.field-item.is c.in_ok-push.ensures.items
    ∙ c.loop-field.invariant names

pub returns : goal.returns
returns c = λ names.
    sym (words_end names (map (ident names) c.loop-field.words.items) c.args.fields.now c.loop-field.field-index (omega arith)) ∙ c.loop-field.invariant names
