use Rattle.std.proofs.Common.{refl, sym, ◌∙◌}
use Rattle.cpc_eval_values.specs.Shown.{value_of}
use Rattle.cpc_run.proofs.Asks.{freed_answered}
use Rattle.cpc_run.proofs.looped.Loop.frees_block.Goals as goal

pub returns-in-Ok-clause-did : goal.returns-in-Ok-clause-did
returns-in-Ok-clause-did c = λ names fits printed s acted.
    freed_answered names c.reply.result c.args.self.now _ c.reply.new.self c.args.function printed s c.args.class (value_of names c.args.what)
    (c.in-Ok.ensures.value names) (c.in-Ok.ensures.items names) (c.in-Ok.ensures.stack names) refl refl refl acted
    (λ t a. c.reply.ensures.did names (record { runs = c.in-Ok.ensures.runs names fits.runs; main = fits.main; serves = fits.serves; items = fits.items ∙ sym (c.in-Ok.ensures.items names) }) printed s t a)
