use Rattle.cpc_convert_names.proofs.Rows.{spawner_at}
use Rattle.cpc_convert_names.proofs.book.Book.spawner.Goals as goal

pub returns-in-Some : goal.returns-in-Some
returns-in-Some c = λ source to book e.
    spawner_at source to _ _ c.args.of.0 _ _ book.spawners c.deref.ensures.value c.in-Some.ensures.lookup.0 c.in-Some.ensures.lookup.1 e
