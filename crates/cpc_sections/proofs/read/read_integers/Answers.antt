use Rattle.std.proofs.Common.{◌<◌, ◌≤◌, length, get_or, arith, sym, ap, subst, ◌∙◌}
use Rattle.std.specs.List.{All}
use Rattle.std.proofs.lemmas.List.Elements.{All-push}
use Rattle.std.proofs.lemmas.Option.{slice_get-get_or}
use Rattle.cpc_store.specs.Store.{Unset, cells_of}
use Rattle.cpc_store.specs.Seen.{seen, IsLawful}
use Rattle.cpc_sections.specs.Reads.{cell_at}
use Rattle.cpc_sections.proofs.Reading.{sized, no_integer, read_next, read_all}
use Rattle.cpc_sections.proofs.read.read_integers.Goals as goal

pub returns-in-None-clause-value : goal.returns-in-None-clause-value
returns-in-None-clause-value c = λ cells e.
    let k = c.loop-k.k in
    let many = sized (cells_of c.args.block.class c.args.block.number c.args.store.now) cells c.in-Some.size e c.in-Some.ensures in
    let lt : k < length cells = omega (arith, many, c.loop-k-test.true) in
    no_integer cells k Unset lt (c.in-None.ensures.value (get_or cells k Unset) (ap (λ o. cell_at o k) e ∙ slice_get-get_or cells k Unset lt))

pub loop-k-preserved : goal.loop-k-preserved
loop-k-preserved c = record {
  lawful = subst (All (λ v. IsLawful (seen v))) (sym c.in_ok-push-in-Some-read_one.ensures.items) (All-push (λ v. IsLawful (seen v)) c.loop-k.cells.items c.in-Some-read_one.value c.loop-k.invariant.lawful c.in-Some-read_one.ensures.lawful);
  read = λ cells e.
      let k = c.loop-k.k in
      let many = sized (cells_of c.args.block.class c.args.block.number c.args.store.now) cells c.in-Some.size e c.in-Some.ensures in
      let lt : k < length cells = omega (arith, many, c.loop-k-test.true) in
      let was = c.loop-k.invariant.read cells e in
      let one = c.in-Some-read_one.ensures.value (get_or cells k Unset) (ap (λ o. cell_at o k) e ∙ slice_get-get_or cells k Unset lt) in
      read_next c.loop-k.cells.items c.push.new.self.items c.in-Some-read_one.value cells k lt c.in_ok-push-in-Some-read_one.ensures.items was.0 was.1 one.0 one.1;
}

pub returns-clause-value : goal.returns-clause-value
returns-clause-value c = λ cells e.
    let k = c.loop-k.k in
    let many = sized (cells_of c.args.block.class c.args.block.number c.args.store.now) cells c.in-Some.size e c.in-Some.ensures in
    let le : length cells ≤ k = omega (arith, many, c.loop-k-test.false) in
    let was = c.loop-k.invariant.read cells e in
    read_all c.loop-k.cells.items cells k le was.0 was.1
