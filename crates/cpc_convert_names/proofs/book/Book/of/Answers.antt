use Rattle.cpc_convert_common.specs.Converted.{spawner_name}
use Rattle.cpc_convert_names.proofs.Growing.{grown_more, spells_before}
use Rattle.cpc_convert_names.proofs.book.Book.of.Goals as goal

pub returns-clause-grown : goal.returns-clause-grown
returns-clause-grown c = grown_more _ _ _ (grown_more _ _ _ (grown_more _ _ _ (grown_more _ _ _ c.in_ok-own.ensures.grown c.in_ok-of_loop.ensures.grown) c.in_ok-spawners.ensures.grown) c.in_ok-of_none.ensures.grown) c.in_ok-functions.ensures.grown

pub returns-clause-is : goal.returns-clause-is
unfolding spawner_name
returns-clause-is c = λ to g s named.
    let s4 = spells_before _ _ to c.in_ok-functions.ensures.grown s in
    let s3 = spells_before _ _ to c.in_ok-of_none.ensures.grown s4 in
    let s2 = spells_before _ _ to c.in_ok-spawners.ensures.grown s3 in
    let s1 = spells_before _ _ to c.in_ok-of_loop.ensures.grown s2 in
    let g1 = grown_more _ _ _ g c.in_ok-own.ensures.grown in
    let g2 = grown_more _ _ _ g1 c.in_ok-of_loop.ensures.grown in
    let g3 = grown_more _ _ _ g2 c.in_ok-spawners.ensures.grown in
    let g4 = grown_more _ _ _ g3 c.in_ok-of_none.ensures.grown in
    record {
      own = c.in_ok-own.ensures.are to s1;
      of_loop = c.in_ok-of_loop.ensures.are to s2;
      spawners = c.in_ok-spawners.ensures.are to g2 s3;
      of_none = c.in_ok-of_none.ensures.is to s4;
      functions = c.in_ok-functions.ensures.are _ to g4 s named;
    }
