use Rattle.cpc_convert_names.proofs.Growing.{grown_more, spells_before}
use Rattle.cpc_convert_names.proofs.words.OwnWords.of.Goals as goal

pub returns-clause-grown : goal.returns-clause-grown
returns-clause-grown c =
    grown_more _ _ _ (grown_more _ _ _ (grown_more _ _ _ c.in_ok-pointer.ensures.grown c.in_ok-value.ensures.grown) c.in_ok-returned.ensures.grown) c.in_ok-drive.ensures.grown

pub returns-clause-are : goal.returns-clause-are
returns-clause-are c = λ to s.
    let s3 = spells_before _ _ to c.in_ok-drive.ensures.grown s in
    let s2 = spells_before _ _ to c.in_ok-returned.ensures.grown s3 in
    let s1 = spells_before _ _ to c.in_ok-value.ensures.grown s2 in
    record {
      pointer = c.in_ok-pointer.ensures.first to s1;
      frame = c.in_ok-pointer.ensures.second to s1;
      next = c.in_ok-pointer.ensures.third to s1;
      value = c.in_ok-value.ensures.first to s2;
      given = c.in_ok-value.ensures.second to s2;
      under = c.in_ok-value.ensures.third to s2;
      returned = c.in_ok-returned.ensures.first to s3;
      code = c.in_ok-returned.ensures.second to s3;
      any_frame = c.in_ok-returned.ensures.third to s3;
      drive = c.in_ok-drive.ensures.first to s;
      taken = c.in_ok-drive.ensures.second to s;
      answer = c.in_ok-drive.ensures.third to s;
    }
