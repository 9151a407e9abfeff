use Rattle.cpc_convert_names.proofs.Growing.{grown_more, spells_before}
use Rattle.cpc_convert_names.proofs.words.LoopWords.of.Goals as goal

pub returns-clause-grown : goal.returns-clause-grown
returns-clause-grown c = grown_more _ _ _ (grown_more _ _ _ c.in_ok-frame.ensures.grown c.in_ok-unbox.ensures.grown) c.in_ok-io.ensures.grown

pub returns-clause-are : goal.returns-clause-are
returns-clause-are c = λ to s.
    let s2 = spells_before _ _ to c.in_ok-io.ensures.grown s in
    let s1 = spells_before _ _ to c.in_ok-unbox.ensures.grown s2 in
    record {
      frame = c.in_ok-frame.ensures.first to s1;
      frame_free = c.in_ok-frame.ensures.second to s1;
      put_in_box = c.in_ok-frame.ensures.third to s1;
      unbox = c.in_ok-unbox.ensures.first to s2;
      ready = c.in_ok-unbox.ensures.second to s2;
      sleep = c.in_ok-unbox.ensures.third to s2;
      io = c.in_ok-io.ensures.first to s;
      wait = c.in_ok-io.ensures.second to s;
      detach = c.in_ok-io.ensures.third to s;
    }
