use Rattle.cpc_convert_common.proofs.Marks.{marked_has, marked_differs}
use Rattle.cpc_convert_common.proofs.made_names_are_apart.Goals as goal

pub returns : goal.returns
returns c = λ f rest x h. (marked_has f rest, marked_differs f rest x h)
