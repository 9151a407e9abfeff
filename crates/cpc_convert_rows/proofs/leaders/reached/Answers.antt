use Rattle.std.proofs.Common.{◌∙◌, ◌∷◌, [], subst, arith, take}
use Rattle.cpc_forms.specs.Pieces.{first_of}
use Rattle.cpc_forms_code.specs.Splits.{place_of}
use Rattle.cpc_chains_event.specs.Rows.{onwards_all}
use Rattle.cpc_convert_rows.specs.Marks.{AreMarked}
use Rattle.cpc_convert_rows.proofs.Reached.{all_more}
use Rattle.cpc_convert_rows.proofs.leaders.reached.Goals as goal

pub loop-node-init : goal.loop-node-init
loop-node-init c = record {
  long = c.mark.ensures.long ∙ (c.in_ok-marks.ensures.long ∙ (c.len.ensures ∙ c.args.stepped.now.steps.ok.0));
  marks = λ r is. subst (λ n. AreMarked c.mark.new.marks.items (n ∷ [])) (c.first_of.ensures r is.entry) (c.mark.ensures.marks [] c.in_ok-marks.ensures.marks);
}

pub loop-node-preserved : goal.loop-node-preserved
loop-node-preserved c = record {
  long = c.mark_onwards.ensures.long ∙ c.loop-node.invariant.long;
  marks = λ r is.
      subst (λ x. AreMarked c.mark_onwards.new.marks.items (first_of r.split (place_of c.args.owner) ∷ x)) (all_more r c.args.nodes.now c.loop-node.node-index (omega arith))
      (c.mark_onwards.ensures.marks r (first_of r.split (place_of c.args.owner) ∷ onwards_all r (take c.loop-node.node-index c.args.nodes.now)) is (c.loop-node.invariant.marks r is));
}
