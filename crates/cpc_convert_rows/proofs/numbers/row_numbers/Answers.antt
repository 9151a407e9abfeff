use Rattle.std.proofs.Common.{◌≡◌, ◌∙◌, sym, ap, subst, arith, length}
use Rattle.std.proofs.lemmas.Result.{IfOk-weaker}
use Rattle.cpc_chains_event.specs.Rows.{stubs_of}
use Rattle.cpc_convert_rows.specs.Marks.{AreMarked}
use Rattle.cpc_convert_rows.specs.Numbers.{AreLeaders}
use Rattle.cpc_convert_rows.proofs.Placing.{one_more, leaders_below, all_placed}
use Rattle.cpc_convert_rows.proofs.numbers.row_numbers.Goals as goal

pub loop-node-preserved : goal.loop-node-preserved
loop-node-preserved c = record {
  long = c.in_ok-add_node.ensures.long ∙ c.loop-node.invariant.long;
  marks = c.in_ok-add_node.ensures.marks c.loop-node.invariant.marks;
  all = λ p r o is nodes leaders.
      let h = c.deref.ensures.value in
      let many : length c.deref.result.now ≡ length c.args.stepped.now.steps.items = ap (λ m. length m) h ∙ (c.in_ok-flags.ensures.long ∙ (c.len-count.ensures ∙ c.args.stepped.now.steps.ok.0)) in
      one_more p r o c.args.nodes.now c.loop-node.placed.all.items c.add_node.new.self.all.items _ c.loop-node.node-index (omega arith) nodes
      (c.in_ok-add_node.ensures.all r (stubs_of r o) is (subst (λ m. AreMarked m (stubs_of r o)) (sym h) (subst (AreMarked c.in_ok-flags.flags.items) leaders c.in_ok-flags.ensures.marks))
      (c.loop-node.invariant.long ∙ sym many) (subst (λ n. AreLeaders n (stubs_of r o)) (sym many) (leaders_below r o c.args.stepped.now is)) c.loop-node.invariant.marks)
      (c.loop-node.invariant.all p r o is nodes leaders);
}

pub returns : goal.returns
returns c = IfOk-weaker c.completed.result _ _ (λ all h p r l is nodes leaders.
    all_placed p r l c.args.nodes.now c.args.leaders.now c.loop-node.placed.all.items all.items c.loop-node.node-index (omega arith) nodes leaders (c.loop-node.invariant.all p r l is nodes leaders)
    (h c.loop-node.invariant.marks (subst (λ s. AreLeaders (length c.loop-node.placed.marks.items) s) (sym leaders) (subst (λ n. AreLeaders n (stubs_of r l)) (sym c.loop-node.invariant.long) (leaders_below r l c.args.stepped.now is))))) c.completed.ensures
