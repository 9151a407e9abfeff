use Rattle.std.proofs.Common.{suc, ◌∷◌}
use Rattle.cpc_tree.specs.Erase.{stmt_of, list_of}
use Rattle.cpc_tree.specs.Points as P
use Rattle.cpc_tree.proofs.Nodes.{block_seen, for_seen, if_seen}
use Rattle.cpc_native_points.specs.Parts as S
use Rattle.cpc_native_points.specs.Leads.{Leads}
use Rattle.cpc_native_points.specs.Seen.{part_of}
use Rattle.cpc_native_points.proofs.Nodes.{while_seen, do_seen, label_seen}
use Rattle.cpc_native_points.proofs.Moving.{under_leads}
use Rattle.cpc_native_points.proofs.moves.out_of.Goals as goal

pub returns-in-Nth : goal.returns-in-Nth
returns-in-Nth c = λ names rest m e h.
    let v = c.deref.ensures.value in
    let n = c.in-Nth.n in
    let next : Leads names (P.Nth n ∷ rest) c.enter_next.result (S.enter_part (P.Nth (suc n)) (S.nth (list_of names c.in-Block.row.items) (suc n))) = rw v at (c.enter_next.ensures names (P.Nth n ∷ rest) e) in
    rw (block_seen names c.args.s.now _ _ c.in-Block.is, c.in-Nth.is)
    (c.or_out.ensures names (P.Nth n ∷ rest) (P.under (P.Nth n) m) _ (under_leads names rest (P.Nth n) c.args.inner m h) next)

pub returns-in-If : goal.returns-in-If
returns-in-If c = λ names rest m e h. rw (if_seen names c.args.s.now _ _ _ _ c.in-If.is) (under_leads names rest (part_of c.args.part) c.args.inner m h)

pub returns-in-Label : goal.returns-in-Label
returns-in-Label c = λ names rest m e h. rw (label_seen names c.args.s.now _ _ c.in-Label.is) (under_leads names rest (part_of c.args.part) c.args.inner m h)

pub returns-in-While : goal.returns-in-While
returns-in-While c = λ names rest m e h.
    let path = part_of c.args.part ∷ rest in
    rw (while_seen names c.args.s.now _ _ _ c.in-While.is)
    (c.loop_out.ensures names (part_of c.args.part ∷ rest) _ _ (under_leads names rest (part_of c.args.part) c.args.inner m h) (c.into-test.ensures names (part_of c.args.part ∷ rest) e))

pub returns-in-DoWhile : goal.returns-in-DoWhile
returns-in-DoWhile c = λ names rest m e h.
    rw (do_seen names c.args.s.now _ _ _ c.in-DoWhile.is)
    (c.loop_out-in-DoWhile.ensures names (part_of c.args.part ∷ rest) _ _ (under_leads names rest (part_of c.args.part) c.args.inner m h) (c.into-test.ensures names (part_of c.args.part ∷ rest) e))

pub returns-in-Nth-part : goal.returns-in-Nth-part
returns-in-Nth-part c = λ names rest m e h.
    let v = c.deref-in-Nth-part.ensures.value in
    let n = c.in-Nth-part.n in
    let next : Leads names (P.Nth n ∷ rest) c.enter_next-in-Nth-part.result (S.enter_part (P.Nth (suc n)) (S.nth (list_of names c.in-For.first.items) (suc n))) = rw v at (c.enter_next-in-Nth-part.ensures names (P.Nth n ∷ rest) e) in
    let row = c.or_out-in-Nth-part.ensures names (P.Nth n ∷ rest) (P.under (P.Nth n) m) _ (under_leads names rest (P.Nth n) c.args.inner m h) next in
    rw (for_seen names c.args.s.now _ _ _ _ _ c.in-For.is, c.in-Nth-part.is)
    (c.or_out-in-Nth-part-2.ensures names (P.Nth n ∷ rest) _ _ row (c.into-test.ensures names (P.Nth n ∷ rest) e))

pub returns-in-Step : goal.returns-in-Step
returns-in-Step c = λ names rest m e h.
    rw (for_seen names c.args.s.now _ _ _ _ _ c.in-For.is, c.in-Step.is)
    (c.or_out-in-Step.ensures names (P.TheStep ∷ rest) (P.under P.TheStep m) _ (under_leads names rest P.TheStep c.args.inner m h) (c.into-test.ensures names (P.TheStep ∷ rest) e))

pub returns-in-Some : goal.returns-in-Some
returns-in-Some c = λ names rest m e h.
    let v = c.deref-in-Some.ensures in
    let next : Leads names (P.TheBody ∷ rest) c.into.result (P.Into (P.TheStep ∷ P.enter (stmt_of names c.in-Some.step.value))) = rw v at (c.into.ensures names (P.TheBody ∷ rest) e) in
    rw (for_seen names c.args.s.now _ _ _ _ _ c.in-For.is, c.in-Body.is, c.in-Some.is)
    (c.loop_out-in-Some.ensures names (P.TheBody ∷ rest) (P.under P.TheBody m) _ (under_leads names rest P.TheBody c.args.inner m h) next)

pub returns-in-None : goal.returns-in-None
returns-in-None c = λ names rest m e h.
    rw (for_seen names c.args.s.now _ _ _ _ _ c.in-For.is, c.in-Body.is, c.in-None.is)
    (c.loop_out-in-None.ensures names (P.TheBody ∷ rest) (P.under P.TheBody m) _ (under_leads names rest P.TheBody c.args.inner m h) (c.into-test.ensures names (P.TheBody ∷ rest) e))
