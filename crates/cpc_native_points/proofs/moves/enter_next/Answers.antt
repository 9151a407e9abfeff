use Rattle.std.proofs.Common.{suc, ◌+◌, refl, subst, add-one, arith}
use Rattle.cpc_tree.specs.Erase.{list_of}
use Rattle.cpc_tree.specs.Points as P
use Rattle.cpc_native_points.specs.Parts as S
use Rattle.cpc_native_points.specs.Leads.{Leads}
use Rattle.cpc_native_points.proofs.Nodes.{nth_past}
use Rattle.cpc_native_points.proofs.moves.enter_next.Goals as goal

pub returns-then-n-row : goal.returns-then-n-row
returns-then-n-row c = λ names path e.
    let h : Leads names path c.enter_part.result (S.enter_part (P.Nth (c.args.n + 1)) (S.nth (list_of names c.args.row.now) (c.args.n + 1))) = rw (c.nth.ensures names) at (c.enter_part.ensures names path e) in
    subst (λ k. Leads names path c.enter_part.result (S.enter_part (P.Nth k) (S.nth (list_of names c.args.row.now) k))) (add-one c.args.n) h

pub returns-else-n-row : goal.returns-else-n-row
returns-else-n-row c = λ names path e. rw (nth_past names c.args.row.now (suc c.args.n) (omega arith)) refl
