use Rattle.std.proofs.Common.{ap, ◌∙◌}
use Rattle.cpc_tree.specs.Erase.{list_of}
use Rattle.cpc_tree.proofs.Nodes.{block_seen, for_seen}
use Rattle.cpc_native_points.specs.Parts as S
use Rattle.cpc_native_points.proofs.moves.child.Goals as goal

pub returns-in-Nth : goal.returns-in-Nth
returns-in-Nth c = λ names.
    let n = c.nth.ensures names in
    let v = c.deref.ensures.value in
    rw (block_seen names c.args.s.now _ _ c.in-Block.is, c.in-Nth.is) (n ∙ ap (λ xs. S.nth (list_of names xs) c.in-Nth.n) v)

pub returns-in-Nth-part : goal.returns-in-Nth-part
returns-in-Nth-part c = λ names.
    let n = c.nth-in-Nth-part.ensures names in
    let v = c.deref-in-Nth-part.ensures.value in
    rw (for_seen names c.args.s.now _ _ _ _ _ c.in-For.is, c.in-Nth-part.is) (n ∙ ap (λ xs. S.nth (list_of names xs) c.in-Nth-part.n) v)
