use Rattle.std.proofs.Common.{◌∙◌, ◌<◌, ◌-◌, ◌++◌, ℕ, length, sym, ap, subst, arith}
use Rattle.cpc_base.proofs.Lists.{appended_empty}
use Rattle.cpc_native_points.specs.Tabled.{IsWay, HasWay}
use Rattle.cpc_native_points.proofs.Ways.{way_there, way_up, climbed, within, above_all, above_has, above_less, above_room}
use Rattle.cpc_native_points.proofs.table.+climb.Goals as goal

pub node_at-node-requires : goal.node_at-node-requires
node_at-node-requires t c = within c.args.nodes.now c.args.at c.in-Some.number _ c.in-Some.is c.requires

pub climb-requires : goal.climb-requires
climb-requires t c =
    let n = c.node_at-node.result in
    let P : ℕ → Type 0 = λ m. above_all n.above < m in
    (subst P c.decreases (above_less c.args.nodes.now c.args.at c.in-Some.number _ n c.in-Some.is c.node_at-node.ensures c.requires), above_has c.args.nodes.now c.args.at c.in-Some.number _ n c.in-Some.is c.node_at-node.ensures c.requires)

pub push_reserved-requires : goal.push_reserved-requires
push_reserved-requires t c =
    let old = c.args.path.now in
    let mid = c.climb.new.path in
    let H : ℕ → Type 0 = λ n. ∥ HasWay c.args.nodes.now c.args.at (old.cap - n) ∥₁ in
    let room : length mid.items < old.cap = above_room c.args.nodes.now c.args.at c.in-Some.number old.cap c.node_at-node.result old.items mid.items c.in-Some.is c.node_at-node.ensures (subst H old.ok.0 c.requires) c.climb.ensures.items in
    let same = c.climb.ensures.capacity in
    let long = mid.ok.0 in
    omega (arith, room, same, long)

pub returns-in-None-clause-items : goal.returns-in-None-clause-items
returns-in-None-clause-items t c = λ way w.
    let path = c.args.path.now.items in
    appended_empty path ∙ ap (λ xs. path ++ xs) (sym (way_there c.args.nodes.now way (subst (λ at. IsWay c.args.nodes.now at way) c.in-None.is w)))

pub returns-in-Some-clause-items : goal.returns-in-Some-clause-items
returns-in-Some-clause-items t c = λ way w.
    let ns = c.args.nodes.now in
    let u = way_up ns c.in-Some.number way (subst (λ at. IsWay ns at way) c.in-Some.is w) in
    climbed ns c.in-Some.number way c.node_at-node.result c.args.path.now.items c.climb.new.path.items c.push_reserved.new.self.items u c.node_at-node.ensures c.push_reserved.ensures.items c.climb.ensures.items
