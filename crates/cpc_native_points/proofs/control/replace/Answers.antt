use Rattle.std.proofs.Common.{◌≡◌, ◌+◌, ◌-◌, ◌≤◌, suc, ◌∷◌, [], ◌++◌, length, take, Some, ap, ◌∙◌, arith}
use Rattle.cpc_native_points.specs.Depth.{numbers}
use Rattle.cpc_native_points.specs.Seen.{path_of, part_of}
use Rattle.cpc_native_points.specs.Leads.{Goes, begun}
use Rattle.cpc_native_points.proofs.Replacing.{goes_to, goes_alone}
use Rattle.cpc_native_points.proofs.control.replace.Goals as goal

pub push_reserved-requires : goal.push_reserved-requires
push_reserved-requires c =
    let r = c.requires.room in
    let l = c.len.ensures in
    let k = c.saturating_sub-kept.ensures in
    let n = c.truncate.ensures.len in
    let m = c.truncate.ensures.capacity in
    omega (arith, r, l, k, n, m)

pub enter-requires : goal.enter-requires
enter-requires c =
    let r : (c.args.path.now.len - c.args.dropped) + suc (length (begun numbers (Some c.in-Some.target))) ≤ c.args.path.now.cap = rw c.in-Some.is at c.requires.room in
    let l = c.len.ensures in
    let k = c.saturating_sub-kept.ensures in
    let n = c.truncate.ensures.len in
    let m = c.truncate.ensures.capacity in
    let i = c.push_reserved.ensures.len in
    let j = c.push_reserved.ensures.capacity in
    record { room = omega (arith, r, l, k, n, m, i, j) }

pub returns-in-Some-clause-path : goal.returns-in-Some-clause-path
returns-in-Some-clause-path c = λ names m g.
    let k : c.saturating_sub-kept.result ≡ length c.args.path.now.items - c.args.dropped = c.saturating_sub-kept.ensures ∙ ap (λ n. n - c.args.dropped) (c.len.ensures ∙ c.args.path.now.ok.0) in
    let p : c.push_reserved.new.self.items ≡ take c.saturating_sub-kept.result c.args.path.now.items ++ c.args.part ∷ [] = c.push_reserved.ensures.items ∙ ap (λ xs. xs ++ c.args.part ∷ []) c.truncate.ensures.items in
    let e = c.enter.ensures.items names ∙ ap (λ xs. path_of xs ++ begun names (Some c.in-Some.target)) p in
    let w : Goes (path_of c.args.path.now.items) c.args.dropped (part_of c.args.part ∷ begun names (Some c.in-Some.target)) m = rw c.in-Some.is at g in
    goes_to c.args.path.now.items c.enter.new.path.items c.saturating_sub-kept.result c.args.dropped c.args.part (begun names (Some c.in-Some.target)) m k e w

pub returns-in-None-clause-path : goal.returns-in-None-clause-path
returns-in-None-clause-path c = λ names m g.
    let k : c.saturating_sub-kept.result ≡ length c.args.path.now.items - c.args.dropped = c.saturating_sub-kept.ensures ∙ ap (λ n. n - c.args.dropped) (c.len.ensures ∙ c.args.path.now.ok.0) in
    let p : c.push_reserved.new.self.items ≡ take c.saturating_sub-kept.result c.args.path.now.items ++ c.args.part ∷ [] = c.push_reserved.ensures.items ∙ ap (λ xs. xs ++ c.args.part ∷ []) c.truncate.ensures.items in
    let w : Goes (path_of c.args.path.now.items) c.args.dropped (part_of c.args.part ∷ []) m = rw c.in-None.is at g in
    goes_alone c.args.path.now.items c.push_reserved.new.self.items c.saturating_sub-kept.result c.args.dropped c.args.part m k p w
