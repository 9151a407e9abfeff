use Rattle.std.proofs.Common.{◌≡◌, ◌+◌, ◌∙◌, drop, true, false, ap, sym, arith, add-one}
use Rattle.cpc_native_points.specs.Seen.{part_of, path_of}
use Rattle.cpc_eval_values.specs.Counted.{capped}
use Rattle.cpc_eval_locals.specs.Locals.{held_of}
use Rattle.cpc_eval_locals.specs.Marks.{Down, Past, Off, own_after, look}
use Rattle.cpc_eval_locals.specs.Seen.{declared_seen, mark_seen}
use Rattle.cpc_eval_locals.proofs.Stepping.{path_at, way_there}
use Rattle.cpc_eval_locals.proofs.looking.at_part.Goals as goal

pub returns-in-Down : goal.returns-in-Down
returns-in-Down c = λ names apart path rest same is.
    let at = c.args.at in
    let x = names c.args.name in
    let o = held_of names at.held in
    let q = path_of (drop (at.depth + 1) path) in
    ap (λ h. look x at.count h (at.depth + 1) q rest) (c.own_after-own.ensures names apart ∙ ap (own_after x at.count o) (c.own.ensures names))
    ∙ ap (λ d. look x at.count (own_after x at.count o (declared_seen names c.args.mark.now.own)) d q rest) (add-one at.depth)
    ∙ sym (way_there x at.count o at.depth (path_of (drop at.depth path)) (mark_seen names c.args.mark.now) rest (part_of c.args.part) q (Down q) same (path_at path at.depth c.args.part is) (c.in-Down.ensures q))

pub returns-in-Stays : goal.returns-in-Stays
returns-in-Stays c = λ names apart path rest same is.
    let at = c.args.at in
    let x = names c.args.name in
    let o = held_of names at.held in
    let p = path_of (drop at.depth path) in
    let q = path_of (drop (at.depth + 1) path) in
    let count : c.saturating_add-count.result ≡ capped (at.count + c.args.mark.now.count) = omega (arith, c.saturating_add-count.ensures) in
    ap (λ n. look x n (held_of names c.own_after-own.result) at.depth p rest) count
    ∙ ap (λ h. look x (capped (at.count + c.args.mark.now.count)) h at.depth p rest) (c.own_after-own.ensures names apart ∙ ap (own_after x at.count o) (c.own.ensures names))
    ∙ sym (way_there x at.count o at.depth p (mark_seen names c.args.mark.now) rest (part_of c.args.part) q (Past true) same (path_at path at.depth c.args.part is) (c.in-Stays.ensures q))

pub returns-in-Leaves : goal.returns-in-Leaves
returns-in-Leaves c = λ names apart path rest same is.
    let at = c.args.at in
    let x = names c.args.name in
    let o = held_of names at.held in
    let p = path_of (drop at.depth path) in
    let q = path_of (drop (at.depth + 1) path) in
    let count : c.saturating_add-count.result ≡ capped (at.count + c.args.mark.now.count) = omega (arith, c.saturating_add-count.ensures) in
    ap (λ n. look x n o at.depth p rest) count
    ∙ sym (way_there x at.count o at.depth p (mark_seen names c.args.mark.now) rest (part_of c.args.part) q (Past false) same (path_at path at.depth c.args.part is) (c.in-Leaves.ensures q))

pub returns-in-Off : goal.returns-in-Off
returns-in-Off c = λ names apart path rest same is.
    let at = c.args.at in
    let q = path_of (drop (at.depth + 1) path) in
    sym (way_there (names c.args.name) at.count (held_of names at.held) at.depth (path_of (drop at.depth path)) (mark_seen names c.args.mark.now) rest (part_of c.args.part) q Off same (path_at path at.depth c.args.part is) (c.in-Off.ensures q))
