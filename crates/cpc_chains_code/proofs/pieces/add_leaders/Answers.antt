use Rattle.std.proofs.Common.{ℕ, List, ap, sym, suc, ◌<◌, ◌≤◌, length, get_or, subst, map, [], ◌∷◌, ◌++◌, ◌∙◌, arith}
use Rattle.cpc_tree.specs.Syntax.{FunctionItem}
use Rattle.cpc_convert_common.specs.Converted.{function_item}
use Rattle.cpc_forms.specs.Flow.{At}
use Rattle.cpc_chains_event.specs.Pieces.{piece_function, leader_function}
use Rattle.cpc_chains_items.specs.Listed.{listed}
use Rattle.cpc_chains_pieces.proofs.Made.{leader_more, leaders_done}
use Rattle.cpc_chains_code.proofs.pieces.add_leaders.Goals as goal

pub loop-leader-init : goal.loop-leader-init
loop-leader-init c = λ source from to p r st w. ap (λ ns. listed to c.args.items.now ++ map function_item (map (leader_function p r) ns)) (sym w.stepped.leaders)

pub loop-leader-preserved : goal.loop-leader-preserved
loop-leader-preserved c = λ source from to p r st w.
    let ns = c.args.stepped.now.split.now.leaders.items in
    let i = c.loop-leader.leader-index in
    let same = c.deref-leader-items.ensures.value in
    let within : i < length ns = subst (λ (xs : List ℕ). i < length xs) same (omega arith) in
    let led : get_or ns i 0 < length c.args.stepped.now.steps.items = w.stepped.led i 0 within in
    let owner : suc (get_or ns i 0) < suc (length c.args.stepped.now.steps.items) = omega (arith, led) in
    leader_more p r ns i (listed to c.loop-leader.items) (listed to c.piece.new.items) _ within
    (c.in_ok-piece.ensures source from to p r st w (subst (λ (xs : List ℕ). suc (get_or xs i 0) < suc (length c.args.stepped.now.steps.items)) (sym same) owner)
    ∙ ap (λ (xs : List ℕ). listed to c.loop-leader.items ++ FunctionItem (piece_function p r (At (get_or xs i 0))) ∷ []) same)
    (c.loop-leader.invariant source from to p r st w)

pub returns : goal.returns
returns c = λ source from to p r st w.
    let past : length c.args.stepped.now.split.now.leaders.items ≤ c.loop-leader.leader-index = subst (λ (xs : List ℕ). length xs ≤ c.loop-leader.leader-index) c.deref-leader-items.ensures.value (omega arith) in
    leaders_done p r c.args.stepped.now.split.now.leaders.items c.loop-leader.leader-index (listed to c.loop-leader.items) _ past (c.loop-leader.invariant source from to p r st w)
