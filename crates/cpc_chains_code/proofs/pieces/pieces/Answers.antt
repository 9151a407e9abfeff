use Rattle.std.proofs.Common.{ap, map, [], ◌∷◌, ◌++◌, ◌∙◌, arith}
use Rattle.std.proofs.lemmas.List.{append_assoc}
use Rattle.cpc_tree.specs.Syntax.{FunctionItem}
use Rattle.cpc_convert_common.specs.Converted.{function_item}
use Rattle.cpc_forms.specs.Flow.{Start}
use Rattle.cpc_chains_event.specs.Pieces.{piece_function, leader_function}
use Rattle.cpc_chains_items.specs.Listed.{listed}
use Rattle.cpc_chains_code.proofs.pieces.pieces.Goals as goal

pub returns : goal.returns
returns c = λ source from to p r st w.
    c.in_ok-add_leaders.ensures source from to p r st w
    ∙ (ap (λ xs. xs ++ map function_item (map (leader_function p r) r.split.leaders)) (c.in_ok-piece.ensures source from to p r st w (omega arith))
    ∙ append_assoc (listed to c.args.items.now) (FunctionItem (piece_function p r Start) ∷ []) (map function_item (map (leader_function p r) r.split.leaders)))
