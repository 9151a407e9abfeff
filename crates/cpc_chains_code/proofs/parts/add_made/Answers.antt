use Rattle.std.proofs.Common.{◌∙◌, [], ◌∷◌, ◌++◌, map, append_assoc, ap}
use Rattle.cpc_tree.specs.Syntax.{FunctionItem}
use Rattle.cpc_forms.specs.Flow.{Start}
use Rattle.cpc_convert_common.specs.Converted.{function_item}
use Rattle.cpc_chains_event.specs.Pieces.{spawner_function, piece_function, leader_function}
use Rattle.cpc_chains_items.specs.Listed.{listed}
use Rattle.cpc_chains_pieces.specs.Whole.{IsWhole}
use Rattle.cpc_chains_code.proofs.parts.add_made.Goals as goal

pub returns : goal.returns
returns c = λ source from to p r g s complete.
    let pieces = map function_item (piece_function p r Start ∷ map (leader_function p r) r.split.leaders) in
    let spawner = FunctionItem (spawner_function r.function) ∷ [] in
    let whole : IsWhole from p r c.args.around c.in_ok-stepped.stepped = record { stepped = c.in_ok-stepped.ensures.is from r complete.of; of = c.in_ok-stepped.ensures.split; complete = complete; entries = g.entries } in
    c.in_ok-pieces.ensures source from to p r s whole ∙ (ap (λ u. u ++ pieces) (c.in_ok-spawner.ensures source from to p r s) ∙ append_assoc (listed to c.args.items.now) spawner pieces)
