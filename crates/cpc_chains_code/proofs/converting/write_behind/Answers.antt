use Rattle.std.proofs.Common.{map}
use Rattle.cpc_tree.specs.Erase.{program_of}
use Rattle.cpc_tree.specs.Typing.{function_named}
use Rattle.cpc_meaning.specs.Start.{main_name}
use Rattle.cpc_meaning.specs.Threads.{is_cps}
use Rattle.cpc_convert_common.specs.Converted.{function_item}
use Rattle.cpc_chains_event.specs.Converted.{all_boxes, all_made, main_if}
use Rattle.cpc_chains_code.specs.Given.{routines_by}
use Rattle.cpc_chains_code.proofs.Meant.{three_parts}
use Rattle.cpc_chains_code.proofs.converting.write_behind.Goals as goal

pub returns : goal.returns
returns c = λ from to g.
    let p = program_of c.args.source.now in
    let rs = routines_by from p c.args.book.now in
    three_parts _ (all_boxes rs) (map function_item (all_made p rs)) (main_if (is_cps (function_named p main_name))) _ _ _ (c.in_ok-add_boxes.ensures from to p g) (c.in_ok-add_functions.ensures from to p g) (c.in_ok-add_main.ensures from to p g)
