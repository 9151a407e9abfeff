use Rattle.std.proofs.Common.{[], ◌∷◌, map}
use Rattle.cpc_tree.specs.Erase.{program_of}
use Rattle.cpc_tree.specs.Syntax.{FunctionItem}
use Rattle.cpc_convert_common.specs.Converted.{prototype}
use Rattle.cpc_chains_store_laws.specs.Driver.{drive_function}
use Rattle.cpc_chains_event.specs.Frames.{any_frame}
use Rattle.cpc_chains_event.specs.Converted.{all_structs, all_made}
use Rattle.cpc_chains_code.specs.Given.{routines_by}
use Rattle.cpc_chains_code.proofs.Meant.{four_parts}
use Rattle.cpc_chains_code.proofs.converting.write_before.Goals as goal

pub returns : goal.returns
returns c = λ from to g.
    let p = program_of c.args.source.now in
    let rs = routines_by from p c.args.book.now in
    four_parts _ (any_frame ∷ []) (all_structs p rs) (map prototype (all_made p rs)) (FunctionItem drive_function ∷ []) _ _ _ _ (c.in_ok-any_frame.ensures c.args.source.now.names to g.book) (c.in_ok-add_structs.ensures from to p g) (c.in_ok-add_prototypes.ensures from to p g)
    (c.in_ok-driver.ensures c.args.source.now.names to g.book)
