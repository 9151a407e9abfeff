use Rattle.std.proofs.Common.{sym, subst, ◌∙◌, arith}
use Rattle.cpc_store.specs.declared.values.Value.TheVariants.{Unset}
use Rattle.cpc_run.specs.Going.{HasRoomFor}
use Rattle.cpc_run.proofs.Takes.{one_is}
use Rattle.cpc_run.proofs.looped.Loop.allocates.Goals as goal

pub allocates_cells-requires-clause-room : goal.allocates_cells-requires-clause-room
allocates_cells-requires-clause-room c =
    subst (HasRoomFor c.args.self.now c.args.request.now.function c.args.class) (sym (one_is c.as_slice.result.now Unset (omega arith) ∙ c.as_slice.ensures.value)) c.requires.room
