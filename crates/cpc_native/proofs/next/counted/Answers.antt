use Rattle.std.proofs.Common.{◌-◌, None, sym, ap, subst, ◌∙◌}
use Rattle.cpc_eval_values.specs.Shown.{store_of}
use Rattle.cpc_eval_index.specs.Indexed.{items_of}
use Rattle.cpc_native_frames.specs.Living.{CanLeave}
use Rattle.cpc_native_frames.specs.Made.{slots_of}
use Rattle.cpc_native_changes.specs.Foreseen.{EntersOwnly}
use Rattle.cpc_native.specs.Next.{IsCounted}
use Rattle.cpc_native.proofs.next.counted.Goals as goal

pub returns-in-Some : goal.returns-in-Some
returns-in-Some c = λ names apart.
    subst (λ change. IsCounted names (items_of names c.args.index.now) (store_of names c.args.store.now) (slots_of names c.args.slots.now) c.args.live change c.saturating_sub.result) (sym c.in-Leaves.is)
    (λ t freed. c.saturating_sub.ensures ∙ ap (λ n. c.args.live - n) (c.in-Some.ensures.cells names))

pub returns-in-None : goal.returns-in-None
returns-in-None c = λ names apart.
    subst (λ change. IsCounted names (items_of names c.args.index.now) (store_of names c.args.store.now) (slots_of names c.args.slots.now) c.args.live change c.args.live) (sym c.in-Leaves.is)
    (λ t freed. absurd (subst (CanLeave None) freed (c.in-None.ensures.leaves names c.requires.rise)))

pub called_cells-requires : goal.called_cells-requires
called_cells-requires c = subst (EntersOwnly c.args.index.now) c.in-Enters.is c.requires.own
