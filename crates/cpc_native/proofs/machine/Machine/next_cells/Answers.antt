use Rattle.std.proofs.Common.{◌≡◌, ◌+◌, min, Some, option_map, ap, subst, ◌∙◌, arith}
use Rattle.std.proofs.lemmas.List.Elements.{All-pop}
use Rattle.cpc_store.specs.Store.{store_cells}
use Rattle.cpc_meaning.specs.Runs.{frames_registers}
use Rattle.cpc_eval_values.specs.Shown.{value_of, store_of}
use Rattle.cpc_eval_index.specs.Indexed.{items_of}
use Rattle.cpc_native_frames.specs.Frames.{IsWellFrame}
use Rattle.cpc_native_frames.specs.Made.{slots_of}
use Rattle.cpc_native.specs.Next.{IsCounted, greatest}
use Rattle.cpc_native.specs.Stacks.{frames_of}
use Rattle.cpc_native.proofs.Frames.{texts_in, serving_in}
use Rattle.cpc_native.proofs.Nexts.{live_is, next_told, more_told, within_told}
use Rattle.cpc_native.proofs.machine.Machine.next_cells.Goals as goal

pub foreseen-change-requires : goal.foreseen-change-requires
foreseen-change-requires c =
    let m = c.args.self.now in
    let (front, calls) = c.in-Some.ensures.some in
    (All-pop (IsWellFrame m.index) m.calls.frames.items front (Some c.in-Some.frame.now) calls c.requires.calls).1

pub returns-in_default-clause-idle : goal.returns-in_default-clause-idle
returns-in_default-clause-idle c = λ none names.
    let m = c.args.self.now in
    let zero : frames_registers (frames_of names m.calls.frames.items) ≡ 0 = ap (λ fs. frames_registers (frames_of names fs)) none in
    c.live_cells-live.ensures names ∙ ap (λ n. min (store_cells (store_of names m.store) + n) greatest) zero ∙ ap (λ n. min n greatest) (omega arith)

pub returns-clause-next : goal.returns-clause-next
returns-clause-next c = λ names s h alone t step.
    let m = c.args.self.now in
    let top = c.in-Some.frame.now in
    let (front, calls) = c.in-Some.ensures.some in
    let own = (All-pop (IsWellFrame m.index) m.calls.frames.items front (Some top) calls c.requires.calls).1.own in
    let foreseen = c.foreseen-change.ensures.value names (option_map (value_of names) m.arriving) (texts_in names m.texts.now m.index h.runs top own) (serving_in names m.texts.now m.index h.runs top own) in
    let counted = subst (λ slots. IsCounted names (items_of names m.index) (store_of names m.store) (slots_of names slots) c.live_cells-live.result c.foreseen-change.result c.counted.result) c.deref.ensures.value (c.counted.ensures names h.runs.spells.apart) in
    next_told names m front top calls own c.foreseen-change.result c.live_cells-live.result c.counted.result s h foreseen counted
    (c.live_cells-live.ensures names ∙ ap (λ n. min n greatest) (live_is names m s h)) alone t step

pub returns-clause-more : goal.returns-clause-more
returns-clause-more c = λ names s h more t step.
    let m = c.args.self.now in
    let top = c.in-Some.frame.now in
    let (front, calls) = c.in-Some.ensures.some in
    let own = (All-pop (IsWellFrame m.index) m.calls.frames.items front (Some top) calls c.requires.calls).1.own in
    let foreseen = c.foreseen-change.ensures.value names (option_map (value_of names) m.arriving) (texts_in names m.texts.now m.index h.runs top own) (serving_in names m.texts.now m.index h.runs top own) in
    let counted = subst (λ slots. IsCounted names (items_of names m.index) (store_of names m.store) (slots_of names slots) c.live_cells-live.result c.foreseen-change.result c.counted.result) c.deref.ensures.value (c.counted.ensures names h.runs.spells.apart) in
    more_told names m front top calls own c.foreseen-change.result c.live_cells-live.result c.counted.result s h foreseen counted
    (c.live_cells-live.ensures names ∙ ap (λ n. min n greatest) (live_is names m s h)) more t step

pub returns-clause-within : goal.returns-clause-within
returns-clause-within c = λ names s h cap small le told t step.
    let m = c.args.self.now in
    let top = c.in-Some.frame.now in
    let (front, calls) = c.in-Some.ensures.some in
    let own = (All-pop (IsWellFrame m.index) m.calls.frames.items front (Some top) calls c.requires.calls).1.own in
    let foreseen = c.foreseen-change.ensures.value names (option_map (value_of names) m.arriving) (texts_in names m.texts.now m.index h.runs top own) (serving_in names m.texts.now m.index h.runs top own) in
    let counted = subst (λ slots. IsCounted names (items_of names m.index) (store_of names m.store) (slots_of names slots) c.live_cells-live.result c.foreseen-change.result c.counted.result) c.deref.ensures.value (c.counted.ensures names h.runs.spells.apart) in
    within_told names m front top calls own c.foreseen-change.result c.live_cells-live.result c.counted.result s h foreseen counted
    (c.live_cells-live.ensures names ∙ ap (λ n. min n greatest) (live_is names m s h)) cap small le told t step
