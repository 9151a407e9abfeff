use Rattle.std.proofs.Common.{◌≡◌, List, [], true, Some, refl, sym, ap, subst, ◌∙◌}
use Rattle.cpc_tree.specs.Erase.{type_of, function_of}
use Rattle.cpc_tree.specs.Points as P
use Rattle.cpc_tree.specs.Registers.{scope_in_function}
use Rattle.cpc_store.specs.Store as S
use Rattle.cpc_meaning.specs.Eval as E
use Rattle.cpc_meaning.specs.Act as M
use Rattle.cpc_meaning.specs.Trees.{stood_at}
use Rattle.cpc_native_points.specs.declared.parts.Part.{Part}
use Rattle.cpc_native_points.specs.declared.parts.Phase.{Phase}
use Rattle.cpc_native_points.specs.declared.parts.Phase.TheVariants as F
use Rattle.cpc_native_points.specs.Seen.{point_at, path_of}
use Rattle.cpc_native_points.specs.Finds.{found_of}
use Rattle.cpc_eval_values.specs.Shown.{store_of}
use Rattle.cpc_eval_index.specs.Indexed.{items_of}
use Rattle.cpc_eval.specs.Numbers.{FoundNumbers}
use Rattle.cpc_eval.specs.declared.around.Slot.{Slot}
use Rattle.cpc_native_builtins.specs.Served.{is_served_found}
use Rattle.cpc_native_frames.specs.Made.{slots_of}
use Rattle.cpc_native_stood.specs.Stood.{is_served_stood, StoodNumbers}
use Rattle.cpc_native_changes.specs.Foreseen.{Foresees, Tells}
use Rattle.cpc_native_changes.specs.declared.changes.Change.TheVariants as C
use Rattle.cpc_native_changes.proofs.Standing.{arrives_stays, said_at, tells_so}
use Rattle.cpc_native_changes.proofs.changes.ahead.Goals as goal

pub returns-in-Here : goal.returns-in-Here
returns-in-Here c = λ names o texts serving.
    let frame = c.args.frame.now in
    let index = c.args.index.now in
    let p = items_of names index in
    let f = function_of names frame.function.now in
    let path = path_of frame.point.path.items in
    let t = type_of names frame.function.now.result in
    let slots = slots_of names frame.slots.items in
    let s = store_of names c.args.store.now in
    let Q : E.Context → M.Stood → Type 0 = λ k stood. Tells names k stood c.by_name.result (M.act k t o stood) in
    let k : List Part → List Slot → E.Context = λ ps ss. record { program = p; scope = scope_in_function f (path_of ps); slots = slots_of names ss; store = s } in
    let there = c.standing-there.result in
    let fd : found_of names there ≡ P.found f.body path = c.standing-there.ensures names ∙ ap (λ (l : List Part). P.found f.body (path_of l)) c.deref-in-Here.ensures.value in
    let B : Phase → Type 0 = λ ph. is_served_stood (stood_at (Some f) (point_at ph path)) ≡ true in
    let N : Phase → Type 0 = λ ph. StoodNumbers p (stood_at (Some f) (point_at ph path)) in
    let served : is_served_found (P.found f.body path) ≡ true = subst B c.in-Here.is serving.stood in
    let numbers : FoundNumbers p (P.found f.body path) = subst N c.in-Here.is texts.numbers in
    let D : P.Found → Type 0 = λ q. is_served_found q ≡ true in
    let G : P.Found → Type 0 = λ q. FoundNumbers p q in
    let k0 = k c.deref.result.now c.deref-2.result.now in
    let told = c.found.ensures.value names texts.told texts.spells serving.program (subst D (sym fd) served) (subst G (sym fd) numbers) in
    let h : Q k0 (M.AtStatement (found_of names there)) = tells_so names index k0 (M.AtStatement (found_of names there)) c.found.result c.by_name.result _ c.by_name.ensures texts.told.apart refl c.found.ensures.own told in
    let h1 : Q k0 (M.AtStatement (P.found f.body path)) = (let R : P.Found → Type 0 = λ q. Q k0 (M.AtStatement q) in subst R fd h) in
    let h2 : Q (k frame.point.path.items c.deref-2.result.now) (M.AtStatement (P.found f.body path)) = (let R : List Part → Type 0 = λ ps. Q (k ps c.deref-2.result.now) (M.AtStatement (P.found f.body path)) in subst R c.deref.ensures.value h1) in
    let h3 : Q (k frame.point.path.items frame.slots.items) (M.AtStatement (P.found f.body path)) = (let R : List Slot → Type 0 = λ ss. Q (k frame.point.path.items ss) (M.AtStatement (P.found f.body path)) in subst R c.deref-2.ensures.value h2) in
    said_at p (names frame.function.now.word.name) f path slots s Q frame.point.phase F.Here c.in-Here.is (c.requires.own names texts.told.apart) h3

pub returns-in-Arrival : goal.returns-in-Arrival
returns-in-Arrival c = λ names o texts serving.
    let frame = c.args.frame.now in
    let p = items_of names c.args.index.now in
    let f = function_of names frame.function.now in
    let path = path_of frame.point.path.items in
    let t = type_of names frame.function.now.result in
    let slots = slots_of names frame.slots.items in
    let s = store_of names c.args.store.now in
    let Q : E.Context → M.Stood → Type 0 = λ k stood. Foresees names k stood C.Stays (M.act k t o stood) in
    let k : E.Context = record { program = p; scope = scope_in_function f path; slots = slots; store = s } in
    let h : Q k (M.AtArrival (P.found f.body path)) = arrives_stays names k (M.AtArrival (P.found f.body path)) (P.found f.body path) o in
    said_at p (names frame.function.now.word.name) f path slots s Q frame.point.phase F.Arrival c.in-Arrival.is (c.requires.own names texts.told.apart) h

pub returns-in-End : goal.returns-in-End
returns-in-End c = λ names o texts serving.
    let frame = c.args.frame.now in
    let index = c.args.index.now in
    let p = items_of names index in
    let f = function_of names frame.function.now in
    let path = path_of frame.point.path.items in
    let t = type_of names frame.function.now.result in
    let slots = slots_of names frame.slots.items in
    let s = store_of names c.args.store.now in
    let Q : E.Context → M.Stood → Type 0 = λ k stood. Tells names k stood c.by_name-in-End.result (M.act k t o stood) in
    let k : E.Context = record { program = p; scope = []; slots = slots; store = s } in
    let h : Q k M.AtEnd =
    tells_so names index k M.AtEnd c.left.result c.by_name-in-End.result (M.leaves k S.Unset) c.by_name-in-End.ensures texts.told.apart refl c.left.ensures.own
    (c.left.ensures.value names k M.AtEnd S.Unset (ap (slots_of names) (sym c.deref-2.ensures.value)) refl) in
    said_at p (names frame.function.now.word.name) f path slots s Q frame.point.phase F.End c.in-End.is (c.requires.own names texts.told.apart) h

pub invariant_of-around : goal.invariant_of-around
invariant_of-around c = record { own = ∣ c.requires.own ∣₁ }
