-- Where the type of a global is incomplete.
use Rattle.std.proofs.Common.{◌≡◌, ℕ, suc, ◌+◌, ◌<◌, Bool, true, false, List, ◌∷◌, length, drop, get_or, map, sym, ap, ◌∙◌, add-one}
use Rattle.std.specs.Prelude.{if◌then◌else◌}
use Rattle.std.proofs.Math.Seq.{drop-cons}
use Rattle.cpc_store.specs.Store.{Store, empty_store}
use Rattle.cpc_tree.specs.Erase.{Names, item_of}
use Rattle.cpc_tree.specs.declared.program.Item.{Item}
use Rattle.cpc_meaning.specs.Answer.{Answer, NoAnswer}
use Rattle.cpc_meaning.specs.Start.{make_globals, globals}

-- the globals from one item on
abbrev pub from : Names → List Item → ℕ → Store → Answer Store
from names items i s = make_globals (map (item_of names) items) (map (item_of names) (drop i items)) s

-- behind an item whose type is incomplete nothing is there
pub stopped : (names : Names) (items : List Item) (i : ℕ) (x : Item) (b : Bool) (whole s : _) (rest : Store) → i < length items → x ≡ get_or items i x → b ≡ false → whole ≡ from names items i s
    → make_globals (map (item_of names) items) (item_of names x ∷ map (item_of names) (drop (i + 1) items)) s ≡ (if b then make_globals (map (item_of names) items) (map (item_of names) (drop (i + 1) items)) rest else NoAnswer)
    → globals whole ≡ empty_store
stopped names items i x true whole s rest lt is off e h = absurd cc
stopped names items i x false whole s rest lt is off e h =
    let next : drop i items ≡ x ∷ drop (i + 1) items = drop-cons items i x lt ∙ ap (λ y. y ∷ drop (suc i) items) (sym is) ∙ ap (λ j. x ∷ drop j items) (sym (add-one i)) in
    ap globals (e ∙ ap (λ xs. make_globals (map (item_of names) items) (map (item_of names) xs) s) next ∙ h)
