-- Rows of what is broken, noted one after the other, and the least of them.
use Rattle.std.proofs.Common.{◌≡◌, ℕ, ◌+◌, ◌<◌, ◌≤◌, not, List, [], ◌∷◌, ◌++◌, length, suc, add-one, take, drop, map, Option, Some, None, option_map, ap, sym, ◌∙◌}
use Rattle.std.specs.Prelude.{slice_get}
use Rattle.std.proofs.lemmas.List.{take-map}
use Rattle.std.proofs.lemmas.Option.{slice_get_within, get_or_from_slice_get, slice_get-map}
use Rattle.std.proofs.Math.Seq.{drop-cons}
use Rattle.std.proofs.Math.ListN.{drop_of_length-le}
use Rattle.cpc_base.specs.Texts.{AreDistinct}
use Rattle.cpc_base.specs.declared.stop.Place.{Place}
use Rattle.cpc_base.specs.declared.stop.Dialect.{Dialect}
use Rattle.cpc_tree.specs.Erase.{Names, item_of}
use Rattle.cpc_tree.specs.Locate.{located, located_item}
use Rattle.cpc_tree.specs.Located.{LProgram, bare_item}
use Rattle.cpc_tree.specs.Syntax.{Program}
use Rattle.cpc_tree.specs.declared.program.Program as GProgram
use Rattle.cpc_tree.specs.declared.program.Item.{Item}
use Rattle.cpc_tree.proofs.Places.{bare_items}
use Rattle.cpc_check_rules.specs.declared.rule.Rule.{Rule}
use Rattle.cpc_check_rules.specs.declared.rule.Rule.TheVariants.{NoMain}
use Rattle.cpc_check_rules.specs.declared.first.Breach.{Breach}
use Rattle.cpc_check_rules.specs.Apart.{Spells}
use Rattle.cpc_check_rules.specs.Rule.{Broken, at_if}
use Rattle.cpc_check_rules.specs.Rules.{has_main, breadth_breaks}
use Rattle.cpc_check_rules.specs.Noted.{noted, pair_of}
use Rattle.cpc_check_rules.proofs.Firsts.{noted_both, is_first, is_none}
use Rattle.cpc_types.specs.Scoped.{first_items}
use Rattle.cpc_check.specs.Accepted.{IsWithin}
use Rattle.cpc_check.proofs.Parts.{next_items, item_again, noted_two}
use Rattle.cpc_check.proofs.Spelled.{spelling, spells}
use Rattle.cpc_check_parts.specs.ItemParts.{item_own, item_beside, items_beside}
use Rattle.cpc_check_parts.specs.Parts.{whole, own, own_of}
use Rattle.cpc_check_parts.specs.Faults.{IsLeast}

-- ---- the program by the texts that names are told by

abbrev pub spelled : Names → GProgram.Program → LProgram
spelled names p = record { items = map (located_item names) p.items.items; end = p.end }

-- what is noted for every spelling by which names are told apart is noted for the table's own texts, since all names are in it
pub noted_located : (p : GProgram.Program) (row : LProgram → Broken) (o : Option (Place × Rule)) → AreDistinct p.names → IsWithin p
    → ((names : Names) → Spells p.names names → o ≡ noted None (row (spelled names p))) → o ≡ noted None (row (located p))
noted_located p row o distinct within told =
    let s = spells p.names distinct in
    told (spelling p.names) s ∙ ap (λ items. noted None (row (record { items = items; end = p.end }))) (within.alike (spelling p.names) s.inside)

-- the least of a row is the first that was noted
pub least_noted : (broken : Broken) (o : Option Breach) → option_map pair_of o ≡ noted None broken → IsLeast broken o
least_noted broken None e = is_none broken (sym e)
least_noted broken (Some b) e = is_first broken b.place b.rule (sym e)

-- what the i-th item breaks by what stands in it
pub own_is : (dialect : Dialect) (names : Names) (p : GProgram.Program) (i : ℕ) (x : Item) → slice_get p.items.items i ≡ Some x
    → own dialect (spelled names p) i ≡ item_own dialect (first_items names i p.items.items) (located_item names x)
own_is dialect names p i x e =
    let xs = p.items.items in
    let before : map bare_item (take i (map (located_item names) xs)) ≡ first_items names i xs = ap (map bare_item) (take-map (located_item names) i xs) ∙ bare_items names (take i xs) in
    let here : slice_get (map (located_item names) xs) i ≡ Some (located_item names x) = slice_get-map (located_item names) xs i ∙ ap (option_map (located_item names)) e in
    ap (λ b. own_of dialect b (slice_get (map (located_item names) xs) i)) before ∙ ap (own_of dialect (first_items names i xs)) here

-- ---- between items, one by one

-- what lies between the items from the n-th on and those before them
abbrev pub left : Names → Program → List Item → ℕ → Broken
left names program xs n = items_beside program (first_items names n xs) (map (located_item names) (drop n xs))

one_item : (names : Names) (program : Program) (xs : List Item) (n : ℕ) (x : Item) → slice_get xs n ≡ Some x
    → left names program xs n ≡ item_beside program (first_items names n xs) (located_item names x) ++ left names program xs (n + 1)
one_item names program xs n x e =
    let within : n < length xs = slice_get_within xs n x e in
    let rest : drop n xs ≡ x ∷ drop (n + 1) xs = drop-cons xs n x within ∙ ap (λ y. y ∷ drop (suc n) xs) (get_or_from_slice_get xs n x x e) ∙ ap (λ m. x ∷ drop m xs) (sym (add-one n)) in
    let before : first_items names n xs ++ bare_item (located_item names x) ∷ [] ≡ first_items names (n + 1) xs = ap (λ y. first_items names n xs ++ y ∷ []) (item_again names x) ∙ sym (next_items names xs n x e) in
    ap (λ l. items_beside program (first_items names n xs) (map (located_item names) l)) rest
    ∙ ap (λ b. item_beside program (first_items names n xs) (located_item names x) ++ items_beside program b (map (located_item names) (drop (n + 1) xs))) before

-- behind the last item nothing is left
pub none_left : (names : Names) (program : Program) (xs : List Item) (n : ℕ) (p : Option (Place × Rule)) → length xs ≤ n → noted p (left names program xs n) ≡ p
none_left names program xs n p le = ap (λ l. noted p (items_beside program (first_items names n xs) (map (located_item names) l))) (drop_of_length-le xs le)

-- noting the n-th item leaves the others
pub noted_left : (names : Names) (program : Program) (xs : List Item) (n : ℕ) (x : Item) (o p q : Option (Place × Rule)) → slice_get xs n ≡ Some x
    → q ≡ noted p (item_beside program (first_items names n xs) (located_item names x)) → noted p (left names program xs n) ≡ o → noted q (left names program xs (n + 1)) ≡ o
noted_left names program xs n x o p q e is k =
    ap (λ y. noted y (left names program xs (n + 1))) is
    ∙ sym (noted_both p (item_beside program (first_items names n xs) (located_item names x)) (left names program xs (n + 1)))
    ∙ ap (noted p) (sym (one_item names program xs n x e)) ∙ k

-- ---- the whole

pub noted_whole : (dialect : Dialect) (names : Names) (xs : List Item) (end : Place) (o p q : Option (Place × Rule)) (ys zs : List Item) → ys ≡ xs → zs ≡ xs
    → o ≡ noted None (items_beside (map (item_of names) xs) [] (map (located_item names) xs))
    → p ≡ noted o (at_if (not (has_main (map (located_item names) ys))) end NoMain) → q ≡ noted p (breadth_breaks dialect (map (located_item names) zs))
    → q ≡ noted None (whole dialect (record { items = map (located_item names) xs; end = end }))
noted_whole dialect names xs end o p q ys zs same_ys same_zs e f g =
    let rows = map (located_item names) xs in
    let items : o ≡ noted None (items_beside (map bare_item rows) [] rows) = e ∙ ap (λ b. noted None (items_beside b [] rows)) (sym (bare_items names xs)) in
    let mains : p ≡ noted o (at_if (not (has_main rows)) end NoMain) = f ∙ ap (λ y. noted o (at_if (not (has_main (map (located_item names) y))) end NoMain)) same_ys in
    let broad : q ≡ noted p (breadth_breaks dialect rows) = g ∙ ap (λ z. noted p (breadth_breaks dialect (map (located_item names) z))) same_zs in
    noted_two None o q (items_beside (map bare_item rows) [] rows) (at_if (not (has_main rows)) end NoMain ++ breadth_breaks dialect rows) items
    (noted_two o p q (at_if (not (has_main rows)) end NoMain) (breadth_breaks dialect rows) mains broad)
