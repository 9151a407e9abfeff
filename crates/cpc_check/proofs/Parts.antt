-- Parts of items together, and the scope in which a body stands.
use Rattle.std.proofs.Common.{◌≡◌, ℕ, ◌+◌, ◌<◌, ◌≤◌, not, List, [], ◌∷◌, ◌++◌, length, suc, add-one, take, drop, map, Option, Some, None, refl, ap, sym, ◌∙◌}
use Rattle.std.specs.Prelude.{slice_get}
use Rattle.std.proofs.lemmas.List.{take_more, map-append}
use Rattle.std.proofs.lemmas.Option.{slice_get_within, get_or_from_slice_get}
use Rattle.std.proofs.Math.Seq.{drop-cons}
use Rattle.std.proofs.Math.ListN.{drop_of_length-le}
use Rattle.cpc_base.specs.declared.stop.Place.{Place}
use Rattle.cpc_base.specs.declared.stop.Dialect.{Dialect}
use Rattle.cpc_tree.specs.Erase.{Names, item_of, type_of, parameter_of}
use Rattle.cpc_tree.specs.Locate.{located_parameter, located_function, located_item}
use Rattle.cpc_tree.specs.Syntax.{StructItem, GlobalItem, PrototypeItem, Program}
use Rattle.cpc_tree.specs.declared.program.Item.{Item}
use Rattle.cpc_tree.specs.declared.program.Item.TheVariants as I
use Rattle.cpc_tree.specs.declared.program.Parameter.{Parameter}
use Rattle.cpc_tree.specs.declared.program.Word.{Word}
use Rattle.cpc_tree.specs.declared.program.CType.{CType}
use Rattle.cpc_tree.proofs.Places.{bare_statement, bare_parameters, bare_fields, bare_option, bare_items}
use Rattle.cpc_tree.specs.declared.program.Function as GFunction
use Rattle.cpc_tree.specs.Located.{LFunction, LFunctionItem, bare_item, bare_parameter}
use Rattle.cpc_check_rules.specs.declared.rule.Rule.{Rule}
use Rattle.cpc_check_rules.specs.declared.rule.Rule.TheVariants.{NoMain}
use Rattle.cpc_check_rules.specs.Rule.{Broken, at_if}
use Rattle.cpc_check_rules.specs.Rules.{breaks, has_main, breadth_breaks}
use Rattle.cpc_check_rules.specs.Scopes as S
use Rattle.cpc_check_rules.specs.ItemRules as R
use Rattle.cpc_check_rules.specs.Noted.{noted}
use Rattle.cpc_check_rules.proofs.Firsts.{noted_both}
use Rattle.cpc_types.specs.Blocks.{with_parameters}
use Rattle.cpc_types.specs.Scoped.{first_items}
use Rattle.cpc_check_items.specs.Parts.{head_parts, tail_parts}

-- ---- rows that are noted one after the other

pub noted_two : (o p q : Option (Place × Rule)) (a b : Broken) → p ≡ noted o a → q ≡ noted p b → q ≡ noted o (a ++ b)
noted_two o p q a b e f = f ∙ ap (λ x. noted x b) e ∙ sym (noted_both o a b)

pub noted_function : (dialect : Dialect) (before : Program) (f : LFunction) (o p q r : Option (Place × Rule))
    → R.function_breaks dialect before f ≡ head_parts dialect before f ++ (R.body_breaks (R.in_body dialect before f) f.body ++ tail_parts dialect f)
    → p ≡ noted o (head_parts dialect before f) → q ≡ noted p (R.body_breaks (R.in_body dialect before f) f.body) → r ≡ noted q (tail_parts dialect f)
    → r ≡ noted o (R.function_breaks dialect before f)
noted_function dialect before f o p q r whole e g h =
    noted_two o p r (head_parts dialect before f) (R.body_breaks (R.in_body dialect before f) f.body ++ tail_parts dialect f) e
    (noted_two p q r (R.body_breaks (R.in_body dialect before f) f.body) (tail_parts dialect f) g h)
    ∙ ap (noted o) (sym whole)

-- ---- the scope of a body

-- the items up to the next one
pub next_items : (names : Names) (xs : List Item) (n : ℕ) (x : Item) → slice_get xs n ≡ Some x → first_items names (n + 1) xs ≡ first_items names n xs ++ item_of names x ∷ []
next_items names xs n x e =
    let within : n < length xs = slice_get_within xs n x e in
    ap (map (item_of names)) (take_more xs n x within ∙ ap (λ y. take n xs ++ y ∷ []) (get_or_from_slice_get xs n x x e)) ∙ map-append (item_of names) (take n xs) (x ∷ [])

-- parameters as the names of one block
module _ (names : Names) (items : Program) where
  abbrev one_block : S.Block → S.Scope
  one_block b = record { items = items; blocks = b ∷ [] }

  abbrev Entered : S.Block → List Parameter → Type 0
  Entered b ps = with_parameters names (one_block b) ps ≡ one_block (R.parameter_block b (map (located_parameter names) ps))

  one_more : (ps : List Parameter) → ((b : S.Block) → Entered b ps) → (b : S.Block) (w : Option Word) (t : CType) → Entered b (record { word = w; of = t } ∷ ps)
  one_more ps rest b None t = rest b
  one_more ps rest b (Some w) t = rest (record { called = names w.name; type = type_of names t } ∷ b)

  pub parameters_in : (b : S.Block) (ps : List Parameter) → Entered b ps
  parameters_in b [] = refl
  parameters_in b (p ∷ ps) = one_more ps (λ c. parameters_in c ps) b p.word p.of

-- items without their places, whatever the texts of names
one_again : (names : Names) (w : Option Word) (t : CType) → bare_parameter (located_parameter names (record { word = w; of = t })) ≡ parameter_of names (record { word = w; of = t })
one_again names None t = refl
one_again names (Some w) t = refl

pub item_again : (names : Names) (x : Item) → bare_item (located_item names x) ≡ item_of names x
item_again names (I.Struct tag fields) = ap (StructItem (names tag.name)) (bare_fields names fields.items)
item_again names (I.Global w t start) = ap (GlobalItem (names w.name) (type_of names t)) (bare_option names start)
item_again names (I.Prototype p mode w result ps) = ap (PrototypeItem mode (names w.name) (type_of names result)) (bare_parameters names ps.items)
item_again names (I.Function f) = rw (bare_parameters names f.parameters.items, bare_statement names f.body) refl

bare_function : (names : Names) (f : GFunction.Function) → bare_item (LFunctionItem (located_function names f)) ≡ item_of names (I.Function f)
bare_function names f = item_again names (I.Function f)

-- ---- items, one by one

-- what the items from the n-th on break
abbrev pub left : Dialect → Names → Program → List Item → ℕ → Broken
left dialect names program xs n = R.items_breaks dialect program (first_items names n xs) (map (located_item names) (drop n xs))

pub one_item : (dialect : Dialect) (names : Names) (program : Program) (xs : List Item) (n : ℕ) (x : Item) → slice_get xs n ≡ Some x
    → left dialect names program xs n ≡ R.item_breaks dialect program (first_items names n xs) (located_item names x) ++ left dialect names program xs (n + 1)
one_item dialect names program xs n x e =
    let within : n < length xs = slice_get_within xs n x e in
    let rest : drop n xs ≡ x ∷ drop (n + 1) xs = drop-cons xs n x within ∙ ap (λ y. y ∷ drop (suc n) xs) (get_or_from_slice_get xs n x x e) ∙ ap (λ m. x ∷ drop m xs) (sym (add-one n)) in
    let before : first_items names n xs ++ bare_item (located_item names x) ∷ [] ≡ first_items names (n + 1) xs = ap (λ y. first_items names n xs ++ y ∷ []) (item_again names x) ∙ sym (next_items names xs n x e) in
    ap (λ l. R.items_breaks dialect program (first_items names n xs) (map (located_item names) l)) rest
    ∙ ap (λ b. R.item_breaks dialect program (first_items names n xs) (located_item names x) ++ R.items_breaks dialect program b (map (located_item names) (drop (n + 1) xs))) before

-- behind the last item nothing is left
pub none_left : (dialect : Dialect) (names : Names) (program : Program) (xs : List Item) (n : ℕ) (p : Option (Place × Rule)) → length xs ≤ n → noted p (left dialect names program xs n) ≡ p
none_left dialect names program xs n p le = ap (λ l. noted p (R.items_breaks dialect program (first_items names n xs) (map (located_item names) l))) (drop_of_length-le xs le)

-- noting the n-th item leaves the others
pub noted_left : (dialect : Dialect) (names : Names) (program : Program) (xs : List Item) (n : ℕ) (x : Item) (o p q : Option (Place × Rule)) → slice_get xs n ≡ Some x
    → q ≡ noted p (R.item_breaks dialect program (first_items names n xs) (located_item names x)) → noted p (left dialect names program xs n) ≡ o → noted q (left dialect names program xs (n + 1)) ≡ o
noted_left dialect names program xs n x o p q e is k =
    ap (λ y. noted y (left dialect names program xs (n + 1))) is
    ∙ sym (noted_both p (R.item_breaks dialect program (first_items names n xs) (located_item names x)) (left dialect names program xs (n + 1)))
    ∙ ap (noted p) (sym (one_item dialect names program xs n x e)) ∙ k

-- where a body stands whose function was entered
pub body_stands : (names : Names) (dialect : Dialect) (f : GFunction.Function) (xs : List Item) (n : ℕ) (entered inside : S.Scope) (items : Program)
    → slice_get xs n ≡ Some (I.Function f) → items ≡ entered.items → entered ≡ record { items = first_items names (n + 1) xs; blocks = [] }
    → inside ≡ with_parameters names (S.with_block (record { items = items; blocks = [] })) f.parameters.items
    → record { scope = inside; mode = f.mode; result = type_of names f.result; dialect = dialect } ≡ R.in_body dialect (first_items names n xs) (located_function names f)
body_stands names dialect f xs n entered inside items found is_items is_entered is_inside =
    let before = first_items names n xs in
    let are : items ≡ before ++ bare_item (LFunctionItem (located_function names f)) ∷ [] =
    is_items ∙ ap (λ s. s.items) is_entered ∙ next_items names xs n (I.Function f) found ∙ ap (λ x. before ++ x ∷ []) (sym (bare_function names f)) in
    let scope : inside ≡ record { items = before ++ bare_item (LFunctionItem (located_function names f)) ∷ []; blocks = R.parameter_block [] (map (located_parameter names) f.parameters.items) ∷ [] } =
    is_inside ∙ ap (λ i. with_parameters names (record { items = i; blocks = [] ∷ [] }) f.parameters.items) are ∙ parameters_in names (before ++ bare_item (LFunctionItem (located_function names f)) ∷ []) [] f.parameters.items in
    λ j. record { scope = scope j; mode = f.mode; result = type_of names f.result; dialect = dialect }

-- ---- the whole program

pub noted_program : (dialect : Dialect) (names : Names) (xs : List Item) (end : Place) (o p q : Option (Place × Rule)) (ys zs : List Item) → ys ≡ xs → zs ≡ xs
    → o ≡ noted None (R.items_breaks dialect (map (item_of names) xs) [] (map (located_item names) xs))
    → p ≡ noted o (at_if (not (has_main (map (located_item names) ys))) end NoMain) → q ≡ noted p (breadth_breaks dialect (map (located_item names) zs))
    → q ≡ noted None (breaks dialect (record { items = map (located_item names) xs; end = end }))
noted_program dialect names xs end o p q ys zs same_ys same_zs e f g =
    let items : o ≡ noted None (R.items_breaks dialect (map bare_item (map (located_item names) xs)) [] (map (located_item names) xs)) =
    e ∙ ap (λ b. noted None (R.items_breaks dialect b [] (map (located_item names) xs))) (sym (bare_items names xs)) in
    let mains : p ≡ noted o (at_if (not (has_main (map (located_item names) xs))) end NoMain) = f ∙ ap (λ y. noted o (at_if (not (has_main (map (located_item names) y))) end NoMain)) same_ys in
    let broad : q ≡ noted p (breadth_breaks dialect (map (located_item names) xs)) = g ∙ ap (λ z. noted p (breadth_breaks dialect (map (located_item names) z))) same_zs in
    noted_two None o q (R.items_breaks dialect (map bare_item (map (located_item names) xs)) [] (map (located_item names) xs))
    (at_if (not (has_main (map (located_item names) xs))) end NoMain ++ breadth_breaks dialect (map (located_item names) xs)) items
    (noted_two o p q (at_if (not (has_main (map (located_item names) xs))) end NoMain) (breadth_breaks dialect (map (located_item names) xs)) mains broad)
