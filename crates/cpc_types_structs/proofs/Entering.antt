-- The structs of items as items come into scope and leave it.
use Rattle.std.proofs.Common.{◌≡◌, ℕ, ◌+◌, ◌<◌, ◌≤◌, inl, inr, List, [], ◌∷◌, ◌++◌, length, get_or, map, take, Option, Some, None, ap, sym, ◌∙◌, arith, length-append}
use Rattle.std.specs.Prelude.{slice_get}
use Rattle.std.proofs.lemmas.List.{length-map, map-append, take-append-le, get_or_push, get_or_append_left}
use Rattle.std.proofs.lemmas.Option.{slice_get_within}
use Rattle.std.proofs.Math.Seq.{take-append_seam}
use Rattle.cpc_tree.specs.Erase.{Names, item_of}
use Rattle.cpc_check_rules.specs.Apart.{AreApart}
use Rattle.cpc_tree.specs.declared.program.Item.{Item}
use Rattle.cpc_shapes.specs.Counted.{tag_of}
use Rattle.cpc_shapes.proofs.Indexes.{pushed_at}
use Rattle.cpc_types_structs.specs.Indexed.{IsIndex}
use Rattle.cpc_types_structs.specs.Structs.{AreStructs}
use Rattle.cpc_types_structs.specs.Sized.{declared_size}
use Rattle.cpc_types_structs.specs.declared.structs.Structs.{Structs}

-- there are as many tags as items
pub tags_even : (xs : List Item) (s : Structs) → AreStructs xs s → length s.tags.names.items ≡ length xs
tags_even xs s d = ap length d.tags ∙ length-map xs tag_of

-- no more items are in scope than there are
pub within_all : (xs : List Item) (s : Structs) → AreStructs xs s → s.tags.count ≤ length xs
within_all xs s d =
    let e : length s.tags.names.items ≡ length xs = tags_even xs s d in
    let h : s.tags.count ≤ length s.tags.names.items = d.tagged.within in
    omega arith

-- the structs of one more item
module _ (xs : List Item) (y : Item) (i j : Structs) (s : Option ℕ) where
  size_pushed : AreStructs xs i → j.sizes.items ≡ i.sizes.items ++ s ∷ [] → ((names : Names) → AreApart names → s ≡ declared_size names (map (item_of names) xs) y)
      → (k : ℕ) (x : Item) → slice_get (xs ++ y ∷ []) k ≡ Some x → (names : Names) → AreApart names → get_or j.sizes.items k None ≡ declared_size names (map (item_of names) (take k (xs ++ y ∷ []))) x
  size_pushed d sizes size k x h names apart = elim (pushed_at xs y k x h) [
    | inl e ↦
        let g : k < length xs = slice_get_within xs k x e in
        let f : length i.sizes.items ≡ length xs = d.even in
        ap (λ l. get_or l k None) sizes
        ∙ get_or_append_left i.sizes.items (s ∷ []) None k (omega arith)
        ∙ d.sized k x e names apart
        ∙ sym (ap (λ l. declared_size names (map (item_of names) l) x) (take-append-le k xs (y ∷ []) (omega arith)))
    | inr e ↦
        let f : length i.sizes.items ≡ k = d.even ∙ sym e.0 in
        ap (λ l. get_or l k None) sizes
        ∙ get_or_push i.sizes.items s None k f
        ∙ size names apart
        ∙ ap (declared_size names (map (item_of names) xs)) e.1
        ∙ sym (ap (λ l. declared_size names (map (item_of names) l) x) (ap (λ m. take m (xs ++ y ∷ [])) e.0 ∙ take-append_seam xs (y ∷ [])))
  ]

  pub appended : AreStructs xs i → IsIndex j.tags → j.tags.names.items ≡ i.tags.names.items ++ tag_of y ∷ [] → j.sizes.items ≡ i.sizes.items ++ s ∷ []
      → ((names : Names) → AreApart names → s ≡ declared_size names (map (item_of names) xs) y) → AreStructs (xs ++ y ∷ []) j
  appended d tagged tags sizes size = record {
    tags = tags ∙ ap (λ l. l ++ tag_of y ∷ []) d.tags ∙ sym (map-append tag_of xs (y ∷ []));
    tagged = tagged;
    even =
        let f : length i.sizes.items ≡ length xs = d.even in
        ap length sizes ∙ length-append i.sizes.items (s ∷ []) ∙ ap (λ n. n + 1) f ∙ sym (length-append xs (y ∷ []));
    sized = size_pushed d sizes size;
  }
