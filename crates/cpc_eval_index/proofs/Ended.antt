-- The ends of a table: where they stand, and the cells of their structs.
use Rattle.std.proofs.Common.{◌≡◌, ℕ, zero, suc, ◌<◌, ◌≤◌, inl, inr, List, length, get_or, map, take, Option, Some, None, refl, ap, sym, subst, ◌∙◌, arith}
use Rattle.std.specs.Prelude.{slice_get}
use Rattle.std.proofs.lemmas.Bool.{cases_lt}
use Rattle.std.proofs.lemmas.List.{length-map, length-take-le, get_or_past}
use Rattle.std.proofs.lemmas.Option.{slice_get_within}
use Rattle.cpc_base.proofs.Lists.{found_within}
use Rattle.cpc_base.specs.declared.names.Name.{Name}
use Rattle.cpc_tree.specs.Erase.{Names}
use Rattle.cpc_tree.specs.Typing as T
use Rattle.cpc_tree.specs.declared.program.Item.{Item}
use Rattle.cpc_check_rules.specs.Apart.{AreApart}
use Rattle.cpc_shapes.specs.Counted.{tag_of}
use Rattle.cpc_eval_index.specs.declared.tables.Tables.{Tables}
use Rattle.cpc_types_structs.specs.Sized.{tag_place}
use Rattle.cpc_types_structs.specs.Structs.{AreAllStructs}
use Rattle.cpc_types_structs.specs.declared.structs.Structs.{Structs}
use Rattle.cpc_eval_index.specs.Ends.{items_before, cells_at, inner_place, end_by}
use Rattle.cpc_eval_index.specs.Tabled.{AreTables}
use Rattle.cpc_eval_index.proofs.Standing.{place_all, inner_below, inner_cells, tag_cells, last_kept, none_kept}

module _ (xs : List Item) (t : Tables) (d : AreTables xs t) where
  -- what holds of each place and itself, and of a struct and what its only field comes to, holds of each place and its end
  module _ (P : ℕ → ℕ → Type 0) (here : (k : ℕ) → P k k) (inner : (k j e : ℕ) (x : Item) → slice_get xs k ≡ Some x → inner_place (take k xs) x ≡ Some j → j < k → P j e → P k e) where
    end_at : (k : ℕ) (x : Item) → slice_get xs k ≡ Some x → ((j : ℕ) → j < k → P j (get_or t.ends.items j j)) → (o : Option ℕ) → inner_place (take k xs) x ≡ o → P k (end_by t.ends.items k o)
    end_at k x at ih None e = here k
    end_at k x at ih (Some j) e =
        let h : k < length xs = slice_get_within xs k x at in
        let f : length (take k xs) ≡ k = length-take-le k xs (omega (arith, h)) in
        let g : j < length (take k xs) = inner_below (take k xs) x j e in
        let lt : j < k = omega (arith, f, g) in
        inner k j (get_or t.ends.items j j) x at e lt (ih j lt)

    end_below : (m k : ℕ) → k < m → P k (get_or t.ends.items k k)
    end_below zero k lt = absurd (omega (arith, lt))
    end_below (suc m) k lt = elim (cases_lt k (length xs)) [
      | inl h ↦
          let r = found_within xs k h in
          subst (P k) (sym (d.ended k r.0 r.1)) (end_at k r.0 r.1 (λ j low. end_below m j (omega (arith, low, lt))) (inner_place (take k xs) r.0) refl)
      | inr h ↦
          let f : length t.ends.items ≡ length xs = d.ends in
          subst (P k) (sym (get_or_past t.ends.items k k (omega (arith, f, h)))) (here k)
    ]

    end_of : (k : ℕ) → P k (get_or t.ends.items k k)
    end_of k = end_below (suc k) k (omega arith)

  -- an end stands at its struct, or before it
  pub end_low : (k : ℕ) → get_or t.ends.items k k ≤ k
  end_low k = end_of (λ k e. e ≤ k) (λ k. omega arith) (λ k j e x at is lt h. omega (arith, lt, h)) k

  -- and has the same cells
  pub end_same : (names : Names) → AreApart names → (k : ℕ) → cells_at names xs (Some (get_or t.ends.items k k)) ≡ cells_at names xs (Some k)
  end_same names apart k = end_of (λ k e. cells_at names xs (Some e) ≡ cells_at names xs (Some k)) (λ k. refl) (λ k j e x at is lt h. h ∙ inner_cells names apart xs k j x at is) k

  module _ (s : Structs) (all : AreAllStructs xs s) (names : Names) (apart : AreApart names) (tag : Name) (n : ℕ) (le : n ≤ length xs) where
    within : length xs ≤ length (map tag_of xs)
    within = let e : length (map tag_of xs) ≡ length xs = length-map xs tag_of in omega (arith, e)

    -- the last struct of a tag, where it is among the first items
    pub cells_found : (k : ℕ) → Some k ≡ tag_place s tag → k < n → cells_at names xs (Some (get_or t.ends.items k k)) ≡ T.struct_cells (items_before names xs n) (names tag)
    cells_found k e lt =
        end_same names apart k
        ∙ ap (cells_at names xs) (sym (last_kept (map tag_of xs) tag.0 (length xs) n k within (sym (place_all xs s tag all) ∙ sym e) lt le))
        ∙ tag_cells names apart xs tag n le

    -- a tag of no struct
    pub cells_missing : None ≡ tag_place s tag → cells_at names xs None ≡ T.struct_cells (items_before names xs n) (names tag)
    cells_missing e =
        ap (cells_at names xs) (sym (none_kept (map tag_of xs) tag.0 (length xs) n within (sym (place_all xs s tag all) ∙ sym e) le))
        ∙ tag_cells names apart xs tag n le
