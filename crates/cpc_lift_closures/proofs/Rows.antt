-- Rows of links: one link more goes into its row.
use Rattle.std.proofs.Common.{◌≡◌, ◌==◌, ◌<◌, ◌+◌, suc, ℕ, Bool, true, false, List, [], ◌∷◌, ◌++◌, cond, map, length, get_or, set, drop, refl, sym, ◌∙◌, ap, arith}
use Rattle.std.proofs.lemmas.List.{get_or-map, get_or-set_same, get_or-set_other, length-set, append_assoc}
use Rattle.std.proofs.Math.Seq.{drop-cons}
use Rattle.cpc_base.proofs.Truth.{eq_means, eq_not_means}
use Rattle.cpc_lift_laws.specs.Search as S
use Rattle.cpc_lift_closures.specs.declared.links.Link.{Link}
use Rattle.cpc_lift_closures.specs.Rows.{links_of}

-- what is left at a place below the end
pub links_left : (links : List Link) (i : ℕ) (d : Link) → i < length links → links_of (drop i links) ≡ record { from = (get_or links i d).from; to = (get_or links i d).to } ∷ links_of (drop (i + 1) links)
links_left links i d lt = ap links_of (drop-cons links i d lt) ∙ (let e : suc i ≡ i + 1 = omega arith in ap (λ n. record { from = (get_or links i d).from; to = (get_or links i d).to } ∷ links_of (drop n links)) e)

module _ {X : Type 0} (items : X → List ℕ) where
  -- a link goes into its row, and the others stay
  pub link_added : (rows : List X) (from to : ℕ) (rest : List S.Link) (old new : X) (m : ℕ) → to < length rows → m < length rows → old ≡ get_or rows to old → items new ≡ items old ++ from ∷ []
      → get_or (map items (set rows to new)) m [] ++ S.before rest m ≡ get_or (map items rows) m [] ++ S.before (record { from = from; to = to } ∷ rest) m
  link_added rows from to rest old new m lt lm e f = go (m == to) refl
    where
      at_new : get_or (map items (set rows to new)) m [] ≡ items (get_or (set rows to new) m new)
      at_new = get_or-map items (set rows to new) m new [] (omega (arith, lm, length-set rows to new))

      go : (b : Bool) → (m == to) ≡ b → get_or (map items (set rows to new)) m [] ++ S.before rest m ≡ get_or (map items rows) m [] ++ cond b (from ∷ S.before rest m) (S.before rest m)
      go true i =
          let q = eq_means m to i in
          let here : get_or (map items (set rows to new)) m [] ≡ items old ++ from ∷ [] =
          at_new ∙ ap (λ n. items (get_or (set rows to new) n new)) q ∙ ap items (get_or-set_same rows to new new lt) ∙ f in
          let before : get_or (map items rows) m [] ≡ items old = get_or-map items rows m old [] lm ∙ ap (λ n. items (get_or rows n old)) q ∙ ap items (sym e) in
          ap (λ r. r ++ S.before rest m) here ∙ append_assoc (items old) (from ∷ []) (S.before rest m) ∙ ap (λ r. r ++ from ∷ S.before rest m) (sym before)
      go false i =
          ap (λ r. r ++ S.before rest m) (at_new ∙ ap items (get_or-set_other rows to m new new (eq_not_means m to i)) ∙ sym (get_or-map items rows m new [] lm))
