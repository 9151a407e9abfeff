-- Each number of a piece has one row.
use Rattle.std.proofs.Common.{◌≡◌, ℕ, Bool, true, false, ◌||◌, ◌==◌, List, [], ◌∷◌, ◌++◌, map, refl, sym, ◌∙◌, ap, subst}
use Rattle.cpc_base.proofs.Truth.{eq_reflexive, eq_means, or_by_second}
use Rattle.cpc_tree.specs.Lists.{holds_number}
use Rattle.cpc_tree.specs.Syntax.{Function, Program}
use Rattle.cpc_forms.specs.Flow.{Place}
use Rattle.cpc_forms.specs.Pieces.{Once, AndOther}
use Rattle.cpc_convert_routines.specs.Routines.{Routine, routine_of}
use Rattle.cpc_convert_routines.specs.Nodes.{is_own}
use Rattle.cpc_chains_event.specs.Rows.{lines_by, Row, row_of, numbers_of, first_number, put_lines, PutRow, put_rows}
use Rattle.cpc_chains_event.specs.LabelLaws.{put_in}
use Rattle.cpc_chains_event.proofs.Labels.{rows_stand_once, numbers}
use Rattle.cpc_chains_laws.specs.Piece.Rows.{next_number, put_row, RowAt}
use Rattle.cpc_chains_laws.specs.Piece.Laws.{AllRowsStand}

-- the row behind is the first of those that are put behind
pub same_next : (rs : List Row) → next_number (put_rows rs) ≡ first_number rs
same_next [] = refl
same_next (r ∷ rs) = refl

module _ (p : Program) (r : Routine) (l : Place) where
  -- rows of these numbers
  abbrev pub rows : List ℕ → List PutRow
  rows ns = put_rows (map (row_of p r l) ns)

  pub rows_numbers : (ns : List ℕ) → numbers (rows ns) ≡ ns
  rows_numbers [] = refl
  rows_numbers (n ∷ ns) = ap (λ ms. n ∷ ms) (rows_numbers ns)

  -- the row of one of them
  row_in : (ns : List ℕ) (n : ℕ) → holds_number ns n ≡ true → (front : List PutRow) × (back : List PutRow) × (rows ns ≡ front ++ put_row p r l n back ∷ back)
  row_in [] n h = absurd (cc)
  row_in (m ∷ ns) n h = go (m == n) refl h (λ i. row_in ns n i)
    where
      this : PutRow
      this = record { number = m; puts = put_lines (first_number (map (row_of p r l) ns)) (lines_by (is_own r.split l m) p r m) }

      first : rows (n ∷ ns) ≡ put_row p r l n (rows ns) ∷ rows ns
      first = ap (λ o. record { number = n; puts = put_lines o (lines_by (is_own r.split l n) p r n) } ∷ rows ns) (sym (same_next (map (row_of p r l) ns)))

      go : (b : Bool) → (m == n) ≡ b → (b || holds_number ns n) ≡ true → (holds_number ns n ≡ true → (front : List PutRow) × (back : List PutRow) × (rows ns ≡ front ++ put_row p r l n back ∷ back))
          → (front : List PutRow) × (back : List PutRow) × (rows (m ∷ ns) ≡ front ++ put_row p r l n back ∷ back)
      go true e i deeper = ([], rows ns, ap (λ k. rows (k ∷ ns)) (eq_means m n e) ∙ first)
      go false e i deeper = let d = deeper i in (this ∷ d.0, d.1, ap (λ rs. this ∷ rs) d.2)

holds_last : (front : List PutRow) (x : PutRow) (back : List PutRow) (n : ℕ) → (x.number == n) ≡ true → holds_number (numbers (front ++ x ∷ back)) n ≡ true
holds_last [] x back n e = ap (λ b. b || holds_number (numbers back) n) e
holds_last (f ∷ front) x back n e = or_by_second (f.number == n) (holds_number (numbers (front ++ x ∷ back)) n) (holds_last front x back n e)

-- where no number stands twice, a row of a number is the only one
one_row : (front front' back back' : List PutRow) (x y : PutRow) → front ++ x ∷ back ≡ front' ++ y ∷ back' → x.number ≡ y.number → Once (numbers (front ++ x ∷ back)) → (front ≡ front') × (back ≡ back')
one_row [] [] back back' x y e i o = let z : back ≡ back' = cc in (refl, z)
one_row [] (f ∷ front') back back' x y e i (AndOther _ _ none o) =
    let z : back ≡ front' ++ y ∷ back' = cc in
    absurd (let w : true ≡ false = sym (holds_last front' y back' x.number (ap (λ n. n == x.number) (sym i) ∙ eq_reflexive x.number)) ∙ (ap (λ rs. holds_number (numbers rs) x.number) (sym z) ∙ none) in cc)
one_row (f ∷ front) [] back back' x y e i (AndOther _ _ none o) =
    let z : f ≡ y = cc in
    absurd (let w : true ≡ false = sym (holds_last front x back f.number (ap (λ (r : PutRow). x.number == r.number) z ∙ (ap (λ n. n == y.number) i ∙ eq_reflexive y.number))) ∙ none in cc)
one_row (f ∷ front) (g ∷ front') back back' x y e i (AndOther _ _ none o) =
    let z : front ++ x ∷ back ≡ front' ++ y ∷ back' = cc in
    let h : f ≡ g = cc in
    let d = one_row front front' back back' x y z i o in
    (ap (λ k. k ∷ front) h ∙ ap (λ k. g ∷ k) d.0, d.1)

module _ (p : Program) (f : Function) (l : Place) where
  all_once : (rs : List PutRow) → put_in p (routine_of p f) l ≡ rs → Once (numbers rs)
  all_once rs e = subst (λ (xs : List PutRow). Once (numbers xs)) e (subst Once (sym (rows_numbers p (routine_of p f) l (numbers_of p (routine_of p f) l))) (rows_stand_once p f l).once)

  -- rows split at a number are split at its row
  pub only_row : (m : ℕ) (b : RowAt p (routine_of p f) l m) (front back : List PutRow) (x : PutRow) → put_in p (routine_of p f) l ≡ front ++ x ∷ back → x.number ≡ m → (b.front ≡ front) × (b.back ≡ back)
  only_row m b front back x e i = one_row b.front front b.back back (put_row p (routine_of p f) l m b.back) x (sym b.is_split ∙ e) (sym i) (all_once _ b.is_split)

pub rows_stand : AllRowsStand
rows_stand p f l = record {
  row = λ n h. let d = row_in p (routine_of p f) l (numbers_of p (routine_of p f) l) n h in record { front = d.0; back = d.1; is_split = d.2 };
  one = λ n a b. only_row p f l n a b.front b.back (put_row p (routine_of p f) l n b.back) b.is_split refl;
}
