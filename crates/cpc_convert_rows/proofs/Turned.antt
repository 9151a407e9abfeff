-- The nodes of a piece in their order.
use Rattle.std.proofs.Common.{◌≡◌, ℕ, zero, suc, ◌+◌, ◌<◌, ◌==◌, ◌||◌, ◌&&◌, not, nat_lt, nat_le, if◌then◌else◌, Bool, true, false, List, [], ◌∷◌, ◌++◌, length, get_or, drop, slice_get, All, Option, refl, sym, ◌∙◌, ap, subst, arith}
use Rattle.std.proofs.lemmas.List.{append_assoc}
use Rattle.std.proofs.Math.Seq.{drop-cons}
use Rattle.cpc_base.proofs.Truth.{eq_means, eq_reflexive, or_with_false, and_with_true, le_reflexive}
use Rattle.cpc_tree.specs.Lists.{holds_number}
use Rattle.cpc_forms.specs.Flow.{Place}
use Rattle.cpc_forms.specs.Pieces.{is_owned_by, owned_from, without, fronted, first_of}
use Rattle.cpc_forms.specs.Split.{Split, number_if}
use Rattle.cpc_convert_routines.specs.Routines.{Routine, number_before, chosen}
use Rattle.cpc_chains_event.specs.Rows.{number_where, owner_at, reached, onwards_all}
use Rattle.cpc_convert_routines.specs.Nodes.{turned, is_own, has_row, rows_nodes}
use Rattle.cpc_convert_rows.specs.Marks.{AreMarked}
use Rattle.cpc_convert_rows.proofs.Marking.{unequal}

pub before_where : (b : Bool) (n : ℕ) (rest : List ℕ) → number_before b n rest ≡ number_where b n ++ rest
before_where true n rest = refl
before_where false n rest = refl

-- those that are left, behind one more
pub chosen_left : (test : ℕ → Bool) (ns : List ℕ) (i : ℕ) (all new : List ℕ) → i < length ns → new ≡ all ++ number_where (test (get_or ns i 0)) (get_or ns i 0)
    → new ++ chosen test (drop (i + 1) ns) ≡ all ++ chosen test (drop i ns)
chosen_left test ns i all new lt e =
    let step : suc i ≡ i + 1 = omega arith in
    let n = get_or ns i 0 in
    ap (λ r. r ++ chosen test (drop (i + 1) ns)) e
    ∙ (append_assoc all (number_where (test n) n) (chosen test (drop (i + 1) ns))
    ∙ ap (λ r. all ++ r) (ap (λ k. number_where (test n) n ++ chosen test (drop k ns)) (sym step)
    ∙ (sym (before_where (test n) n (chosen test (drop (suc i) ns))) ∙ ap (chosen test) (sym (drop-cons ns i 0 lt)))))

-- ---- what an owner owns

pub holds_if : (b : Bool) (n : ℕ) (rest : List ℕ) (k : ℕ) → holds_number (number_if b n rest) k ≡ ((b && (n == k)) || holds_number rest k)
holds_if true n rest k = refl
holds_if false n rest k = refl

-- no number below the first is there
owned_above : (l : Place) (n : ℕ) (os : List (Option Place)) (k : ℕ) → k < n → holds_number (owned_from l n os) k ≡ false
owned_above l n [] k lt = refl
owned_above l n (o ∷ os) k lt =
    let rest = owned_above l (suc n) os k (omega arith) in
    let ne : ¬ (n ≡ k) = λ e. absurd (omega (arith, e, lt)) in
    holds_if (is_owned_by l o) n (owned_from l (suc n) os) k ∙ (ap (λ b. (is_owned_by l o && b) || holds_number (owned_from l (suc n) os) k) (unequal n k ne) ∙ (ap (λ b. (is_owned_by l o && false) || b) rest ∙ go (is_owned_by l o)))
  where
    go : (b : Bool) → ((b && false) || false) ≡ false
    go true = refl
    go false = refl

-- a number is there where its owner is l
owned_holds : (l : Place) (n : ℕ) (os : List (Option Place)) (j : ℕ) → holds_number (owned_from l n os) (n + j) ≡ is_owned_by l (owner_at (slice_get os j))
owned_holds l n [] j = refl
owned_holds l n (o ∷ os) zero =
    let z : n + 0 ≡ n = omega arith in
    ap (holds_number (number_if (is_owned_by l o) n (owned_from l (suc n) os))) z
    ∙ (holds_if (is_owned_by l o) n (owned_from l (suc n) os) n ∙ (ap (λ b. (is_owned_by l o && b) || holds_number (owned_from l (suc n) os) n) (eq_reflexive n)
    ∙ (ap (λ b. (is_owned_by l o && true) || b) (owned_above l (suc n) os n (omega arith)) ∙ (or_with_false (is_owned_by l o && true) ∙ and_with_true (is_owned_by l o)))))
owned_holds l n (o ∷ os) (suc j) =
    let s : suc n + j ≡ n + suc j = omega arith in
    let ne : ¬ (n ≡ n + suc j) = λ e. absurd (omega (arith, e)) in
    holds_if (is_owned_by l o) n (owned_from l (suc n) os) (n + suc j)
    ∙ (ap (λ b. (is_owned_by l o && b) || holds_number (owned_from l (suc n) os) (n + suc j)) (unequal n (n + suc j) ne)
    ∙ (go (is_owned_by l o) (holds_number (owned_from l (suc n) os) (n + suc j)) ∙ (ap (holds_number (owned_from l (suc n) os)) (sym s) ∙ owned_holds l (suc n) os j)))
  where
    go : (b x : Bool) → ((b && false) || x) ≡ x
    go true x = refl
    go false x = refl

pub owned_are : (l : Place) (os : List (Option Place)) (j : ℕ) → holds_number (owned_from l 0 os) j ≡ is_owned_by l (owner_at (slice_get os j))
owned_are l os j = let z : 0 + j ≡ j = omega arith in ap (holds_number (owned_from l 0 os)) (sym z) ∙ owned_holds l 0 os j

-- ---- the order

filter_in : (a : ℕ → Bool) (t : Bool) (n : ℕ) (rest : List ℕ) → chosen a (number_before t n rest) ≡ number_before (a n && t) n (chosen a rest)
filter_in a true n rest = ap (λ b. number_before b n (chosen a rest)) (sym (and_with_true (a n)))
filter_in a false n rest = go (a n)
  where
    go : (b : Bool) → chosen a rest ≡ number_before (b && false) n (chosen a rest)
    go true = refl
    go false = refl

le_is : (m n : ℕ) → (n == m) ≡ false → nat_le m n ≡ nat_lt m n
le_is m n e = grind (arith, e)

lt_self : (m : ℕ) → nat_lt m m ≡ false
lt_self m = grind arith

without_none : (m : ℕ) (ns : List ℕ) → holds_number ns m ≡ false → without m ns ≡ ns
without_none m [] e = refl
without_none m (n ∷ ns) e = go (n == m) (holds_number ns m) refl e (λ h. without_none m ns h)
  where
    go : (a b : Bool) → holds_number ns m ≡ b → (a || b) ≡ false → (holds_number ns m ≡ false → without m ns ≡ ns) → number_if (not a) n (without m ns) ≡ n ∷ ns
    go true b j h rest = absurd (cc)
    go false true j h rest = absurd (cc)
    go false false j h rest = ap (λ r. n ∷ r) (rest j)

module _ (test : ℕ → Bool) (m : ℕ) where
  -- those of which a test holds, but not of the first
  others : (a c : ℕ → Bool) → ((n : ℕ) → (n == m) ≡ false → a n ≡ c n) → c m ≡ false → (ns : List ℕ) → chosen a (chosen test (without m ns)) ≡ chosen (λ n. c n && test n) ns
  others a c agree self [] = refl
  others a c agree self (n ∷ ns) = go (n == m) refl (others a c agree self ns)
    where
      go : (b : Bool) → (n == m) ≡ b → chosen a (chosen test (without m ns)) ≡ chosen (λ k. c k && test k) ns
          → chosen a (chosen test (number_if (not b) n (without m ns))) ≡ number_before (c n && test n) n (chosen (λ k. c k && test k) ns)
      go true e rest = rest ∙ sym (ap (λ b. number_before (b && test n) n (chosen (λ k. c k && test k) ns)) (ap c (eq_means n m e) ∙ self))
      go false e rest =
          filter_in a (test n) n (chosen test (without m ns))
          ∙ (ap (λ b. number_before (b && test n) n (chosen a (chosen test (without m ns)))) (agree n e) ∙ ap (number_before (c n && test n) n) rest)

  behind : (ns : List ℕ) → chosen (λ n. nat_le m n) (chosen test (without m ns)) ≡ chosen (λ n. nat_lt m n && test n) ns
  behind ns = others (λ n. nat_le m n) (λ n. nat_lt m n) (λ n e. le_is m n e) (lt_self m) ns

  ahead : (ns : List ℕ) → chosen (λ n. nat_lt n m) (chosen test (without m ns)) ≡ chosen (λ n. nat_lt n m && test n) ns
  ahead ns = others (λ n. nat_lt n m) (λ n. nat_lt n m) (λ n e. refl) (lt_self m) ns

  -- the order that code makes
  abbrev pub in_order : Bool → List ℕ → List ℕ
  in_order b ns = (number_where (b && test m) m ++ chosen (λ n. nat_lt m n && test n) ns) ++ chosen (λ n. nat_lt n m && test n) ns

  front : (b : Bool) (ys : List ℕ) → turned m (number_before b m ys) ≡ (number_where b m ++ chosen (λ n. nat_le m n) ys) ++ chosen (λ n. nat_lt n m) ys
  front true ys = ap (λ b. number_before b m (chosen (λ n. nat_le m n) ys) ++ number_before (nat_lt m m) m (chosen (λ n. nat_lt n m) ys)) (le_reflexive m) ∙ ap (λ b. (m ∷ chosen (λ n. nat_le m n) ys) ++ number_before b m (chosen (λ n. nat_lt n m) ys)) (lt_self m)
  front false ys = refl

  pub turned_by : (ns : List ℕ) → turned m (chosen test (fronted m ns)) ≡ in_order (holds_number ns m) ns
  turned_by ns = go (holds_number ns m) refl
    where
      both : (xs : List ℕ) → (xs ++ chosen (λ n. nat_le m n) (chosen test (without m ns))) ++ chosen (λ n. nat_lt n m) (chosen test (without m ns)) ≡ (xs ++ chosen (λ n. nat_lt m n && test n) ns) ++ chosen (λ n. nat_lt n m && test n) ns
      both xs = ap (λ y. (xs ++ y) ++ chosen (λ n. nat_lt n m) (chosen test (without m ns))) (behind ns) ∙ ap (λ y. (xs ++ chosen (λ n. nat_lt m n && test n) ns) ++ y) (ahead ns)

      go : (b : Bool) → holds_number ns m ≡ b → turned m (chosen test (if b then m ∷ without m ns else ns)) ≡ in_order b ns
      go true e = front (test m) (chosen test (without m ns)) ∙ both (number_where (test m) m)
      go false e = ap (λ xs. turned m (chosen test xs)) (sym (without_none m ns e)) ∙ both []

-- what code adds, one after the other, are the nodes that have rows
pub ordered : (s : Split) (l : Place) (m : ℕ) (b : Bool) (owned a d e f : List ℕ) → m ≡ first_of s l → owned ≡ owned_from l 0 s.owners → b ≡ (is_own s l m && has_row s m)
    → a ≡ [] → d ≡ a ++ number_where b m → e ≡ d ++ chosen (λ n. nat_lt m n && has_row s n) owned → f ≡ e ++ chosen (λ n. nat_lt n m && has_row s n) owned → f ≡ rows_nodes s l
ordered s l m b owned a d e f first own so i j k h =
    let test = has_row s in
    let ns = owned_from l 0 s.owners in
    let start : d ≡ number_where (is_own s l m && test m) m = j ∙ (ap (λ xs. xs ++ number_where b m) i ∙ ap (λ c. number_where c m) so) in
    h ∙ (ap (λ xs. xs ++ chosen (λ n. nat_lt n m && test n) owned) (k ∙ ap (λ xs. xs ++ chosen (λ n. nat_lt m n && test n) owned) start)
    ∙ (ap (in_order test m (is_own s l m)) own ∙ (ap (λ c. in_order test m c ns) (sym (owned_are l s.owners m))
    ∙ (sym (turned_by test m ns) ∙ ap (λ n. turned n (chosen test (fronted n ns))) first))))

-- one leader more
pub leader_more : (l : Place) (r : Routine) (marks : List ℕ) (nodes leaders all new : List ℕ) (i count : ℕ) (b : Bool)
    → (length marks ≡ count) → All (λ n. n < count) leaders → i < length leaders
    → nodes ≡ rows_nodes r.split l → AreMarked marks (first_of r.split l ∷ onwards_all r nodes)
    → ((ns : List ℕ) → AreMarked marks ns → get_or leaders i 0 < length marks → b ≡ (holds_number ns (get_or leaders i 0) && not (is_own r.split l (get_or leaders i 0))))
    → new ≡ all ++ number_where b (get_or leaders i 0)
    → new ++ chosen (λ n. holds_number (reached r l) n && not (is_own r.split l n)) (drop (i + 1) leaders) ≡ all ++ chosen (λ n. holds_number (reached r l) n && not (is_own r.split l n)) (drop i leaders)
leader_more l r marks nodes leaders all new i count b long led lt are marked is e =
    let n = get_or leaders i 0 in
    let within : n < length marks = omega (arith, led i 0 lt, long) in
    let here : AreMarked marks (reached r l) = subst (λ x. AreMarked marks (first_of r.split l ∷ onwards_all r x)) are marked in
    chosen_left (λ n. holds_number (reached r l) n && not (is_own r.split l n)) leaders i all new lt (e ∙ ap (λ c. all ++ number_where c n) (is (reached r l) here within))

-- the same, where code sees the marks and the leaders as slices
pub leader_seen : (l : Place) (r : Routine) (ms marks : List ℕ) (nodes ls leaders all new : List ℕ) (i count : ℕ) (b : Bool) → ms ≡ marks → ls ≡ leaders
    → (length marks ≡ count) → All (λ n. n < count) leaders → i < length leaders
    → nodes ≡ rows_nodes r.split l → AreMarked marks (first_of r.split l ∷ onwards_all r nodes)
    → ((ns : List ℕ) → AreMarked ms ns → get_or ls i 0 < length ms → b ≡ (holds_number ns (get_or ls i 0) && not (is_own r.split l (get_or ls i 0))))
    → new ≡ all ++ number_where b (get_or ls i 0)
    → new ++ chosen (λ n. holds_number (reached r l) n && not (is_own r.split l n)) (drop (i + 1) leaders) ≡ all ++ chosen (λ n. holds_number (reached r l) n && not (is_own r.split l n)) (drop i leaders)
leader_seen l r ms marks nodes ls leaders all new i count b em el long led lt are marked is e =
    leader_more l r marks nodes leaders all new i count b long led lt are marked
    (subst (λ x. (ns : List ℕ) → AreMarked marks ns → get_or x i 0 < length marks → b ≡ (holds_number ns (get_or x i 0) && not (is_own r.split l (get_or x i 0)))) el
    (subst (λ y. (ns : List ℕ) → AreMarked y ns → get_or ls i 0 < length y → b ≡ (holds_number ns (get_or ls i 0) && not (is_own r.split l (get_or ls i 0)))) em is))
    (e ∙ ap (λ x. all ++ number_where b (get_or x i 0)) el)
