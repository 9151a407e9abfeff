-- The first waiter of a queue, found by its number.
use Rattle.std.proofs.Common.{◌≡◌, ℕ, true, false, cond, List, [], ◌∷◌, inl, inr, refl, sym, ap, ◌∙◌, arith}
use Rattle.std.specs.Option.{option_to_list}
use Rattle.std.specs.List.{AllByRecursion}
use Rattle.std.specs.List.Sorted.{IsStrictlySortedBy}
use Rattle.std.specs.Map.{keys_of, lookup, remove_entry}
use Rattle.std.specs.BTreeMap.{is_at}
use Rattle.std.specs.Cmp.{IsTotalOrder}
use Rattle.std.specs.Ordering.{nat_cmp, is_eq}
use Rattle.std.specs.declared.cmp.Ordering.{Ordering}
use Rattle.std.specs.declared.cmp.Ordering.TheVariants.{Less, Greater}
use Rattle.std.proofs.lemmas.Bool.Decides.{nat_tests}
use Rattle.std.proofs.lemmas.Map.Keys.{sorted_head, sorted_tail}
use Rattle.cpc_base.specs.Waiting.{first_passing, without_first}
use Rattle.cpc_base.proofs.Truth.{true_or_false}
use Rattle.cpc_agenda_queues.specs.Queued.{numbers_in, waiting_of, waits_in}
use Rattle.cpc_agenda_queues.proofs.NumberLemmas.{same_tests}
use Rattle.cpc_agenda_queues.proofs.QueueLemmas.{numbers_same, test_flip, at_itself}

apart : (m n : ℕ) → nat_cmp m n ≡ Less → is_at (nat_cmp n) m ≡ false
apart m n h = let l : nat_cmp n m ≡ Greater = grind (arith, nat_tests) in ap is_eq l

module _ {K T : Type 0} (cmp : K → K → Ordering) where
  -- a number below all is below those of a queue
  head_below : (m : ℕ) (k : K) (es : List (ℕ × (K × T))) → AllByRecursion (λ y. nat_cmp m y ≡ Less) (keys_of es) → (n : ℕ) (rest : List ℕ) → numbers_in cmp k es ≡ n ∷ rest → nat_cmp m n ≡ Less
  head_below m k [] a n rest h = cc
  head_below m k (e ∷ es) a n rest h = elim (true_or_false (is_at (cmp k) e.1.0)) [
    | inl t ↦ (let g : e.0 ∷ numbers_in cmp k es ≡ n ∷ rest = rw t at h in let s : e.0 ≡ n = cc in ap (nat_cmp m) (sym s) ∙ a.0)
    | inr f ↦ (let g : numbers_in cmp k es ≡ n ∷ rest = rw f at h in head_below m k es a.1 n rest g)
  ]

  -- the first waiter of a queue has its first number
  pub first_found : (k : K) (n : ℕ) (rest : List ℕ) (es : List (ℕ × (K × T))) → IsStrictlySortedBy nat_cmp (keys_of es) → numbers_in cmp k es ≡ n ∷ rest
      → option_to_list (lookup (is_at (nat_cmp n)) es) ≡ first_passing (waits_in cmp k) (waiting_of es)
  first_found k n rest [] s h = cc
  first_found k n rest (e ∷ es) s h = elim (true_or_false (is_at (cmp k) e.1.0)) [
    | inl t ↦ (let g : e.0 ∷ numbers_in cmp k es ≡ n ∷ rest = rw t at h in let u : is_at (nat_cmp n) e.0 ≡ true = ap (λ m. is_at (nat_cmp m) e.0) (sym (the e.0 n g)) ∙ at_itself e.0 in rw (t, u) refl)
    | inr f ↦ (let g : numbers_in cmp k es ≡ n ∷ rest = rw f at h in let u : is_at (nat_cmp n) e.0 ≡ false = apart e.0 n (head_below e.0 k es (sorted_head nat_cmp e.0 (keys_of es) s) n rest g) in
        rw (f, u) (first_found k n rest es (sorted_tail nat_cmp e.0 (keys_of es) s) g))
  ]
    where
      the : (m n : ℕ) → m ∷ numbers_in cmp k es ≡ n ∷ rest → m ≡ n
      the m n g = cc

  -- and the others are left without that number
  pub first_left : (k : K) (n : ℕ) (rest : List ℕ) (es : List (ℕ × (K × T))) → IsStrictlySortedBy nat_cmp (keys_of es) → numbers_in cmp k es ≡ n ∷ rest
      → waiting_of (remove_entry (is_at (nat_cmp n)) es) ≡ without_first (waits_in cmp k) (waiting_of es)
  first_left k n rest [] s h = cc
  first_left k n rest (e ∷ es) s h = elim (true_or_false (is_at (cmp k) e.1.0)) [
    | inl t ↦ (let g : e.0 ∷ numbers_in cmp k es ≡ n ∷ rest = rw t at h in let u : is_at (nat_cmp n) e.0 ≡ true = ap (λ m. is_at (nat_cmp m) e.0) (sym (the e.0 n g)) ∙ at_itself e.0 in rw (t, u) refl)
    | inr f ↦ (let g : numbers_in cmp k es ≡ n ∷ rest = rw f at h in let u : is_at (nat_cmp n) e.0 ≡ false = apart e.0 n (head_below e.0 k es (sorted_head nat_cmp e.0 (keys_of es) s) n rest g) in
        rw (f, u) (ap (λ ws. e.1 ∷ ws) (first_left k n rest es (sorted_tail nat_cmp e.0 (keys_of es) s) g)))
  ]
    where
      the : (m n : ℕ) → m ∷ numbers_in cmp k es ≡ n ∷ rest → m ≡ n
      the m n g = cc

module _ {K T : Type 0} {cmp : K → K → Ordering} (laws : IsTotalOrder cmp) where
  -- each queue keeps its numbers, but for the one that left
  pub numbers_left : (k q : K) (n : ℕ) (rest : List ℕ) (es : List (ℕ × (K × T))) → IsStrictlySortedBy nat_cmp (keys_of es) → numbers_in cmp k es ≡ n ∷ rest
      → numbers_in cmp q (remove_entry (is_at (nat_cmp n)) es) ≡ cond (is_at (cmp k) q) rest (numbers_in cmp q es)
  numbers_left k q n rest [] s h = cc
  numbers_left k q n rest (e ∷ es) s h = elim (true_or_false (is_at (cmp k) e.1.0)) [
    | inl t ↦ (let g : e.0 ∷ numbers_in cmp k es ≡ n ∷ rest = rw t at h in let u : is_at (nat_cmp n) e.0 ≡ true = ap (λ m. is_at (nat_cmp m) e.0) (sym (the e.0 n g)) ∙ at_itself e.0 in
        rw u (elim (true_or_false (is_at (cmp k) q)) [
          | inl b ↦ rw b (sym (numbers_same laws k q b es) ∙ left e.0 n g)
          | inr b ↦ (let v : is_at (cmp q) e.1.0 ≡ false = test_flip laws q e.1.0 ∙ sym (same_tests laws k e.1.0 t q) ∙ b in rw (b, v) refl)
        ]))
    | inr f ↦ (let g : numbers_in cmp k es ≡ n ∷ rest = rw f at h in let u : is_at (nat_cmp n) e.0 ≡ false = apart e.0 n (head_below cmp e.0 k es (sorted_head nat_cmp e.0 (keys_of es) s) n rest g) in
        let i = numbers_left k q n rest es (sorted_tail nat_cmp e.0 (keys_of es) s) g in
        rw u (elim (true_or_false (is_at (cmp k) q)) [
          | inl b ↦ (let v : is_at (cmp q) e.1.0 ≡ false = sym (same_tests laws k q b e.1.0) ∙ f in rw (b, v) (i ∙ ap (λ c. cond c rest (numbers_in cmp q es)) b))
          | inr b ↦ (let j : numbers_in cmp q (remove_entry (is_at (nat_cmp n)) es) ≡ numbers_in cmp q es = i ∙ ap (λ c. cond c rest (numbers_in cmp q es)) b in
              rw b (elim (true_or_false (is_at (cmp q) e.1.0)) [ inl v ↦ rw v (ap (λ ns. e.0 ∷ ns) j) | inr v ↦ rw v j ]))
        ]))
  ]
    where
      the : (m n : ℕ) → m ∷ numbers_in cmp k es ≡ n ∷ rest → m ≡ n
      the m n g = cc

      left : (m n : ℕ) → m ∷ numbers_in cmp k es ≡ n ∷ rest → numbers_in cmp k es ≡ rest
      left m n g = cc
