-- Waiters and queues belong together, and what contracts see of them, when both change.
use Rattle.std.proofs.Common.{◌≡◌, ℕ, ◌+◌, false, cond, List, [], ◌∷◌, ◌++◌, Option, Some, None, inl, inr, refl, sym, ap, ◌∙◌, subst}
use Rattle.std.specs.Prelude.{◌↔◌, ◌<◌, is_some}
use Rattle.std.specs.Option.{option_map, option_to_list, unwrap_or}
use Rattle.std.specs.List.{AllByRecursion, list_any}
use Rattle.std.specs.List.Sorted.{IsStrictlySortedBy}
use Rattle.std.specs.Map.{keys_of, lookup, remove_entry}
use Rattle.std.specs.BTreeMap.{is_at}
use Rattle.std.specs.Cmp.{IsTotalOrder}
use Rattle.std.specs.Ordering.{nat_cmp}
use Rattle.std.specs.declared.cmp.Ordering.{Ordering}
use Rattle.std.proofs.lemmas.List.{map-append}
use Rattle.cpc_base.specs.Waiting.{first_passing, without_first}
use Rattle.cpc_base.proofs.Truth.{true_or_false}
use Rattle.cpc_agenda_queues.specs.Numbers.{queue_at}
use Rattle.cpc_agenda_queues.specs.Queued as Q
use Rattle.cpc_agenda_queues.specs.Queued.{numbers_in, waiting_of, waits_in, queued_of, IsIndexed, first_of, rest_of, first_in, item_of, Queued}
use Rattle.cpc_agenda_queues.proofs.NumberLemmas.{any_lookup}
use Rattle.cpc_agenda_queues.proofs.QueueLemmas.{numbers_same, numbers_more, below_last, below_removed}
use Rattle.cpc_agenda_queues.proofs.FirstLemmas.{first_found, first_left, numbers_left}

-- a queue that is not there is empty
pub absent : {K : Type 0} (cmp : K → K → Ordering) (k : K) (ns : List (K × List ℕ)) → list_any (is_at (cmp k)) (keys_of ns) ≡ false → queue_at cmp k ns ≡ []
absent cmp k ns h = go (lookup (is_at (cmp k)) ns) (sym (any_lookup (is_at (cmp k)) ns) ∙ h)
  where
    go : (o : Option (List ℕ)) → is_some o ≡ false → unwrap_or o [] ≡ []
    go None e = refl
    go (Some x) e = cc

-- nobody waits where there are no numbers
pub nobody : {K T : Type 0} (cmp : K → K → Ordering) (k : K) (es : List (ℕ × (K × T))) → (numbers_in cmp k es ≡ []) ↔ (first_passing (waits_in cmp k) (waiting_of es) ≡ [])
nobody cmp k [] = (λ h. refl, λ h. refl)
nobody cmp k (e ∷ es) = elim (true_or_false (is_at (cmp k) e.1.0)) [
  | inl t ↦ rw t (λ h. cc, λ h. cc)
  | inr f ↦ rw f (nobody cmp k es)
]

-- where nobody waits, all are left
pub nobody_left : {K T : Type 0} (cmp : K → K → Ordering) (k : K) (es : List (ℕ × (K × T))) → numbers_in cmp k es ≡ [] → without_first (waits_in cmp k) (waiting_of es) ≡ waiting_of es
nobody_left cmp k [] h = refl
nobody_left cmp k (e ∷ es) h = elim (true_or_false (is_at (cmp k) e.1.0)) [
  | inl t ↦ (let g : e.0 ∷ numbers_in cmp k es ≡ [] = rw t at h in cc)
  | inr f ↦ (let g : numbers_in cmp k es ≡ [] = rw f at h in rw f (ap (λ ws. e.1 ∷ ws) (nobody_left cmp k es g)))
]

module _ {K T : Type 0} {cmp : K → K → Ordering} (laws : IsTotalOrder cmp) where
  -- one queue has other numbers: those of its waiters
  other_queue : (k : K) (es fs : List (ℕ × (K × T))) (ns ns' : List (K × List ℕ)) (ms : List ℕ)
      → ((q : K) → queue_at cmp q ns ≡ numbers_in cmp q es) → ((q : K) → queue_at cmp q ns' ≡ cond (is_at (cmp k) q) ms (queue_at cmp q ns))
      → ((q : K) → numbers_in cmp q fs ≡ cond (is_at (cmp k) q) ms (numbers_in cmp q es))
      → (q : K) → queue_at cmp q ns' ≡ numbers_in cmp q fs
  other_queue k es fs ns ns' ms i h j q = h q ∙ ap (cond (is_at (cmp k) q) ms) (i q) ∙ sym (j q)

  -- an empty queue is made or dropped
  pub IsIndexed-emptied : (k : K) (es : List (ℕ × (K × T))) (ns ns' : List (K × List ℕ)) (a : ℕ) → IsIndexed cmp es ns a → numbers_in cmp k es ≡ []
      → ((q : K) → queue_at cmp q ns' ≡ cond (is_at (cmp k) q) [] (queue_at cmp q ns)) → IsIndexed cmp es ns' a
  IsIndexed-emptied k es ns ns' a i e h = record {
    below = i.below;
    ascend = i.ascend;
    found = other_queue k es es ns ns' [] i.found h same;
  }
    where
      same : (q : K) → numbers_in cmp q es ≡ cond (is_at (cmp k) q) [] (numbers_in cmp q es)
      same q = elim (true_or_false (is_at (cmp k) q)) [ inl t ↦ rw t (sym (numbers_same laws k q t es) ∙ e) | inr f ↦ rw f refl ]

  -- the numbers stay
  pub IsIndexed-kept : (k : K) (es : List (ℕ × (K × T))) (ns ns' : List (K × List ℕ)) (a : ℕ) → IsIndexed cmp es ns a
      → ((q : K) → queue_at cmp q ns' ≡ cond (is_at (cmp k) q) (queue_at cmp k ns) (queue_at cmp q ns)) → IsIndexed cmp es ns' a
  IsIndexed-kept k es ns ns' a i h = record {
    below = i.below;
    ascend = i.ascend;
    found = other_queue k es es ns ns' (queue_at cmp k ns) i.found h same;
  }
    where
      same : (q : K) → numbers_in cmp q es ≡ cond (is_at (cmp k) q) (queue_at cmp k ns) (numbers_in cmp q es)
      same q = elim (true_or_false (is_at (cmp k) q)) [ inl t ↦ rw t (sym (numbers_same laws k q t es) ∙ sym (i.found k)) | inr f ↦ rw f refl ]

  -- one waiter more
  pub IsIndexed-more : (k : K) (x : T) (es fs : List (ℕ × (K × T))) (ns ns' : List (K × List ℕ)) (a : ℕ) → IsIndexed cmp es ns a
      → fs ≡ es ++ (a, (k, x)) ∷ [] → IsStrictlySortedBy nat_cmp (keys_of fs)
      → ((q : K) → queue_at cmp q ns' ≡ cond (is_at (cmp k) q) (queue_at cmp k ns ++ a ∷ []) (queue_at cmp q ns)) → IsIndexed cmp fs ns' (a + 1)
  IsIndexed-more k x es fs ns ns' a i e s h = record {
    below = subst (λ gs. AllByRecursion (λ e. e.0 < a + 1) gs) (sym e) (below_last a (k, x) es i.below);
    ascend = s;
    found = other_queue k es fs ns ns' (queue_at cmp k ns ++ a ∷ []) i.found h more;
  }
    where
      more : (q : K) → numbers_in cmp q fs ≡ cond (is_at (cmp k) q) (queue_at cmp k ns ++ a ∷ []) (numbers_in cmp q es)
      more q = ap (numbers_in cmp q) e ∙ numbers_more laws q k a x es ∙ elim (true_or_false (is_at (cmp k) q)) [ inl t ↦ rw t (ap (λ ms. ms ++ a ∷ []) (sym (i.found k ∙ numbers_same laws k q t es))) | inr f ↦ rw f refl ]

  -- one waiter less
  pub IsIndexed-less : (k : K) (n : ℕ) (rest : List ℕ) (es fs : List (ℕ × (K × T))) (ns ns' : List (K × List ℕ)) (a : ℕ) → IsIndexed cmp es ns a → queue_at cmp k ns ≡ n ∷ rest
      → fs ≡ remove_entry (is_at (nat_cmp n)) es → IsStrictlySortedBy nat_cmp (keys_of fs)
      → ((q : K) → queue_at cmp q ns' ≡ cond (is_at (cmp k) q) rest (queue_at cmp q ns)) → IsIndexed cmp fs ns' a
  IsIndexed-less k n rest es fs ns ns' a i w e s h = record {
    below = subst (λ gs. AllByRecursion (λ e. e.0 < a) gs) (sym e) (below_removed a (is_at (nat_cmp n)) es i.below);
    ascend = s;
    found = other_queue k es fs ns ns' rest i.found h (λ q. ap (numbers_in cmp q) e ∙ numbers_left laws k q n rest es i.ascend (sym (i.found k) ∙ w));
  }

-- ---- what contracts see

pub view_more : {K T : Type 0} (k : K) (x : T) (es fs : List (ℕ × (K × T))) (ns ns' : List (K × List ℕ)) (a : ℕ) → fs ≡ es ++ (a, (k, x)) ∷ [] → keys_of ns' ≡ keys_of ns
    → queued_of fs ns' (a + 1) ≡ Q.wait k x (queued_of es ns a)
view_more k x es fs ns ns' a e h =
    ap (λ gs. queued_of gs ns' (a + 1)) e ∙ ap (λ ws. record { waiting = ws; keys = keys_of ns'; arrived = a + 1 }) (map-append (λ e. e.1) es ((a, (k, x)) ∷ []))
    ∙ ap (λ ks. record { waiting = waiting_of es ++ (k, x) ∷ []; keys = ks; arrived = a + 1 }) h

pub view_less : {K T : Type 0} (cmp : K → K → Ordering) (k : K) (n : ℕ) (rest : List ℕ) (es fs : List (ℕ × (K × T))) (ns ns' : List (K × List ℕ)) (a : ℕ) → IsIndexed cmp es ns a → queue_at cmp k ns ≡ n ∷ rest
    → fs ≡ remove_entry (is_at (nat_cmp n)) es → keys_of ns' ≡ keys_of ns → queued_of fs ns' a ≡ Q.take_first cmp k (queued_of es ns a)
view_less cmp k n rest es fs ns ns' a i w e h =
    ap (λ gs. queued_of gs ns' a) e ∙ ap (λ ws. record { waiting = ws; keys = keys_of ns'; arrived = a }) (first_left cmp k n rest es i.ascend (sym (i.found k) ∙ w))
    ∙ ap (λ ks. record { waiting = without_first (waits_in cmp k) (waiting_of es); keys = ks; arrived = a }) h

-- nothing is seen of a queue in which nobody waits
pub view_none : {K T : Type 0} (cmp : K → K → Ordering) (k : K) (es : List (ℕ × (K × T))) (ns ns' : List (K × List ℕ)) (a : ℕ) → numbers_in cmp k es ≡ [] → keys_of ns' ≡ keys_of ns
    → queued_of es ns' a ≡ Q.take_first cmp k (queued_of es ns a)
view_none cmp k es ns ns' a e h =
    ap (λ ks. record { waiting = waiting_of es; keys = ks; arrived = a }) h ∙ ap (λ ws. record { waiting = ws; keys = keys_of ns; arrived = a }) (sym (nobody_left cmp k es e))

-- other keys have queues
pub view_keys : {K T : Type 0} (es : List (ℕ × (K × T))) (ns' : List (K × List ℕ)) (ks : List K) (a : ℕ) → keys_of ns' ≡ ks → queued_of es ns' a ≡ record { waiting = waiting_of es; keys = ks; arrived = a }
view_keys {K} {T} es ns' ks a h = let see : List K → Queued K T = λ js. record { waiting = waiting_of es; keys = js; arrived = a } in ap see h

-- ---- the first number of a queue, and its waiter

pub first_none : (xs : List ℕ) → None ≡ first_of xs → xs ≡ []
first_none [] h = refl
first_none (x ∷ xs) h = cc

pub first_some : (n : ℕ) (xs : List ℕ) → Some n ≡ first_of xs → xs ≡ n ∷ rest_of xs
first_some n [] h = cc
first_some n (x ∷ xs) h = let e : n ≡ x = cc in ap (λ m. m ∷ xs) (sym e)

pub found_item : {K T : Type 0} (cmp : K → K → Ordering) (k : K) (n : ℕ) (rest : List ℕ) (es : List (ℕ × (K × T))) (ns : List (K × List ℕ)) (a : ℕ) → IsIndexed cmp es ns a → queue_at cmp k ns ≡ n ∷ rest
    → (w : K × T) → Some w ≡ lookup (is_at (nat_cmp n)) es → Some (item_of w) ≡ option_map item_of (first_of (first_passing (waits_in cmp k) (waiting_of es)))
found_item cmp k n rest es ns a i q w h =
    ap (λ ws. option_map item_of (first_of ws)) (ap option_to_list h ∙ first_found cmp k n rest es i.ascend (sym (i.found k) ∙ q))

pub must_be : {K T : Type 0} (cmp : K → K → Ordering) (k : K) (n : ℕ) (rest : List ℕ) (es : List (ℕ × (K × T))) (ns : List (K × List ℕ)) (a : ℕ) → IsIndexed cmp es ns a → queue_at cmp k ns ≡ n ∷ rest
    → None ≡ lookup (is_at (nat_cmp n)) es → ⊥
must_be cmp k n rest es ns a i q h =
    let e : first_passing (waits_in cmp k) (waiting_of es) ≡ [] = sym (ap option_to_list h ∙ first_found cmp k n rest es i.ascend (sym (i.found k) ∙ q)) in
    let f : numbers_in cmp k es ≡ [] = (nobody cmp k es).1 e in
    let g : n ∷ rest ≡ [] = sym q ∙ i.found k ∙ f in
    cc
