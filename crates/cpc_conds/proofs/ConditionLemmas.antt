-- Queues by condition, and what contracts see of them.
use Rattle.std.proofs.Common.{◌≡◌, ℕ, ◌+◌, ◌<◌, Bool, true, false, List, [], ◌∷◌, ◌++◌, map, inl, inr, refl, sym, ap, ◌∙◌, arith}
use Rattle.std.specs.Prelude.{◌==◌, ◌↔◌}
use Rattle.std.specs.Option.{option_map}
use Rattle.std.specs.List.{AllByRecursion, list_any}
use Rattle.std.specs.List.Sorted.{IsStrictlySortedBy}
use Rattle.std.specs.BTreeMap.{is_at}
use Rattle.std.specs.Ordering.{nat_cmp, is_eq}
use Rattle.std.specs.declared.cmp.Ordering.TheVariants.{Less}
use Rattle.std.proofs.lemmas.List.{map-append}
use Rattle.std.proofs.lemmas.Bool.Decides.{nat_tests}
use Rattle.std.proofs.lemmas.Map.Keys.{sorted_head, sorted_tail}
use Rattle.cpc_base.specs.Waiting.{OnCondition, waits_on, without_first, without}
use Rattle.cpc_base.proofs.Truth.{true_or_false, same_number, order_above}
use Rattle.cpc_agenda_queues.specs.Queued as Q
use Rattle.cpc_agenda_queues.specs.Queued.{Queued, first_of, put_key}
use Rattle.cpc_agenda_queues.proofs.SeenLemmas.{first_map, without_map, any_same}
use Rattle.cpc_conds.specs.Conditions as M
use Rattle.cpc_conds.specs.Conditions.{waiter_of, conditions_of, AreMade}

pub live_is : {T : Type 0} (c made : ℕ) (q : Queued ℕ T) → list_any (is_at (nat_cmp c)) q.keys ≡ M.is_live c (conditions_of q made)
live_is c made q = any_same (is_at (nat_cmp c)) (λ n. n == c) (same_number c) q.keys

pub first_is : {T : Type 0} (c made : ℕ) (q : Queued ℕ T) → map waiter_of (Q.first_in nat_cmp c q) ≡ M.first_waiter c (conditions_of q made)
first_is {T} c made q = first_map waiter_of (Q.waits_in nat_cmp c) (waits_on c) (λ w. same_number c w.0) q.waiting

pub item_is : {T : Type 0} (c made : ℕ) (q : Queued ℕ T) → option_map Q.item_of (first_of (Q.first_in nat_cmp c q)) ≡ option_map M.item_of (first_of (M.first_waiter c (conditions_of q made)))
item_is {T} c made q = go (Q.first_in nat_cmp c q) ∙ ap (λ ws. option_map M.item_of (first_of ws)) (first_is c made q)
  where
    go : (ws : List (ℕ × T)) → option_map Q.item_of (first_of ws) ≡ option_map M.item_of (first_of (map waiter_of ws))
    go [] = refl
    go (w ∷ ws) = refl

pub nobody_is : {T : Type 0} (c made : ℕ) (q : Queued ℕ T) → (Q.first_in nat_cmp c q ≡ []) ↔ M.NobodyWaits c (conditions_of q made)
nobody_is {T} c made q = (λ h. sym (first_is c made q) ∙ ap (map waiter_of) h, λ h. go (Q.first_in nat_cmp c q) (first_is c made q ∙ h))
  where
    go : (ws : List (ℕ × T)) → map waiter_of ws ≡ [] → ws ≡ []
    go [] h = refl
    go (w ∷ ws) h = cc

pub taken_is : {T : Type 0} (c made : ℕ) (q : Queued ℕ T) → conditions_of (Q.take_first nat_cmp c q) made ≡ M.take_first c (conditions_of q made)
taken_is {T} c made q =
    let see : List (OnCondition T) → M.Conditions T = λ ws. record { waiters = ws; live = q.keys; made = made; arrived = q.arrived } in
    ap see (without_map waiter_of (Q.waits_in nat_cmp c) (waits_on c) (λ w. same_number c w.0) q.waiting)

pub waited_is : {T : Type 0} (c made : ℕ) (x : T) (q : Queued ℕ T) → conditions_of (Q.wait c x q) made ≡ M.wait c x (conditions_of q made)
waited_is {T} c made x q =
    let see : List (OnCondition T) → M.Conditions T = λ ws. record { waiters = ws; live = q.keys; made = made; arrived = q.arrived + 1 } in
    ap see (map-append waiter_of q.waiting ((c, x) ∷ []))

-- ---- the conditions that are live

below : (n m : ℕ) → m < n → nat_cmp m n ≡ Less
below n m l = grind (arith, nat_tests)

put_last : (n : ℕ) (ms : List ℕ) → AllByRecursion (λ m. m < n) ms → put_key nat_cmp n ms ≡ ms ++ n ∷ []
put_last n [] h = refl
put_last n (m ∷ ms) h = rw (order_above n m h.0) (ap (λ ks. m ∷ ks) (put_last n ms h.1))

pub not_made : (n : ℕ) (ms : List ℕ) → AllByRecursion (λ m. m < n) ms → list_any (is_at (nat_cmp n)) ms ≡ false
not_made n [] h = refl
not_made n (m ∷ ms) h = rw (order_above n m h.0) (not_made n ms h.1)

pub made_is : {T : Type 0} (made : ℕ) (q : Queued ℕ T) → AreMade q.keys made → conditions_of (Q.open_key nat_cmp made q) (made + 1) ≡ M.make (conditions_of q made)
made_is {T} made q h =
    let see : List ℕ → M.Conditions T = λ ks. record { waiters = map waiter_of q.waiting; live = ks; made = made + 1; arrived = q.arrived } in
    ap see (put_last made q.keys h.0)

all_last : (P : ℕ → Type 0) (n : ℕ) (ms : List ℕ) → AllByRecursion P ms → P n → AllByRecursion P (ms ++ n ∷ [])
all_last P n [] h p = (p, tt)
all_last P n (m ∷ ms) h p = (h.0, all_last P n ms h.1 p)

all_more : (n : ℕ) (ms : List ℕ) → AllByRecursion (λ m. m < n) ms → AllByRecursion (λ m. m < n + 1) ms
all_more n [] h = tt
all_more n (m ∷ ms) h = (omega (arith, h.0), all_more n ms h.1)

sorted_last : (n : ℕ) (ms : List ℕ) → AllByRecursion (λ m. m < n) ms → IsStrictlySortedBy nat_cmp ms → IsStrictlySortedBy nat_cmp (ms ++ n ∷ [])
unfolding IsStrictlySortedBy
sorted_last n [] h s = (tt, tt)
sorted_last n (m ∷ ms) h s = (all_last (λ y. nat_cmp m y ≡ Less) n ms s.0 (below n m h.0), sorted_last n ms h.1 s.1)

pub AreMade-more : (n : ℕ) (ms : List ℕ) → AreMade ms n → AreMade (put_key nat_cmp n ms) (n + 1)
AreMade-more n ms h = rw (put_last n ms h.0) (all_last (λ m. m < n + 1) n ms (all_more n ms h.0) (omega arith), sorted_last n ms h.0 h.1)

all_less : (P : ℕ → Type 0) (test : ℕ → Bool) (ms : List ℕ) → AllByRecursion P ms → AllByRecursion P (without_first test ms)
all_less P test [] h = tt
all_less P test (m ∷ ms) h = elim (true_or_false (test m)) [ inl t ↦ rw t h.1 | inr f ↦ rw f (h.0, all_less P test ms h.1) ]

sorted_less : (test : ℕ → Bool) (ms : List ℕ) → IsStrictlySortedBy nat_cmp ms → IsStrictlySortedBy nat_cmp (without_first test ms)
unfolding IsStrictlySortedBy
sorted_less test [] s = tt
sorted_less test (m ∷ ms) s = elim (true_or_false (test m)) [ inl t ↦ rw t s.1 | inr f ↦ rw f (all_less (λ y. nat_cmp m y ≡ Less) test ms s.0, sorted_less test ms s.1) ]

pub AreMade-less : (c n : ℕ) (ms : List ℕ) → AreMade ms n → AreMade (Q.drop_key nat_cmp c ms) n
AreMade-less c n ms h = (all_less (λ m. m < n) (is_at (nat_cmp c)) ms h.0, sorted_less (is_at (nat_cmp c)) ms h.1)

-- above all, no number is left out
none_without : (c : ℕ) (ms : List ℕ) → AllByRecursion (λ y. nat_cmp c y ≡ Less) ms → without (λ n. n == c) ms ≡ ms
none_without c [] h = refl
none_without c (m ∷ ms) h = let e : (m == c) ≡ false = sym (same_number c m) ∙ ap is_eq h.0 in rw e (ap (λ ks. m ∷ ks) (none_without c ms h.1))

dropped : (c : ℕ) (ms : List ℕ) → IsStrictlySortedBy nat_cmp ms → Q.drop_key nat_cmp c ms ≡ without (λ n. n == c) ms
dropped c [] s = refl
dropped c (m ∷ ms) s = elim (true_or_false (m == c)) [
  | inl t ↦ (let u : is_at (nat_cmp c) m ≡ true = same_number c m ∙ t in let e : m ≡ c = grind (arith, nat_tests) in
      rw (t, u) (sym (none_without c ms (head e))))
  | inr f ↦ (let u : is_at (nat_cmp c) m ≡ false = same_number c m ∙ f in rw (f, u) (ap (λ ks. m ∷ ks) (dropped c ms (sorted_tail nat_cmp m ms s))))
]
  where
    head : m ≡ c → AllByRecursion (λ y. nat_cmp c y ≡ Less) ms
    head e = rw e at (sorted_head nat_cmp m ms s)

pub released_is : {T : Type 0} (c made : ℕ) (q : Queued ℕ T) → AreMade q.keys made → conditions_of (Q.close_key nat_cmp c q) made ≡ M.release c (conditions_of q made)
released_is {T} c made q h =
    let see : List ℕ → M.Conditions T = λ ks. record { waiters = map waiter_of q.waiting; live = ks; made = made; arrived = q.arrived } in
    ap see (dropped c q.keys h.1)
