-- The queues of a map's entries, when the map changes.
use Rattle.std.proofs.Common.{◌≡◌, ℕ, Bool, true, false, cond, List, [], ◌∷◌, ◌++◌, Option, Some, None, length, suc, refl, sym, ap, ◌∙◌, arith}
use Rattle.std.specs.Prelude.{is_some, IsSome, ◌<◌, IsTrue, ◌||◌, ◌==◌, ◌↔◌}
use Rattle.std.proofs.lemmas.Bool.{false≢true}
use Rattle.std.proofs.lemmas.Bool.Decides.{nat_tests}
use Rattle.std.specs.Option.{option_map, unwrap_or, option_to_list}
use Rattle.std.specs.List.{list_any}
use Rattle.std.specs.Map.{keys_of, lookup, remove_entry}
use Rattle.std.specs.BTreeMap.{insert_entry, is_at}
use Rattle.std.specs.Ordering.{match_ordering}
use Rattle.std.specs.declared.cmp.Ordering.{Ordering}
use Rattle.std.specs.declared.cmp.Ordering.TheVariants.{Less, Equal, Greater}
use Rattle.cpc_base.specs.Waiting.{without_first}
use Rattle.cpc_agenda_queues.specs.Numbers.{queues_of, queue_at}
use Rattle.std.specs.Cmp.{IsTotalOrder}
use Rattle.std.specs.Ordering.{is_eq}
use Rattle.cpc_agenda_queues.specs.Queued.{put_key, first_of, rest_of}

-- the keys of the queues are those of the entries
pub keys_queues : {K V : Type 0} (items : V → List ℕ) (es : List (K × V)) → keys_of (queues_of items es) ≡ keys_of es
keys_queues items [] = refl
keys_queues items (e ∷ es) = ap (λ ks. e.0 ∷ ks) (keys_queues items es)

pub lookup_queues : {K V : Type 0} (items : V → List ℕ) (test : K → Bool) (es : List (K × V)) → lookup test (queues_of items es) ≡ option_map items (lookup test es)
lookup_queues items test [] = refl
lookup_queues {K} {V} items test (e ∷ es) = go (test e.0) (lookup_queues items test es)
  where
    go : (b : Bool) → lookup test (queues_of items es) ≡ option_map items (lookup test es) → cond b (Some (items e.1)) (lookup test (queues_of items es)) ≡ option_map items (cond b (Some e.1) (lookup test es))
    go true h = refl
    go false h = h

-- the queue of a key, by what the map has there
pub queue_is : {K V : Type 0} (items : V → List ℕ) (cmp : K → K → Ordering) (q : K) (es : List (K × V)) → queue_at cmp q (queues_of items es) ≡ unwrap_or (option_map items (lookup (is_at (cmp q)) es)) []
queue_is items cmp q es = ap (λ o. unwrap_or o []) (lookup_queues items (is_at (cmp q)) es)

-- where the map has another value at a key
pub queue_put : {K V : Type 0} (items : V → List ℕ) (cmp : K → K → Ordering) (q : K) (es fs : List (K × V)) (b : Bool) (w : Option V)
    → lookup (is_at (cmp q)) fs ≡ cond b w (lookup (is_at (cmp q)) es)
    → queue_at cmp q (queues_of items fs) ≡ cond b (unwrap_or (option_map items w) []) (queue_at cmp q (queues_of items es))
queue_put items cmp q es fs true w h = queue_is items cmp q fs ∙ ap (λ o. unwrap_or (option_map items o) []) h
queue_put items cmp q es fs false w h = queue_is items cmp q fs ∙ ap (λ o. unwrap_or (option_map items o) []) h ∙ sym (queue_is items cmp q es)

-- whether a key is among them, by the look-up
pub any_lookup : {K V : Type 0} (test : K → Bool) (es : List (K × V)) → list_any test (keys_of es) ≡ is_some (lookup test es)
any_lookup test [] = refl
any_lookup {K} {V} test (e ∷ es) = go (test e.0) (any_lookup test es)
  where
    go : (b : Bool) → list_any test (keys_of es) ≡ is_some (lookup test es) → b || list_any test (keys_of es) ≡ is_some (cond b (Some e.1) (lookup test es))
    go true h = refl
    go false h = h

pub keys_put : {K V : Type 0} (cmp : K → K → Ordering) (k : K) (v : V) (es : List (K × V)) → keys_of (insert_entry cmp es k v) ≡ put_key cmp k (keys_of es)
keys_put cmp k v [] = refl
keys_put {K} {V} cmp k v (e ∷ es) = go (cmp k e.0) (keys_put cmp k v es)
  where
    go : (o : Ordering) → keys_of (insert_entry cmp es k v) ≡ put_key cmp k (keys_of es)
        → keys_of (match_ordering o ((k, v) ∷ e ∷ es) ((e.0, v) ∷ es) (e ∷ insert_entry cmp es k v)) ≡ match_ordering o (k ∷ e.0 ∷ keys_of es) (e.0 ∷ keys_of es) (e.0 ∷ put_key cmp k (keys_of es))
    go Less h = refl
    go Equal h = refl
    go Greater h = ap (λ ks. e.0 ∷ ks) h

pub keys_drop : {K V : Type 0} (test : K → Bool) (es : List (K × V)) → keys_of (remove_entry test es) ≡ without_first test (keys_of es)
keys_drop test [] = refl
keys_drop {K} {V} test (e ∷ es) = go (test e.0) (keys_drop test es)
  where
    go : (b : Bool) → keys_of (remove_entry test es) ≡ without_first test (keys_of es) → keys_of (cond b es (e ∷ remove_entry test es)) ≡ cond b (keys_of es) (e.0 ∷ without_first test (keys_of es))
    go true h = refl
    go false h = ap (λ ks. e.0 ∷ ks) h

-- a list is empty where its length is 0
pub idle_is : (n : ℕ) (xs : List ℕ) → n ≡ length xs → IsTrue (n == 0) ↔ (xs ≡ [])
idle_is n [] h = rw h (λ _. refl, λ _. refl)
idle_is n (x ∷ xs) h = rw h (λ e. absurd (over e), λ e. cc)
  where
    over : IsTrue (suc (length xs) == 0) → ⊥
    over e = grind (arith, nat_tests)

equal_is : (o : Ordering) → is_eq o ≡ true → o ≡ Equal
equal_is Less h = cc
equal_is Equal h = refl
equal_is Greater h = cc

-- equal keys are equal to the same keys
pub same_tests : {K : Type 0} {cmp : K → K → Ordering} → IsTotalOrder cmp → (k q : K) → is_at (cmp k) q ≡ true → (x : K) → is_at (cmp k) x ≡ is_at (cmp q) x
same_tests {K} {cmp} laws k q h x = ap is_eq (laws.congr k q x (equal_is (cmp k q) h))

lookup_same : {K V : Type 0} (f g : K → Bool) → ((x : K) → f x ≡ g x) → (es : List (K × V)) → lookup f es ≡ lookup g es
lookup_same f g h [] = refl
lookup_same f g h (e ∷ es) = rw (h e.0, lookup_same f g h es) refl

-- equal keys have the same queue
pub queue_same : {K : Type 0} {cmp : K → K → Ordering} → IsTotalOrder cmp → (k q : K) → is_at (cmp k) q ≡ true → (ns : List (K × List ℕ)) → queue_at cmp k ns ≡ queue_at cmp q ns
queue_same {K} {cmp} laws k q h ns = ap (λ o. unwrap_or o []) (lookup_same (is_at (cmp k)) (is_at (cmp q)) (same_tests laws k q h) ns)

-- nothing is taken out of a queue in which nothing is
pub none_taken : {K : Type 0} {cmp : K → K → Ordering} → IsTotalOrder cmp → (k q : K) (ns : List (K × List ℕ)) → queue_at cmp k ns ≡ [] → queue_at cmp q ns ≡ cond (is_at (cmp k) q) (rest_of (queue_at cmp k ns)) (queue_at cmp q ns)
none_taken {K} {cmp} laws k q ns h = go (is_at (cmp k) q) (λ e. sym (queue_same laws k q e ns) ∙ h ∙ ap rest_of (sym h))
  where
    go : (b : Bool) → (b ≡ true → queue_at cmp q ns ≡ rest_of (queue_at cmp k ns)) → queue_at cmp q ns ≡ cond b (rest_of (queue_at cmp k ns)) (queue_at cmp q ns)
    go true f = f refl
    go false f = refl

-- what was first, and what is left, by one equation
pub popped : (xs ys : List ℕ) (o : Option ℕ) → xs ≡ option_to_list o ++ ys → (0 < length xs → IsSome o) → (o ≡ first_of xs) × (ys ≡ rest_of xs)
popped xs ys (Some x) e v = (ap first_of (sym e), ap rest_of (sym e))
popped [] ys None e v = (refl, sym e)
popped (x ∷ xs) ys None e v = absurd (false≢true (v (omega arith)))
