-- The slots of a call, one variable after the other.
use Rattle.std.proofs.Common.{◌≡◌, ℕ, zero, suc, ◌+◌, ◌<◌, ◌≤◌, Bool, List, [], ◌∷◌, ◌++◌, length, map, get_or, drop, Some, None, Option, refl, sym, ap, ◌∙◌, add-one, append_assoc, append-nil}
use Rattle.std.specs.Prelude.{slice_set}
use Rattle.std.proofs.Math.Seq.{set-append_seam}
use Rattle.std.proofs.lemmas.List.{drop_more, drop_all, drop-map}
use Rattle.cpc_tree.specs.Syntax.{Ty, Program, Function, Variable}
use Rattle.cpc_tree.specs.Lists.{first_or, rest_of}
use Rattle.cpc_tree.specs.Typing.{size}
use Rattle.cpc_store.specs.Store.{Value, Unset, Store}
use Rattle.cpc_meaning.specs.Answer.{Answer, Gives, Faults, NoAnswer, ◌>>=◌, needed}
use Rattle.cpc_meaning.specs.Eval as E
use Rattle.cpc_meaning.specs.Slots.{make_slot, make_slots}
use Rattle.cpc_tree.specs.Registers.{is_register}
use Rattle.cpc_eval_variables.specs.Kept.{kept_from}
use Rattle.cpc_native_frames.specs.Made.{make_kept}

-- a slot before others
abbrev pair : E.Slot → List E.Slot × Store → Answer (List E.Slot × Store)
pair slot x = Gives (slot ∷ x.0, x.1)

-- slots after others
abbrev after : List E.Slot → Answer (List E.Slot × Store) → Answer (List E.Slot × Store)
after front (Gives r) = Gives (front ++ r.0, r.1)
after front (Faults f) = Faults f
after front NoAnswer = NoAnswer

-- slots that are made after these
abbrev pub make_on : Program → List E.Slot → List (Ty × Bool) → List Value → Store → Answer (List E.Slot × Store)
make_on p front ks vs s = after front (make_kept p ks vs s)

pub on_none : (p : Program) (ks : List (Ty × Bool)) (vs : List Value) (s : Store) (a : List E.Slot × Store) → make_kept p ks vs s ≡ Gives a → make_on p [] ks vs s ≡ Gives a
on_none p ks vs s a e = ap (after []) e

pub on_end : (p : Program) (front : List E.Slot) (vs : List Value) (s : Store) (a : List E.Slot × Store) → make_on p front [] vs s ≡ Gives a → (front, s) ≡ a
on_end p front vs s a e =
    let k : (front ++ [], s) ≡ a = cc in
    ap (λ (l : List E.Slot). (l, s)) (sym (append-nil front)) ∙ k

-- one more variable, whose size is known since all is made
shifted : (front : List E.Slot) (slot : E.Slot) (r : Answer (List E.Slot × Store)) (a : List E.Slot × Store)
    → after front (r >>= pair slot) ≡ Gives a → after (front ++ slot ∷ []) r ≡ Gives a
shifted front slot (Gives q) a e = ap (λ (l : List E.Slot). Gives (l, q.1)) (append_assoc front (slot ∷ []) q.0) ∙ e
shifted front slot (Faults f) a e = absurd cc
shifted front slot NoAnswer a e = absurd cc

with_size : (p : Program) (front : List E.Slot) (k : Ty × Bool) (ks : List (Ty × Bool)) (vs : List Value) (s t : Store) (slot : E.Slot) (a : List E.Slot × Store) (o : Option ℕ)
    → ((n : ℕ) → o ≡ Some n → (slot, t) ≡ make_slot k.1 n (first_or Unset vs) s)
    → after front (needed o >>= (λ cells. Gives (make_slot k.1 cells (first_or Unset vs) s) >>= (λ q. make_kept p ks (rest_of vs) q.1 >>= pair q.0))) ≡ Gives a
    → after (front ++ slot ∷ []) (make_kept p ks (rest_of vs) t) ≡ Gives a
with_size p front k ks vs s t slot a None made e = absurd cc
with_size p front k ks vs s t slot a (Some n) made e =
    shifted front slot (make_kept p ks (rest_of vs) t) a
    (ap (λ (q : E.Slot × Store). after front (make_kept p ks (rest_of vs) q.1 >>= pair q.0)) (made n refl) ∙ e)

pub on_more : (p : Program) (front : List E.Slot) (k : Ty × Bool) (ks : List (Ty × Bool)) (vs : List Value) (s t : Store) (slot : E.Slot) (a : List E.Slot × Store)
    → ((n : ℕ) → size p k.0 ≡ Some n → (slot, t) ≡ make_slot k.1 n (first_or Unset vs) s) → make_on p front (k ∷ ks) vs s ≡ Gives a → make_on p (front ++ slot ∷ []) ks (rest_of vs) t ≡ Gives a
on_more p front k ks vs s t slot a made e = with_size p front k ks vs s t slot a (size p k.0) made e

-- the rest of a list
rest_is : {X : Type 0} (xs : List X) (i : ℕ) → rest_of (drop i xs) ≡ drop (suc i) xs
rest_is [] zero = refl
rest_is [] (suc i) = refl
rest_is (x ∷ xs) zero = refl
rest_is (x ∷ xs) (suc i) = rest_is xs i

pub rest_drop : {X : Type 0} (xs : List X) (i : ℕ) → rest_of (drop i xs) ≡ drop (i + 1) xs
rest_drop xs i = rest_is xs i ∙ ap (λ n. drop n xs) (sym (add-one i))

pub first_past : {X Y : Type 0} (f : X → Y) (d : Y) (xs : List X) (i : ℕ) → length xs ≤ i → d ≡ first_or d (drop i (map f xs))
first_past f d xs i h = sym (ap (first_or d) (drop-map f i xs ∙ ap (map f) (drop_all i xs h)))

pub next_at : {X Y : Type 0} (f : X → Y) (xs : List X) (i : ℕ) (x : X) → i < length xs → x ≡ get_or xs i x → drop i (map f xs) ≡ f x ∷ drop (i + 1) (map f xs)
next_at f xs i x h e =
    drop-map f i xs ∙ (ap (map f) (drop_more xs i x h)
    ∙ (ap (λ y. f y ∷ map f (drop (i + 1) xs)) (sym e) ∙ ap (λ ys. f x ∷ ys) (sym (drop-map f (i + 1) xs))))

pub none_at : {X Y : Type 0} (f : X → Y) (xs : List X) (i : ℕ) → length xs ≤ i → drop i (map f xs) ≡ []
none_at f xs i h = drop-map f i xs ∙ ap (map f) (drop_all i xs h)

-- a place that was kept for an element
pub pushed_set : {X : Type 0} (xs : List X) (i : ℕ) (x y : X) → length xs ≡ i → slice_set (xs ++ x ∷ []) i y ≡ xs ++ y ∷ []
pushed_set xs i x y e = ap (λ n. slice_set (xs ++ x ∷ []) n y) (sym e) ∙ set-append_seam xs x [] y

-- ---- by the variables of a function

binds : (r q : Answer (List E.Slot × Store)) (slot : E.Slot) → r ≡ q → (r >>= pair slot) ≡ (q >>= pair slot)
binds r q slot e = ap (λ (y : Answer (List E.Slot × Store)). y >>= pair slot) e

sized : (p : Program) (f : Function) (n : ℕ) (x : Variable) (xs : List Variable) (vs : List Value) (s : Store) (o : Option ℕ)
    → ((t : Store) → make_kept p (kept_from f (suc n) xs) (rest_of vs) t ≡ make_slots p f (suc n) xs (rest_of vs) t)
    → (needed o >>= (λ cells. Gives (make_slot (is_register f n x) cells (first_or Unset vs) s) >>= (λ q. make_kept p (kept_from f (suc n) xs) (rest_of vs) q.1 >>= pair q.0)))
    ≡ (needed o >>= (λ cells. Gives (make_slot (is_register f n x) cells (first_or Unset vs) s) >>= (λ q. make_slots p f (suc n) xs (rest_of vs) q.1 >>= pair q.0)))
sized p f n x xs vs s None h = refl
sized p f n x xs vs s (Some m) h = binds _ _ (make_slot (is_register f n x) m (first_or Unset vs) s).0 (h (make_slot (is_register f n x) m (first_or Unset vs) s).1)

pub kept_slots : (p : Program) (f : Function) (n : ℕ) (xs : List Variable) (vs : List Value) (s : Store) → make_kept p (kept_from f n xs) vs s ≡ make_slots p f n xs vs s
kept_slots p f n [] vs s = refl
kept_slots p f n (x ∷ xs) vs s = sized p f n x xs vs s (size p x.type) (λ t. kept_slots p f (suc n) xs (rest_of vs) t)

-- the argument of a variable
pub first_index : {X Y : Type 0} (f : X → Y) (d : Y) (xs : List X) (i : ℕ) (x : X) → i < length xs → f (get_or xs i x) ≡ first_or d (drop i (map f xs))
first_index f d xs i x h = sym (ap (first_or d) (drop-map f i xs ∙ ap (map f) (drop_more xs i x h)))
