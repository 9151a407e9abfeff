-- Lists by their elements, and bounds of the numbers that the forms list.
use Rattle.std.proofs.Common.{◌≡◌, ◌<◌, ◌+◌, ℕ, zero, suc, Bool, true, false, cond, List, [], ◌∷◌, length, slice_get, Option, Some, None, arith, refl, sym, ap, subst, ◌∙◌}
use Rattle.std.specs.List.{All}
use Rattle.std.proofs.lemmas.List.Elements.{All-nil, All-cons, All-head, All-tail}
use Rattle.std.proofs.lemmas.Option.{slice_get_within}
use Rattle.cpc_tree.specs.Lists.{holds_number}
use Rattle.cpc_forms.specs.Flow.{Place, Start, Flow, owner_of, owner_by}
use Rattle.cpc_forms.specs.Pieces.{is_owned_by}
use Rattle.cpc_forms.specs.Split.{owners_from, owner_or}
use Rattle.cpc_lift_laws.specs.Search.{Link, keepers, closure_from}
use Rattle.cpc_convert_routines.specs.Routines.{owner_number}
use Rattle.cpc_forms.specs.Spread.{known as owner_at}
use Rattle.cpc_convert_needs_laws.proofs.Marks.{IsBelow}

-- ---- elements

-- what each element is, all are
pub all_by : {A : Type 0} (P : A → Type 0) (xs : List A) → ((k : ℕ) (x : A) → slice_get xs k ≡ Some x → P x) → All P xs
all_by P [] f = All-nil P
all_by P (x ∷ xs) f = All-cons P x xs (f 0 x refl) (all_by P xs (λ k y e. f (suc k) y e))

-- what all are, each element is
pub each_of : {A : Type 0} (P : A → Type 0) (xs : List A) → All P xs → (k : ℕ) (x : A) → slice_get xs k ≡ Some x → P x
each_of P [] all k x e = absurd (cc)
each_of P (y ∷ xs) all zero x e = let h : y ≡ x = cc in subst P h (All-head P y xs all)
each_of P (y ∷ xs) all (suc k) x e = each_of P xs (All-tail P y xs all) k x e

-- ---- owners

-- what is owned is there
pub own_below : (l : Place) (os : List (Option Place)) (n : ℕ) (o : Option (Option Place)) → slice_get os n ≡ o → is_owned_by l (owner_at o) ≡ true → n < length os
own_below l os n None e h = absurd (cc)
own_below l os n (Some x) e h = slice_get_within os n x e

owner_small : (b : Bool) (k : ℕ) → owner_number (owner_by b Start 0) < suc (suc k)
owner_small true k = omega arith
owner_small false k = omega arith

-- the owner of the first node is the start or that node
pub first_owner : (flow : Flow) (b : Bool) (size entry : ℕ) → entry ≡ 0 → 0 < size → owner_of flow 0 ≡ Some (owner_by b Start 0) → owner_number (owner_or Start (slice_get (owners_from flow 0 size) entry)) < suc size
first_owner flow b zero entry e lt o = absurd (omega (arith, lt))
first_owner flow b (suc k) entry e lt o =
    let g : owner_or Start (slice_get (owners_from flow 0 (suc k)) entry) ≡ owner_by b Start 0 = ap (λ n. owner_or Start (slice_get (owners_from flow 0 (suc k)) n)) e ∙ ap (λ x. owner_or Start (Some x)) o in
    subst (λ x. owner_number x < suc (suc k)) (sym g) (owner_small b k)

-- ---- closures

if_kept : (b : ℕ) (c : Bool) (n : ℕ) (ns : List ℕ) → n < b → All (IsBelow b) ns → All (IsBelow b) (cond c (n ∷ ns) ns)
if_kept b true n ns h all = All-cons (IsBelow b) n ns h all
if_kept b false n ns h all = all

pub closure_below : (ways uses : List Link) (l b k n : ℕ) → k + n ≡ b → All (IsBelow b) (closure_from ways uses l k n)
closure_below ways uses l b k zero e = All-nil (IsBelow b)
closure_below ways uses l b k (suc n) e =
    if_kept b (holds_number (keepers ways uses k) l) k (closure_from ways uses l (suc k) n) (omega (arith, e)) (closure_below ways uses l b (suc k) n (omega (arith, e)))
