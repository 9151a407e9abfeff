-- What an index has as items come into scope and leave it.
use Rattle.std.proofs.Common.{◌≡◌, ℕ, zero, suc, inl, inr, ◌⊎◌, subst, ◌+◌, ◌<◌, ◌≤◌, ◌==◌, if◌then◌else◌, List, [], ◌∷◌, ◌++◌, length, get_or, set, take, reverse, Option, Some, None, refl, ap, sym, ◌∙◌, arith, length-append, length-set}
use Rattle.std.specs.Prelude.{slice_get}
use Rattle.std.proofs.lemmas.List.{reverse-append, length-reverse, take_more, length-take-le, take-append-le, get_or-set_same, get_or-set_other, get_or_push, get_or_append_left}
use Rattle.std.proofs.lemmas.Option.{get_or_from_slice_get, slice_get_within, slice_get_read}
use Rattle.cpc_base.specs.declared.names.Name.{Name}
use Rattle.std.proofs.lemmas.Bool.Decides.{nat_tests}
use Rattle.std.proofs.lemmas.Grind.{common_steps}
use Rattle.cpc_shapes.specs.Indexed.{is_name, latest, last_below, AreLinked}

-- the first items and one more, the last one first
pub one_more : {A : Type 0} (xs : List A) (n : ℕ) (x : A) → slice_get xs n ≡ Some x → reverse (take (n + 1) xs) ≡ x ∷ reverse (take n xs)
one_more xs n x e =
    let h : n < length xs = slice_get_within xs n x e in
    let g : get_or xs n x ≡ x = get_or_from_slice_get xs n x x e in
    ap reverse (take_more xs n x h ∙ ap (λ y. take n xs ++ y ∷ []) g) ∙ reverse-append (take n xs) (x ∷ [])

how_many : {A : Type 0} (xs : List A) (n : ℕ) → n ≤ length xs → length (reverse (take n xs)) ≡ n
how_many xs n h = length-reverse (take n xs) ∙ length-take-le n xs h

-- the last item that declares a name, where one more item is in scope
pub below_next : (ks : List (Option Name)) (n x : ℕ) (k : Option Name) → slice_get ks n ≡ Some k → last_below (n + 1) ks x ≡ (if is_name x k then Some n else last_below n ks x)
below_next ks n x k e =
    let h : n < length ks = slice_get_within ks n k e in
    let g : length (reverse (take n ks)) ≡ n = how_many ks n (omega arith) in
    ap (latest x) (one_more ks n k e) ∙ ap (λ m. if is_name x k then Some m else last_below n ks x) g

-- what an item of a list is, by the element that was read
pub read_at : {A : Type 0} (xs : List A) (n : ℕ) (v x : A) → n < length xs → v ≡ get_or xs n v → v ≡ x → slice_get xs n ≡ Some x
read_at xs n v x h e is = slice_get_read xs (length xs) n v refl h e ∙ ap Some is

-- an element of a list with one more at its end
pub pushed_at : {A : Type 0} (xs : List A) (y : A) (j : ℕ) (x : A) → slice_get (xs ++ y ∷ []) j ≡ Some x → (slice_get xs j ≡ Some x) ⊎ ((j ≡ length xs) × (y ≡ x))
pushed_at [] y zero x e = inr (refl, cc)
pushed_at [] y (suc j) x e = cc
pushed_at (z ∷ zs) y zero x e = inl e
pushed_at (z ∷ zs) y (suc j) x e = elim (pushed_at zs y j x e) [ inl h ↦ inl h | inr h ↦ inr (ap suc h.0, h.1) ]

below_pushed : (ks : List (Option Name)) (k : Option Name) (n x : ℕ) → n ≤ length ks → last_below n (ks ++ k ∷ []) x ≡ last_below n ks x
below_pushed ks k n x h = ap (λ ys. latest x (reverse ys)) (take-append-le n ks (k ∷ []) h)

module _ (ks : List (Option Name)) (bs ls : List (Option ℕ)) (n : ℕ) where
  -- an item that declares no name comes into scope
  pub forward_none : AreLinked ks bs ls n → slice_get ks n ≡ Some None → AreLinked ks bs ls (n + 1)
  forward_none a e = record {
    within = let h : n < length ks = slice_get_within ks n None e in omega arith;
    even = a.even;
    room = a.room;
    at = λ x. a.at x ∙ sym (below_next ks n x None e);
    earlier = a.earlier;
  }

  at_forward : (y : Name) → AreLinked ks bs ls n → slice_get ks n ≡ Some (Some y) → (x : ℕ) → get_or (set ls y.0 (Some n)) x None ≡ (if y.0 == x then Some n else last_below n ks x)
  at_forward y a e x =
      let h : y.0 < length ls = a.room n y e in
      let g : get_or ls x None ≡ last_below n ks x = a.at x in
      grind (arith, nat_tests, get_or-set_same ls y.0 (Some n) None h, get_or-set_other ls y.0 x (Some n) None)

  -- an item that declares a name comes into scope
  pub forward_some : (y : Name) → AreLinked ks bs ls n → slice_get ks n ≡ Some (Some y) → AreLinked ks bs (set ls y.0 (Some n)) (n + 1)
  forward_some y a e = record {
    within = let h : n < length ks = slice_get_within ks n (Some y) e in omega arith;
    even = a.even;
    room = λ k x h. rw length-set (a.room k x h);
    at = λ x. at_forward y a e x ∙ sym (below_next ks n x (Some y) e);
    earlier = a.earlier;
  }

  -- an item that declares no name leaves
  pub back_none : AreLinked ks bs ls (n + 1) → slice_get ks n ≡ Some None → AreLinked ks bs ls n
  back_none a e = record {
    within = let h : n < length ks = slice_get_within ks n None e in omega arith;
    even = a.even;
    room = a.room;
    at = λ x. a.at x ∙ below_next ks n x None e;
    earlier = a.earlier;
  }

  at_back : (y : Name) → AreLinked ks bs ls (n + 1) → slice_get ks n ≡ Some (Some y) → (x : ℕ) → get_or (set ls y.0 (get_or bs n None)) x None ≡ last_below n ks x
  at_back y a e x =
      let h : y.0 < length ls = a.room n y e in
      let g : get_or ls x None ≡ (if y.0 == x then Some n else last_below n ks x) = a.at x ∙ below_next ks n x (Some y) e in
      let f : get_or bs n None ≡ last_below n ks y.0 = a.earlier n y e in
      grind (arith, nat_tests, get_or-set_same ls y.0 (get_or bs n None) None h, get_or-set_other ls y.0 x (get_or bs n None) None)

  -- an item that declares a name leaves
  pub back_some : (y : Name) → AreLinked ks bs ls (n + 1) → slice_get ks n ≡ Some (Some y) → AreLinked ks bs (set ls y.0 (get_or bs n None)) n
  back_some y a e = record {
    within = let h : n < length ks = slice_get_within ks n (Some y) e in omega arith;
    even = a.even;
    room = λ k x h. rw length-set (a.room k x h);
    at = at_back y a e;
    earlier = a.earlier;
  }

  -- the same, by what was read of it
  pub back_read : (y : Name) (v : Option ℕ) (m : ℕ) → m ≡ n + 1 → v ≡ get_or bs n v → AreLinked ks bs ls m → slice_get ks n ≡ Some (Some y) → AreLinked ks bs (set ls y.0 v) n
  back_read y v m is e a h =
      let P : ℕ → Type 0 = AreLinked ks bs ls in
      let b = subst P is a in
      let f : n < length ks = slice_get_within ks n (Some y) h in
      let g : length bs ≡ length ks = a.even in
      let d : get_or bs n None ≡ v = get_or_from_slice_get bs n v None (read_at bs n v v (omega arith) e refl) in
      let Q : Option ℕ → Type 0 = λ u. AreLinked ks bs (set ls y.0 u) n in
      subst Q d (back_some y b h)

  at_room : AreLinked ks bs ls n → (x : ℕ) → get_or (ls ++ None ∷ []) x None ≡ last_below n ks x
  at_room a x = let g : get_or ls x None ≡ last_below n ks x = a.at x in grind (arith, common_steps)

  -- room for one more name
  pub more_room : AreLinked ks bs ls n → AreLinked ks bs (ls ++ None ∷ []) n
  more_room a = record {
    within = a.within;
    even = a.even;
    room = λ k x h. let g : x.0 < length ls = a.room k x h in rw length-append (omega arith);
    at = at_room a;
    earlier = a.earlier;
  }

  -- room for one more name, and with it the item that declares it
  pub pushed : (k : Option Name) (b : Option ℕ) → AreLinked ks bs ls n → n ≡ length ks → ((x : Name) → k ≡ Some x → (x.0 < length ls) × (b ≡ last_below n ks x.0)) → AreLinked (ks ++ k ∷ []) (bs ++ b ∷ []) ls n
  pushed k b a all new = record {
    within = rw length-append (omega arith);
    even = let e : length bs ≡ length ks = a.even in rw (length-append bs, length-append ks) (omega arith);
    room = λ j x h. elim (pushed_at ks k j (Some x) h) [
      | inl e ↦ a.room j x e
      | inr e ↦ (new x e.1).0
    ];
    at = λ x. a.at x ∙ sym (below_pushed ks k n x (omega arith));
    earlier = λ j x h. elim (pushed_at ks k j (Some x) h) [
      | inl e ↦
          let g : j < length ks = slice_get_within ks j (Some x) e in
          let f : length bs ≡ length ks = a.even in
          get_or_append_left bs (b ∷ []) None j (omega arith) ∙ a.earlier j x e ∙ sym (below_pushed ks k j x.0 (omega arith))
      | inr e ↦
          let f : length bs ≡ length ks = a.even in
          let g : length bs ≡ j = f ∙ sym e.0 in
          let m : j ≡ n = e.0 ∙ sym all in
          get_or_push bs b None j g ∙ (new x e.1).1 ∙ sym (ap (λ i. last_below i ks x.0) m) ∙ sym (below_pushed ks k j x.0 (omega arith))
    ];
  }

-- the first items and the next
pub next_item : {A : Type 0} (xs : List A) (n : ℕ) (x : A) → n < length xs → x ≡ get_or xs n x → take (n + 1) xs ≡ take n xs ++ x ∷ []
next_item xs n x h e = take_more xs n x h ∙ ap (λ y. take n xs ++ y ∷ []) (sym e)
