-- A chain whose values are seen as other values is a chain of those.
use Rattle.std.proofs.Common.{◌≡◌, ℕ, zero, suc, Bool, true, false, List, [], ◌∷◌, length, Option, Some, None, cond, refl, ap, ◌∙◌}
use Rattle.cpc_parser_reading.specs.Reading.{Reading, Read, Fault, Deep, ◌>>=◌}
use Rattle.cpc_parser_reading.specs.Chain.{Linking, linked_by, linked, links}

module _ {T C A A' B : Type 0} (f : A → A') (l : Linking T C A B) (m : Linking T C A' B) (class : (v : A) (t : T) → l.class v t ≡ m.class (f v) t) (make : (c : C) (v : A) (w : B) → f (l.make c v w) ≡ m.make c (f v) w)
    (full : (c : C) (h : ℕ) → l.full c h ≡ m.full c h) (part : (c : C) (ts : List T) → l.part c ts ≡ m.part c ts) (nest : (c : C) (h j : ℕ) → l.nest c h j ≡ m.nest c h j) where
  seen : Reading T A → Reading T A'
  seen (Read x) = Read (f x.0, x.1, x.2)
  seen (Fault left) = Fault left
  seen (Deep left) = Deep left

  SeenFor : ℕ → Type 0
  SeenFor n = (v : A) (h : ℕ) (ts : List T) → seen (linked l n v h ts) ≡ linked m n (f v) h ts

  seen_on : (n : ℕ) → SeenFor n → (c : C) (v : A) (h : ℕ) (r : Reading T B)
      → seen (r >>= λ x. linked l n (l.make c v x.0) (l.nest c h x.1) x.2) ≡ (r >>= λ x. linked m n (m.make c (f v) x.0) (m.nest c h x.1) x.2)
  unfolding seen SeenFor
  seen_on n ih c v h (Read x) = ih (l.make c v x.0) (l.nest c h x.1) x.2 ∙ (ap (λ w. linked m n w (l.nest c h x.1) x.2) (make c v x.0) ∙ ap (λ j. linked m n (m.make c (f v) x.0) j x.2) (nest c h x.1))
  seen_on n ih c v h (Fault left) = refl
  seen_on n ih c v h (Deep left) = refl

  seen_full : (n : ℕ) → SeenFor n → (c : C) (v : A) (h : ℕ) (ts : List T) (b : Bool)
      → seen (cond b (Deep ts) (l.part c ts >>= λ x. linked l n (l.make c v x.0) (l.nest c h x.1) x.2)) ≡ cond b (Deep ts) (m.part c ts >>= λ x. linked m n (m.make c (f v) x.0) (m.nest c h x.1) x.2)
  unfolding seen
  seen_full n ih c v h ts true = refl
  seen_full n ih c v h ts false = seen_on n ih c v h (l.part c ts) ∙ ap (λ r. r >>= λ x. linked m n (m.make c (f v) x.0) (m.nest c h x.1) x.2) (part c ts)

  seen_by : (n : ℕ) → SeenFor n → (v : A) (h : ℕ) (t : T) (rest : List T) (o : Option C)
      → seen (linked_by l (λ w i us. linked l n w i us) v h t rest o) ≡ linked_by m (λ w i us. linked m n w i us) (f v) h t rest o
  unfolding seen
  seen_by n ih v h t rest None = refl
  seen_by n ih v h t rest (Some c) =
      seen_full n ih c v h (t ∷ rest) (l.full c h) ∙ ap (λ b. cond b (Deep (t ∷ rest)) (m.part c (t ∷ rest) >>= λ x. linked m n (m.make c (f v) x.0) (m.nest c h x.1) x.2)) (full c h)

  seen_linked : (n : ℕ) → SeenFor n
  unfolding linked seen SeenFor
  seen_linked zero v h ts = refl
  seen_linked (suc n) v h [] = refl
  seen_linked (suc n) v h (t ∷ rest) = seen_by n (seen_linked n) v h t rest (l.class v t) ∙ ap (λ o. linked_by m (λ w i us. linked m n w i us) (f v) h t rest o) (class v t)

  seen_is : (r : Reading T A) → (r >>= λ x. Read (f x.0, x.1, x.2)) ≡ seen r
  unfolding seen
  seen_is (Read x) = refl
  seen_is (Fault left) = refl
  seen_is (Deep left) = refl

  -- the other chain
  pub links_seen : (v : A) (h : ℕ) (ts : List T) → (links l v h ts >>= λ x. Read (f x.0, x.1, x.2)) ≡ links m (f v) h ts
  unfolding links SeenFor
  links_seen v h ts = seen_is (linked l (suc (length ts)) v h ts) ∙ seen_linked (suc (length ts)) v h ts
