-- What is read behind a front is read well, if what goes on from there is.
use Rattle.std.proofs.Common.{◌≡◌, ℕ, List, [], ◌∷◌, ◌++◌, refl, sym, ap, subst, ◌∙◌, append_assoc}
use Rattle.cpc_parser_reading.specs.Reading.{Reading, Read, Fault, Deep, ◌>>=◌}
use Rattle.cpc_parser_reading.specs.Exact.{SameHead, Opens, Took, Good}
use Rattle.cpc_parser_reading.proofs.Heads.{same_behind}

-- From the front on F reads as G does and then by f. It stands in the grammar that what G leaves open is open behind
-- the front, and what G took is read well.
module _ {T K A B : Type 0} (kind : T → K) (F : List T → Reading T A) (R : List T → A → ℕ → Type 0) (Q : A → K → Type 0) (d : ℕ)
    (G : List T → Reading T B) (S : List T → B → ℕ → Type 0) (P : B → K → Type 0) (e : ℕ)
    (f : B × ℕ × List T → Reading T A) (front rest : List T)
    (same : (other : List T) → SameHead kind rest other → F (front ++ other) ≡ (G other >>= f))
    (opens : (g left : List T) → rest ≡ g ++ left → Opens S e g → Opens R d (front ++ g))
    (deeper : (m : ℕ) (g left : List T) → rest ≡ g ++ left → Opens S m g → (k : ℕ) × Opens R k (front ++ g))
    (taken : (x : B × ℕ × List T) → Took kind S P e rest x → Good kind F R Q d (front ++ rest) (f x)) where
  -- what G reads behind the front, F reads so from the start
  pub behind : (r : Reading T B) → Good kind G S P e rest r → Good kind F R Q d (front ++ rest) (r >>= f)
  behind (Read x) g = taken x g
  behind (Fault left) g = record {
    front = front ++ g.front;
    whole = ap (λ u. front ++ u) g.whole ∙ sym (append_assoc front g.front left);
    opens = opens g.front left g.whole g.opens;
    local = λ other s. rw (append_assoc front g.front other, same (g.front ++ other) (same_behind kind rest g.front left other g.whole s), g.local other s) refl;
  }
  behind (Deep left) g =
      let e : rest ≡ (g.front ++ g.next ∷ []) ++ g.after = g.whole ∙ (ap (λ u. g.front ++ u) g.is ∙ sym (append_assoc g.front (g.next ∷ []) g.after)) in
      let o = deeper g.most (g.front ++ g.next ∷ []) g.after e g.deeper in
      record {
        front = front ++ g.front;
        next = g.next;
        after = g.after;
        is = g.is;
        whole = ap (λ u. front ++ u) g.whole ∙ sym (append_assoc front g.front left);
        opens = opens g.front left g.whole g.opens;
        most = o.0;
        deeper = subst (λ u. Opens R o.0 u) (sym (append_assoc front g.front (g.next ∷ []))) o.1;
        local = λ other s. rw (append_assoc front g.front other, same (g.front ++ other) (same_behind kind rest g.front left other g.whole s), g.local other s) refl;
      }

read_same : {T A : Type 0} (r : Reading T A) → (r >>= λ x. Read x) ≡ r
read_same (Read x) = refl
read_same (Fault left) = refl
read_same (Deep left) = refl

-- The same, where nothing is done with what G took.
module _ {T K A : Type 0} (kind : T → K) (F : List T → Reading T A) (R : List T → A → ℕ → Type 0) (Q : A → K → Type 0) (d : ℕ)
    (G : List T → Reading T A) (S : List T → A → ℕ → Type 0) (P : A → K → Type 0) (front rest : List T)
    (same : (other : List T) → SameHead kind rest other → F (front ++ other) ≡ G other)
    (to : (m : ℕ) (g : List T) → Opens S m g → Opens R m (front ++ g))
    (taken : (x : A × ℕ × List T) → Took kind S P d rest x → Took kind R Q d (front ++ rest) x) where
  -- the same, as it stands
  pub along : (r : Reading T A) → Good kind G S P d rest r → Good kind F R Q d (front ++ rest) r
  along r g = rw (← read_same r)
      (behind kind F R Q d G S P d (λ x. Read x) front rest (λ other s. same other s ∙ sym (read_same (G other))) (λ h l e o. to d h o) (λ m h l e o. (m, to m h o)) taken r g)
