-- Lists that begin with the same kind of token, and what stops before them.
use Rattle.std.proofs.Common.{◌≡◌, ℕ, List, [], ◌∷◌, ◌++◌, refl, sym, subst}
use Rattle.cpc_parser_reading.specs.Exact.{SameHead, Stops, Opens}

module _ {T K : Type 0} (kind : T → K) where
  -- what stops before a token stops before one of its kind
  pub stops_same : (Q : K → Type 0) (ts us : List T) → SameHead kind ts us → Stops kind Q ts → Stops kind Q us
  stops_same Q [] [] s q = tt
  stops_same Q [] (u ∷ us) s q = absurd s
  stops_same Q (t ∷ ts) [] s q = absurd s
  stops_same Q (t ∷ ts) (u ∷ us) s q = subst Q s q

  -- where each kind is permitted
  pub stops_all : (Q : K → Type 0) → ((k : K) → Q k) → (ts : List T) → Stops kind Q ts
  stops_all Q all [] = tt
  stops_all Q all (t ∷ ts) = all (kind t)

  -- what may stand there, in weaker words
  pub stops_as : (Q P : K → Type 0) → ((k : K) → Q k → P k) → (ts : List T) → Stops kind Q ts → Stops kind P ts
  stops_as Q P to [] s = tt
  stops_as Q P to (t ∷ ts) s = to (kind t) s

  -- a list has the head that it has
  pub same_self : (ts : List T) → SameHead kind ts ts
  same_self [] = tt
  same_self (t ∷ ts) = refl

  -- behind the same front
  pub same_front : (front ts us : List T) → SameHead kind ts us → SameHead kind (front ++ ts) (front ++ us)
  same_front [] ts us s = s
  same_front (t ∷ front) ts us s = refl

  -- what is left behind the same front has the same head
  pub same_behind : (rest front left other : List T) → rest ≡ front ++ left → SameHead kind left other → SameHead kind rest (front ++ other)
  same_behind rest front left other e s = subst (λ u. SameHead kind u (front ++ other)) (sym e) (same_front front left other s)

-- what is open in one grammar is so in another that has its lists
pub opens_as : {T A : Type 0} {R R' : List T → A → ℕ → Type 0} {d : ℕ} {front : List T} → ((f : List T) (v : A) (h : ℕ) → R f v h → R' f v h) → Opens R d front → Opens R' d front
opens_as {front = front} to o = record { rest = o.rest; value = o.value; nest = o.nest; reads = to (front ++ o.rest) o.value o.nest o.reads; fits = o.fits }
