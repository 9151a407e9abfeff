-- Exact readers of nothing, of a token, and of a part with a token before or behind it.
use Rattle.std.proofs.Common.{◌≡◌, ℕ, Bool, true, false, List, [], ◌∷◌, Option, Some, None, refl, subst, arith, cond}
use Rattle.cpc_parser_reading.specs.Reading.{Read, Fault, nothing, one, picked, expect}
use Rattle.cpc_parser_reading.specs.Phrase.{Nothing, One, Expect}
use Rattle.cpc_parser_reading.specs.Exact.{SameHead, Stops, Any, Opens, Good, ExactAt, Exact, Sample}
use Rattle.cpc_parser_reading.proofs.Heads.{stops_all}
use Rattle.cpc_parser_reading.proofs.Keeps.{keeps_same}

-- anything may stand there
pub any_stops : {T K A : Type 0} (kind : T → K) (v : A) (ts : List T) → Stops kind (Any v) ts
any_stops kind v ts = stops_all kind (Any v) (λ k. tt) ts

-- Nothing is read exactly.
pub exact_nothing : {T K : Type 0} {kind : T → K} (n : ℕ) → Exact kind n 0 (λ d. nothing) Nothing Any
exact_nothing {kind = kind} n = record {
  sample = record { rest = []; value = tt; nest = 0; reads = (refl, refl); fits = omega arith };
  least = λ f v h r. omega arith;
  at = λ d a b. record {
    sample = record { rest = []; value = tt; nest = 0; reads = (refl, refl); fits = omega arith };
    good = λ ts. record { front = []; whole = refl; reads = (refl, refl); fits = omega arith; stops = any_stops {A = Unit {0}} kind tt ts };
    complete = λ f v h rest r fits s. rw (r.0, r.1) refl;
  };
  keeps = λ d e a b c ts. refl;
}

-- A token with a value. Tokens of one kind have values together.
module _ {T K A : Type 0} (kind : T → K) (d : ℕ) (pick : T → Option A) (alike : (t u : T) → kind t ≡ kind u → pick t ≡ None → pick u ≡ None) (o : (h : ℕ) → Opens (One pick) h []) where
  none_like : (other : List T) → SameHead kind [] other → one pick other ≡ Fault other
  none_like [] s = refl
  none_like (u ∷ us) s = absurd s

  one_like : (t : T) (rest other : List T) → pick t ≡ None → SameHead kind (t ∷ rest) other → one pick other ≡ Fault other
  one_like t rest [] e s = absurd s
  one_like t rest (u ∷ us) e s = let e' : pick u ≡ None = alike t u s e in rw e' refl

  pick_good : (t : T) (rest : List T) (b : Option A) → pick t ≡ b → Good kind (one pick) (One pick) Any d (t ∷ rest) (picked b t rest)
  pick_good t rest None e = record { front = []; whole = refl; opens = o d; local = λ other s. one_like t rest other e s }
  pick_good t rest (Some v) e = record { front = t ∷ []; whole = refl; reads = (t, refl, e, refl); fits = omega arith; stops = any_stops kind v rest }

  one_good : (ts : List T) → Good kind (one pick) (One pick) Any d ts (one pick ts)
  one_good [] = record { front = []; whole = refl; opens = o d; local = none_like }
  one_good (t ∷ rest) = pick_good t rest (pick t) refl

  one_at : ExactAt kind d (one pick) (One pick) Any
  one_at = record { sample = o d; good = one_good; complete = λ f v h rest (t, e, p, z) fits s. rw (e, p, z) refl }

-- A token with a value, of which there is one.
pub exact_one : {T K A : Type 0} {kind : T → K} (n : ℕ) (pick : T → Option A) (c : T) (v : A) → pick c ≡ Some v
    → ((t u : T) → kind t ≡ kind u → pick t ≡ None → pick u ≡ None) → Exact kind n 0 (λ d. one pick) (One pick) Any
exact_one {kind = kind} n pick c v e alike = record {
  sample = record { rest = c ∷ []; value = v; nest = 0; reads = (c, refl, e, refl); fits = omega arith };
  least = λ f v h r. omega arith;
  at = λ d a b. one_at kind d pick alike (λ h. record { rest = c ∷ []; value = v; nest = 0; reads = (c, refl, e, refl); fits = omega arith });
  keeps = λ d e a b c ts. keeps_same (one pick ts);
}

-- A token of a test.
module _ {T K : Type 0} (kind : T → K) (d : ℕ) (p : K → Bool) (c : Sample kind p) where
  abbrev test : T → Bool
  test t = p (kind t)

  expect_opens : (h : ℕ) → Opens (Expect test) h []
  expect_opens h = record { rest = c.token ∷ []; value = tt; nest = 0; reads = (c.token, refl, c.holds, refl); fits = omega arith }

  end_like : (other : List T) → SameHead kind [] other → expect test other ≡ Fault other
  end_like [] s = refl
  end_like (u ∷ us) s = absurd s

  expect_like : (t : T) (rest other : List T) → test t ≡ false → SameHead kind (t ∷ rest) other → expect test other ≡ Fault other
  expect_like t rest [] e s = absurd s
  expect_like t rest (u ∷ us) e s = let e' : test u ≡ false = subst (λ k. p k ≡ false) s e in rw e' refl

  test_good : (t : T) (rest : List T) (b : Bool) → test t ≡ b → Good kind (expect test) (Expect test) Any d (t ∷ rest) (cond b (Read (tt, 0, rest)) (Fault (t ∷ rest)))
  test_good t rest false e = record { front = []; whole = refl; opens = expect_opens d; local = λ other s. expect_like t rest other e s }
  test_good t rest true e = record { front = t ∷ []; whole = refl; reads = (t, refl, e, refl); fits = omega arith; stops = any_stops {A = Unit {0}} kind tt rest }

  expect_good : (ts : List T) → Good kind (expect test) (Expect test) Any d ts (expect test ts)
  expect_good [] = record { front = []; whole = refl; opens = expect_opens d; local = end_like }
  expect_good (t ∷ rest) = test_good t rest (test t) refl

  -- a token of the test is read exactly in this room
  pub expect_at : ExactAt kind d (expect test) (Expect test) Any
  expect_at = record { sample = expect_opens d; good = expect_good; complete = λ f v h rest (t, e, q, z) fits s. rw (e, q, z) refl }

-- A token of a test.
pub exact_expect : {T K : Type 0} {kind : T → K} (n : ℕ) {p : K → Bool} → Sample kind p → Exact kind n 0 (λ d. expect (λ t. p (kind t))) (Expect (λ t. p (kind t))) Any
exact_expect {kind = kind} n {p = p} c = record {
  sample = expect_opens kind 0 p c 0;
  least = λ f v h r. omega arith;
  at = λ d a b. expect_at kind d p c;
  keeps = λ d e a b c ts. keeps_same (expect (λ t. p (kind t)) ts);
}
