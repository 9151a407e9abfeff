-- A path of the target for each step of the source makes rows.
use Rattle.std.proofs.Common.{◌≡◌, ℕ, zero, suc, ◌+◌, ◌*◌, ◌≤◌, ◌⊎◌, ⊎_elim, sym, ap, ◌∙◌, subst, arith, Bool, true, Option, Some}
use Rattle.cpc_meaning_matching.specs.Steps.{or_stay}
use Rattle.cpc_meaning_matching.specs.Systems.{System, run, Goes, Alike, NotStuck, NeverStuck, Ends}
use Rattle.cpc_meaning_matching.specs.Simulation.{Rows, Row, Matches, Path, Last, More}
use Rattle.cpc_meaning_matching.proofs.Laws.{rows_of_relation, row_last, row_more}
use Rattle.cpc_meaning_matching.proofs.Systems.{stays}

abbrev total : {T : Type 0} → (T → Option T) → T → T
total next t = or_stay t (next t)

module _ {T : Type 0} {next : T → Option T} {w : T → ℕ} where
  pub path_wider : {End Mid : T → Type 0} {c : ℕ} (d : ℕ) {t : T} → c ≤ d → Path next w End Mid c t → Path next w End Mid d t
  path_wider d le (Last _ t u n h e) = Last d t u n (omega arith) e
  path_wider d le (More _ b t u n h m p) = More d b t u n (omega arith) m p

  -- a path with weaker relations
  pub path_map : {End Mid End' Mid' : T → Type 0} → ((t : T) → End t → End' t) → ((t : T) → Mid t → Mid' t) → {c : ℕ} {t : T} → Path next w End Mid c t → Path next w End' Mid' c t
  path_map f g (Last c t u n h e) = Last c t u n h (f u e)
  path_map f g (More c d t u n h m p) = More c d t u n h (g u m) (path_map f g p)

  -- a path to a state half way, and then a path
  pub path_then : {End Mid Half : T → Type 0} {c d : ℕ} {t : T} → Path next w Half Mid c t → ((u : T) → Half u → Mid u × Path next w End Mid d u) → Path next w End Mid (c + d) t
  path_then {d = d} (Last c t u n h e) go = let g = go u e in More (c + d) d t u n (omega arith) g.0 g.1
  path_then {d = d} (More c b t u n h m p) go = More (c + d) (b + d) t u n (omega arith) m (path_then p go)

  -- n steps that count down, each at no more than l, and then a path
  pub path_loop : (End Mid : T → Type 0) (l : ℕ) (Left : ℕ → T → Type 0) → ((n : ℕ) (t : T) → Left (suc n) t → (u : T) × (next t ≡ Some u) × (w t ≤ l) × Mid u × Left n u) → (d : ℕ) → ((t : T) → Left 0 t → Path next w End Mid d t) → (n : ℕ) (t : T) → Left n t → Path next w End Mid (n * l + d) t
  path_loop End Mid l Left turn d done zero t h = path_wider (0 * l + d) (omega arith) (done t h)
  path_loop End Mid l Left turn d done (suc n) t h =
      let g = turn n t h in
      More (suc n * l + d) (n * l + d) t g.0 g.1 (omega (arith, g.2)) g.3 (path_loop End Mid l Left turn d done n g.0 g.4)

  -- a path is a row of the total step, and each state that it leaves has a step
  pub row_of_path : {End Mid : T → Type 0} {c : ℕ} (t : T) → Path next w End Mid c t → Row (total next) w End Mid (λ z. (u : T) × (next z ≡ Some u)) c t
  row_of_path {End = End} {Mid = Mid} {c = c} t (Last _ _ u n h e) =
      row_last (total next) w End Mid (λ z. (u : T) × (next z ≡ Some u)) c t h (u, n) (subst End (sym (ap (or_stay t) n)) e)
  row_of_path {End = End} {Mid = Mid} {c = c} t (More _ d _ u n h m p) =
      let s = sym (ap (or_stay t) n) in
      row_more (total next) w End Mid (λ z. (u : T) × (next z ≡ Some u)) c d t h (u, n) (subst Mid s m)
      (subst (Row (total next) w End Mid (λ z. (u : T) × (next z ≡ Some u)) d) s (row_of_path u p))

module _ {S T M O : Type 0} {is_over : O → Bool} {A : System S M O} {B : System T M O} (ends_a : Ends is_over A) (ends_b : Ends is_over B) (live : NeverStuck is_over A) (wa : S → ℕ) (wb : T → ℕ) (R : S → T → Type 0) (opens : R A.opening B.opening) (Meet Near : S → T → Type 0) (meet : (x : S) (y : T) → R x y → Meet x y) (over : (x : S) (y : T) → is_over (A.outcome x) ≡ true → R x y → (is_over (B.outcome y) ≡ true) × (wb y ≤ wa x)) (paths : (x x' : S) (y : T) → A.next x ≡ Some x' → NotStuck is_over A x' → R x y → Path B.next wb (R x') (λ z. Near x z ⊎ Near x' z) (wa x) y) where
  abbrev RowAt : S → S → T → Type 0
  RowAt x x' y = Row (λ t. or_stay t (B.next t)) wb (R x') (λ z. Near x z ⊎ Near x' z) (λ z. Goes A x → Goes B z) (wa x) y

  row_at_end : (x : S) (y : T) → is_over (A.outcome x) ≡ true → R x y → RowAt x (or_stay x (A.next x)) y
  row_at_end x y o r =
      let b = over x y o r in
      let sa = stays ends_a x o in
      let sb = stays ends_b y b.0 in
      record {
        steps = 1;
        some = omega arith;
        within = let p = b.1 in omega arith;
        ends = subst (λ z. R (or_stay x (A.next x)) z) (sym sb) (subst (λ z. R z y) (sym sa) r);
        between = λ i lo hi. absurd (omega arith);
        goes = λ i hi g. absurd (let e = ends_a.none x o in let f = g.1 in cc);
      }

  row_at_step : (x x' : S) (y : T) → A.next x ≡ Some x' → NotStuck is_over A (or_stay x (A.next x)) → R x y → RowAt x (or_stay x (A.next x)) y
  row_at_step x x' y n l r =
      let s = ap (or_stay x) n in
      let p = row_of_path y (paths x x' y n (subst (NotStuck is_over A) s l) r) in
      subst (λ v. RowAt x v y) (sym s)
      (record { steps = p.steps; some = p.some; within = p.within; ends = p.ends; between = p.between; goes = λ i hi g. p.goes i hi })

  pub rows_of_paths : Rows Meet Near (Goes A) (Goes B) wa wb (run A) (run B)
  rows_of_paths =
      rows_of_relation (λ s. or_stay s (A.next s)) (λ t. or_stay t (B.next t)) A.opening B.opening (NotStuck is_over A) R Meet Near (Goes A) (Goes B) wa wb live.here opens (λ x y l r. meet x y r)
      (λ x y l l' r. ⊎_elim (λ o. row_at_end x y o r) (λ g. row_at_step x g.0 y g.1 l' r) l)

-- the same where nothing but marks and outcomes counts
module _ {S T M O : Type 0} {is_over : O → Bool} {A : System S M O} {B : System T M O} (ends_a : Ends is_over A) (ends_b : Ends is_over B) (live : NeverStuck is_over A) (wa : S → ℕ) (wb : T → ℕ) (R : S → T → Type 0) (opens : R A.opening B.opening) (alike : (x : S) (y : T) → R x y → Alike A B x y) (rest : (x : S) (y : T) → is_over (A.outcome x) ≡ true → R x y → wb y ≤ wa x) (paths : (x x' : S) (y : T) → A.next x ≡ Some x' → NotStuck is_over A x' → R x y → Path B.next wb (R x') (λ z. Alike A B x z ⊎ Alike A B x' z) (wa x) y) where
  pub matches_of_paths : Matches A B wa wb
  matches_of_paths =
      rows_of_paths ends_a ends_b live wa wb R opens (Alike A B) (Alike A B) alike
      (λ x y o r. (ap is_over (sym (alike x y r).outcome) ∙ o, rest x y o r)) paths
