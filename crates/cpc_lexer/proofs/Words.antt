-- Runs of letters, digits and _, and what the digits of an integer tell.
use Rattle.std.proofs.Common.{◌≡◌, ℕ, zero, suc, ◌+◌, ◌*◌, ◌^◌, ◌≤◌, ◌<◌, Bool, true, false, cond, nat_eq, [], ◌∷◌, length, take, drop, get_or, Some, None, refl, sym, ap, ◌∙◌, arith, ◌⊎◌, inl, inr}
use Rattle.std.proofs.lemmas.Bool.{ne_eqb}
use Rattle.std.proofs.lemmas.Bool.Decides.{nat_tests}
use Rattle.std.proofs.lemmas.List.{length-take-le}
use Rattle.std.proofs.lemmas.List.Sums.{fold-append, prefix_len-le-length, prefix_len-drop_all, prefix_len-drop_no, prefix_len-drop_yes, prefix_len_stops}
use Rattle.std.specs.Prelude.{fold}
use Rattle.std.specs.List.{prefix_len}
use Rattle.std.specs.Char.{is_ascii_digit}
use Rattle.cpc_base.specs.Bytes.{Text}
use Rattle.cpc_base.specs.declared.stop.Dialect.{Dialect}
use Rattle.cpc_base.proofs.Truth.{le_holds, le_fails}
use Rattle.cpc_tree.specs.Tokens.{keyword_of, punctuator_of}
use Rattle.cpc_tree.specs.Pieces.{Space, Fault, Gap, Run, Sign, is_blank, in_word, digit_value, is_digit_of, value_of, suffix_of, with_suffix, integer_of, by_digits, integer, name_or_keyword, run, first_state, next_state, state_behind, state_of}
use Rattle.cpc_tree.proofs.Runs.{first_run, next_run}
use Rattle.cpc_tree.proofs.Apart.{first_blank}
use Rattle.cpc_lexer.specs.declared.front.Front.{Front}
use Rattle.cpc_lexer.specs.declared.front.Front.TheVariants as F
use Rattle.std.specs.Option.{option_map}
use Rattle.cpc_lexer.specs.Fronts.{front_piece, IsFrontNameless, IsFrontNumbered, IsFront}
use Rattle.cpc_lexer.proofs.Steps.{take_more, state_begun, longest_front, is_front, next_gap}

-- what a run is
pub run_digit : (dialect : Dialect) (w : Text) → 0 < length w → is_ascii_digit (get_or w 0 0) ≡ true → run dialect w ≡ integer w
unfolding run
run_digit dialect [] lt e = absurd (omega arith)
run_digit dialect (b ∷ w) lt e = rw e refl

pub run_letter : (dialect : Dialect) (w : Text) → 0 < length w → is_ascii_digit (get_or w 0 0) ≡ false → run dialect w ≡ name_or_keyword dialect w (keyword_of w)
unfolding run
run_letter dialect [] lt e = absurd (omega arith)
run_letter dialect (b ∷ w) lt e = rw e refl

run_behind : (t : Text) → state_behind (Some Run) (take (prefix_len in_word t) t) ≡ Some Run
unfolding state_behind
run_behind [] = refl
run_behind (b ∷ t) = at (run_behind t) (in_word b) refl where
  at : state_behind (Some Run) (take (prefix_len in_word t) t) ≡ Some Run → (p : Bool) → in_word b ≡ p → state_behind (Some Run) (take (cond p (1 + prefix_len in_word t) 0) (b ∷ t)) ≡ Some Run
  at ih false e = refl
  at ih true e =
      let n : 1 + prefix_len in_word t ≡ suc (prefix_len in_word t) = omega arith in
      rw n (ap (λ o. state_behind o (take (prefix_len in_word t) t)) (next_run b true e) ∙ ih)

run_state : (t : Text) → 0 < length t → in_word (get_or t 0 0) ≡ true → (0 < prefix_len in_word t) × (state_of (take (prefix_len in_word t) t) ≡ Some Run)
unfolding state_of
run_state [] lt e = absurd (omega arith)
run_state (b ∷ t) lt e =
    let n : 1 + prefix_len in_word t ≡ suc (prefix_len in_word t) = omega arith in
    rw (e, n) (omega arith, ap (λ o. state_behind o (take (prefix_len in_word t) t)) (first_run b e) ∙ run_behind t)

run_stops : (t : Text) → prefix_len in_word t < length t → next_state Run (get_or t (prefix_len in_word t) 0) ≡ None
run_stops t lt = next_run _ false (prefix_len_stops in_word t 0 lt)

pub run_front : (dialect : Dialect) (t : Text) (n : ℕ) (front : Front) → 0 < length t → in_word (get_or t 0 0) ≡ true → n ≡ prefix_len in_word t
    → front_piece (take n t) front ≡ run dialect (take n t) → IsFrontNameless front → IsFrontNumbered front → IsFront dialect t front n
run_front dialect t n front lt e f g nameless numbered =
    let s = run_state t lt e in
    is_front dialect t n front nameless numbered
    (rw f (longest_front dialect t (prefix_len in_word t) 0 Run (front_piece (take (prefix_len in_word t) t) front) s.0 (prefix_len-le-length in_word t) s.1 (run_stops t) (sym (rw f at g))))

-- the first byte of the run is that of the text
pub first_of : (t : Text) (n : ℕ) → 0 < length t → in_word (get_or t 0 0) ≡ true → n ≡ prefix_len in_word t → (0 < length (take n t)) × (get_or (take n t) 0 0 ≡ get_or t 0 0)
first_of [] n lt e f = absurd (omega arith)
first_of (b ∷ t) n lt e f =
    let g : n ≡ suc (prefix_len in_word t) = f ∙ rw e (omega arith) in
    rw g (omega arith, refl)

-- integers: more digits make no smaller value
grows : (base acc d : ℕ) → 0 < base → acc ≤ base * acc + d
grows base acc d pos = grind arith

more_least : (base : ℕ) → 0 < base → (acc : ℕ) (ds : Text) → acc ≤ fold (λ n d. base * n + digit_value d) acc ds
more_least base pos acc [] = omega arith
more_least base pos acc (d ∷ ds) = omega (arith, grows base acc (digit_value d) pos, more_least base pos (base * acc + digit_value d) ds)

take_least : (base : ℕ) → 0 < base → (acc : ℕ) (ds : Text) (m k : ℕ) → m ≤ k → fold (λ n d. base * n + digit_value d) acc (take m ds) ≤ fold (λ n d. base * n + digit_value d) acc (take k ds)
take_least base pos acc ds zero k le = more_least base pos acc (take k ds)
take_least base pos acc ds (suc m) zero le = absurd (omega arith)
take_least base pos acc [] (suc m) (suc k) le = omega arith
take_least base pos acc (d ∷ ds) (suc m) (suc k) le = take_least base pos (base * acc + digit_value d) ds m k (omega arith)

value_more : (base : ℕ) (w : Text) (n : ℕ) → n < length w → value_of base (take (n + 1) w) ≡ base * value_of base (take n w) + digit_value (get_or w n 0)
value_more base w n lt = rw (take_more w n 0 lt) (fold-append (λ v d. base * v + digit_value d) 0 (take n w) (get_or w n 0 ∷ []))

-- a value of 2 ^ 64 shows at the digit
pub too_wide_at : (base : ℕ) (w : Text) (n v d : ℕ) → 0 < base → n < length w → prefix_len (is_digit_of base) w ≡ n + prefix_len (is_digit_of base) (drop n w) → is_digit_of base (get_or w n 0) ≡ true
    → v ≡ value_of base (take n w) → d ≡ digit_value (get_or w n 0) → 2 ^ 64 ≤ base * v + d → Fault 3 ≡ by_digits base w
too_wide_at base w n v d pos lt e f g h le =
    let k = prefix_len-drop_yes (is_digit_of base) w n 0 lt f in
    let least = take_least base pos 0 w (n + 1) (prefix_len (is_digit_of base) w) (omega (arith, k, e)) in
    let same : value_of base (take (n + 1) w) ≡ base * v + d = rw (g, h) (value_more base w n lt) in
    let wide : 2 ^ 64 ≤ value_of base (take (prefix_len (is_digit_of base) w) w) = omega (arith, least, same, le) in
    rw (le_holds (2 ^ 64) (value_of base (take (prefix_len (is_digit_of base) w) w)) wide) refl

not_empty : (w : Text) → 0 < length w → nat_eq (length w) 0 ≡ false
not_empty w lt = grind (arith, nat_tests)

small_value : (base : ℕ) (digits suffix : Text) → value_of base digits < 2 ^ 64 → 0 < length digits → integer_of base digits suffix ≡ with_suffix base (value_of base digits) (suffix_of suffix)
small_value base digits suffix lt pos = rw (le_fails (2 ^ 64) (value_of base digits) lt, not_empty digits pos) refl

-- the digits end, and the value is below 2 ^ 64
pub digits_end : (base : ℕ) (w : Text) (n v : ℕ) → n ≤ length w → prefix_len (is_digit_of base) w ≡ n + prefix_len (is_digit_of base) (drop n w) → (n < length w → is_digit_of base (get_or w n 0) ≡ true → ⊥)
    → v ≡ value_of base (take n w) → v < 2 ^ 64 → (n ≡ 0 → ⊥) → by_digits base w ≡ with_suffix base v (suffix_of (drop n w))
digits_end base w n v le e f g lt ne = at (is_digit_of base (get_or w n 0)) refl where
  whole : prefix_len (is_digit_of base) (drop n w) ≡ 0 → by_digits base w ≡ with_suffix base v (suffix_of (drop n w))
  whole h =
      let i : prefix_len (is_digit_of base) w ≡ n = omega (arith, e, h) in
      let l = length-take-le n w le in
      ap (λ (k : ℕ). integer_of base (take k w) (drop k w)) i ∙ (small_value base (take n w) (drop n w) (omega (arith, g, lt)) (omega (arith, l, ne)) ∙ ap (λ (k : ℕ). with_suffix base k (suffix_of (drop n w))) (sym g))

  at : (p : Bool) → is_digit_of base (get_or w n 0) ≡ p → by_digits base w ≡ with_suffix base v (suffix_of (drop n w))
  at true h = whole (prefix_len-drop_all (is_digit_of base) w n (past h)) where
    past : is_digit_of base (get_or w n 0) ≡ true → length w ≤ n
    past i = elim (below (length w) n) [ inl a ↦ a | inr b ↦ absurd (f b i) ] where
      below : (a b : ℕ) → (a ≤ b) ⊎ (b < a)
      below a b = grind arith
  at false h = whole (elim (below (length w) n) [ inl a ↦ prefix_len-drop_all (is_digit_of base) w n a | inr b ↦ prefix_len-drop_no (is_digit_of base) w n 0 b h ]) where
    below : (a b : ℕ) → (a ≤ b) ⊎ (b < a)
    below a b = grind arith

-- what begins with neither a blank nor a letter, a digit or _
pub first_mark : (b : ℕ) → false ≡ is_blank b → false ≡ in_word b → (b ≡ 39 → ⊥) → (b ≡ 34 → ⊥) → first_state b ≡ option_map Sign (punctuator_of (b ∷ []))
unfolding first_state
first_mark b e f g h = rw (sym e, sym f, ne_eqb b 39 g, ne_eqb b 34 h) refl

-- a blank
pub blank_front : (dialect : Dialect) (t : Text) → 0 < length t → is_blank (get_or t 0 0) ≡ true → IsFront dialect t F.Space 1
blank_front dialect t lt e = is_front dialect t 1 F.Space tt tt (longest_front dialect t 1 0 Gap Space (omega arith) (omega arith) (state_begun t 0 lt ∙ first_blank (get_or t 0 0) e) (λ l. next_gap _) refl)
