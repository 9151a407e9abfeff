-- Places, byte by byte.
use Rattle.std.proofs.Common.{◌≡◌, ℕ, ◌+◌, ◌<◌, [], ◌∷◌, ◌++◌, length, take, get_or, Bool, nat_eq, cond, true, false, ◌≤◌, refl, sym, ap, ◌∙◌, arith}
use Rattle.std.proofs.lemmas.Bool.{ne_eqb}
use Rattle.cpc_base.specs.Bytes.{Text}
use Rattle.cpc_base.specs.declared.stop.Place.{Place}
use Rattle.cpc_tree.specs.Cut.{place_past, place_behind}
use Rattle.cpc_lexer.proofs.Steps.{take_more}

pub behind-append : (place : Place) (v w : Text) → place_behind place (v ++ w) ≡ place_behind (place_behind place v) w
unfolding place_behind
behind-append place [] w = refl
behind-append place (b ∷ v) w = behind-append (place_past place b) v w

behind_one : (place : Place) (b : ℕ) → place_behind place (b ∷ []) ≡ place_past place b
unfolding place_behind
behind_one place b = refl

behind_more : (place : Place) (w : Text) (n : ℕ) → n < length w → place_behind place (take (n + 1) w) ≡ place_past (place_behind place (take n w)) (get_or w n 0)
behind_more place w n lt = ap (λ u. place_behind place u) (take_more w n 0 lt) ∙ (behind-append place (take n w) (get_or w n 0 ∷ []) ∙ behind_one _ _)

past_line : (line column b : ℕ) → b ≡ 10 → place_past (record { line = line; column = column }) b ≡ record { line = line + 1; column = 1 }
unfolding place_past
past_line line column b e = rw e refl

past_other : (line column b : ℕ) → (b ≡ 10 → ⊥) → place_past (record { line = line; column = column }) b ≡ record { line = line; column = column + 1 }
unfolding place_past
past_other line column b h = rw (ne_eqb b 10 h) refl

pub behind_line : (place : Place) (w : Text) (n line column : ℕ) → n < length w → record { line = line; column = column } ≡ place_behind place (take n w) → get_or w n 0 ≡ 10 → record { line = line + 1; column = 1 } ≡ place_behind place (take (n + 1) w)
behind_line place w n line column lt e f = sym (behind_more place w n lt ∙ (ap (λ p. place_past p (get_or w n 0)) (sym e) ∙ past_line line column (get_or w n 0) f))

pub behind_other : (place : Place) (w : Text) (n line column : ℕ) → n < length w → record { line = line; column = column } ≡ place_behind place (take n w) → (get_or w n 0 ≡ 10 → ⊥) → record { line = line; column = column + 1 } ≡ place_behind place (take (n + 1) w)
behind_other place w n line column lt e f = sym (behind_more place w n lt ∙ (ap (λ p. place_past p (get_or w n 0)) (sym e) ∙ past_other line column (get_or w n 0) f))

past_near : (place : Place) (b : ℕ) → ((place_past place b).line ≤ place.line + 1) × ((place_past place b).column ≤ place.column + 1)
unfolding place_past
past_near place b = at (nat_eq b 10) where
  at : (t : Bool) → ((cond {A = Place} t (record { line = place.line + 1; column = 1 }) (record { line = place.line; column = place.column + 1 })).line ≤ place.line + 1) × ((cond {A = Place} t (record { line = place.line + 1; column = 1 }) (record { line = place.line; column = place.column + 1 })).column ≤ place.column + 1)
  at true = (omega arith, omega arith)
  at false = (omega arith, omega arith)

-- no line or column grows faster than the bytes
pub behind_near : (place : Place) (w : Text) → ((place_behind place w).line ≤ place.line + length w) × ((place_behind place w).column ≤ place.column + length w)
unfolding place_behind
behind_near place [] = (omega arith, omega arith)
behind_near place (b ∷ w) =
    let p = past_near place b in
    let q = behind_near (place_past place b) w in
    (omega (arith, p.0, q.0), omega (arith, p.1, q.1))
