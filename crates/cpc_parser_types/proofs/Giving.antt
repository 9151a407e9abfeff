-- What functions of the parser give, from what those that they call give.
use Rattle.std.proofs.Common.{◌≡◌, ℕ, List, length, Result, Err, refl, ap, ◌∙◌}
use Rattle.std.specs.Result.{IsErrAnd}
use Rattle.std.proofs.lemmas.List.{length-map}
use Rattle.std.proofs.lemmas.Result.{err_from_is_err_and}
use Rattle.cpc_tree.specs.declared.token.Token.{Token}
use Rattle.cpc_tree.specs.Erase.{Names}
use Rattle.cpc_tree.specs.Tokens.{Placed, placed_of}
use Rattle.cpc_parser_reading.specs.Reading.{Reading, Read, Fault, Deep, ◌>>=◌}
use Rattle.cpc_parser_types.specs.declared.refusal.Refusal as GRefusal
use Rattle.cpc_parser_types.specs.declared.refusal.Refusal.TheVariants as R
use Rattle.cpc_parser_types.specs.Views.{placed, Refuses, Gives}

pub placed_length : (names : Names) (ts : List Token) → length (placed names ts) ≡ length ts
placed_length names ts = length-map ts (placed_of names)

-- a refusal at the tokens
pub fault_here : {X A : Type 0} (view : X → A × ℕ × List Placed) (names : Names) (ts : List Token) (x : Result X GRefusal.Refusal) (r : Reading Placed A) → x ≡ Err (R.Syntax (length ts)) → r ≡ Fault (placed names ts) → Gives view x r
fault_here view names ts x r e f = rw e (placed names ts, placed_length names ts, f)

pub deep_here : {X A : Type 0} (view : X → A × ℕ × List Placed) (names : Names) (ts : List Token) (x : Result X GRefusal.Refusal) (r : Reading Placed A) → x ≡ Err (R.Deep (length ts)) → r ≡ Deep (placed names ts) → Gives view x r
deep_here view names ts x r e f = rw e (placed names ts, placed_length names ts, f)

-- a refusal inside
pub err_on : {A B : Type 0} (e : GRefusal.Refusal) (r : Reading Placed A) (s : Reading Placed B) (k : A × ℕ × List Placed → Reading Placed B) → Refuses e r → s ≡ (r >>= k) → Refuses e s
err_on R.Memory r s k g i = tt
err_on (R.Syntax n) r s k g i = (g.0, g.1, i ∙ ap (λ x. x >>= k) g.2)
err_on (R.Deep n) r s k g i = (g.0, g.1, i ∙ ap (λ x. x >>= k) g.2)

value_or : {T A : Type 0} → A × ℕ × List T → Reading T A → A × ℕ × List T
value_or x (Read y) = y
value_or x (Fault left) = x
value_or x (Deep left) = x

-- equal readings are of equal values
pub read_is : {T A : Type 0} (x y : A × ℕ × List T) → Read x ≡ Read y → x ≡ y
unfolding value_or
read_is x y e = ap (value_or x) e

-- what came through an early return
pub err_through : {Y A B : Type 0} (view : Y → B × ℕ × List Placed) (x : Result Y GRefusal.Refusal) (e : GRefusal.Refusal) (r : Reading Placed A) (s : Reading Placed B) (k : A × ℕ × List Placed → Reading Placed B)
    → IsErrAnd x (λ y. y ≡ e) → Refuses e r → s ≡ (r >>= k) → Gives view x s
err_through view x e r s k i g j = let p = err_from_is_err_and x i in rw (p.1, p.2) (err_on e r s k g j)

-- what goes on twice goes on once
pub goes_on : {T A B C : Type 0} (r : Reading T A) (f : A × ℕ × List T → Reading T B) (g : B × ℕ × List T → Reading T C) → ((r >>= f) >>= g) ≡ (r >>= λ x. f x >>= g)
goes_on (Read x) f g = refl
goes_on (Fault left) f g = refl
goes_on (Deep left) f g = refl
