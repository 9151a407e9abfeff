-- Rows of values, one value after the other.
use Rattle.std.proofs.Common.{◌≡◌, ℕ, zero, suc, ◌+◌, ◌<◌, ◌≤◌, inl, inr, List, [], ◌∷◌, ◌++◌, length, get_or, take, drop, set, Option, Some, None, Ok, Err, refl, sym, ap, subst, ◌∙◌, arith, add-one, append_assoc, append-nil}
use Rattle.std.specs.Prelude.{slice_get, ◌⊎◌}
use Rattle.std.proofs.lemmas.List.{drop_more, drop_all, drop-set-lt, take_all, take_more_set, map-append}
use Rattle.cpc_base.specs.declared.stop.Stop.{Stop}
use Rattle.cpc_base.specs.declared.stop.Stop.TheVariants.{Memory, Fault as Faulted}
use Rattle.cpc_num.specs.declared.kinds.Fault.{Fault}
use Rattle.cpc_tree.specs.Erase.{Names}
use Rattle.cpc_tree.specs.Primitives as P
use Rattle.cpc_tree.specs.Syntax.{Ty}
use Rattle.cpc_store.specs.Store.{Value}
use Rattle.cpc_store.specs.declared.values.Value as V
use Rattle.cpc_meaning.specs.Answer.{Answer, Gives, Faults, NoAnswer, ◌>>=◌, needed}
use Rattle.cpc_meaning.specs.Eval.{assigned}
use Rattle.cpc_meaning.specs.Requests.{arguments, all_taken, taken_as}
use Rattle.cpc_eval_values.specs.Meets.{Meets}
use Rattle.cpc_eval_values.specs.Shown.{value_of, values_of}
use Rattle.cpc_native_plans.specs.Stops.{MeetsOr}
use Rattle.cpc_native_plans.specs.Parts.{Stands}
use Rattle.cpc_native_plans.specs.Rows.{by_nth}
use Rattle.cpc_native_plans.proofs.Stopping.{stands_same, stands_none}

-- values after others
abbrev pub after : List Value → Answer (List Value) → Answer (List Value)
after front (Gives vs) = Gives (front ++ vs)
after front (Faults fault) = Faults fault
after front NoAnswer = NoAnswer

pub after_none : (a : Answer (List Value)) → after [] a ≡ a
after_none (Gives vs) = refl
after_none (Faults fault) = refl
after_none NoAnswer = refl

-- a value before others
abbrev pub before : Answer Value → Answer (List Value) → Answer (List Value)
before q a = q >>= (λ y. a >>= (λ ys. Gives (y ∷ ys)))

-- one more value
pub one_more : (front : List Value) (w : Value) (q : Answer Value) (a : Answer (List Value)) → Meets (Ok w) q → Stands (after (front ++ w ∷ []) a) (after front (before q a))
one_more front w (Gives y) (Gives ys) h =
    let e : w ≡ y = cc in
    stands_same _ _ (ap Gives (append_assoc front (w ∷ []) ys ∙ ap (λ z. front ++ z ∷ ys) e))
one_more front w (Gives y) (Faults fault) h = stands_same (Faults fault) (Faults fault) refl
one_more front w (Gives y) NoAnswer h = stands_none NoAnswer
one_more front w (Faults fault) a h = let no : ⊥ = cc in absurd no
one_more front w NoAnswer a h = stands_none _

-- one that is not there
pub none_more : (front : List Value) (s : Stop Fault) (q : Answer Value) (a : Answer (List Value)) → MeetsOr {A = Value} (Err s) q → MeetsOr {A = List Value} (Err s) (after front (before q a))
none_more front Memory q a h = tt
none_more front (Faulted f) (Gives y) a h = let no : ⊥ = cc in absurd no
none_more front (Faulted f) (Faults fault) a h = cc
none_more front (Faulted f) NoAnswer a h = tt

-- what is there of a row, if there is more
abbrev pub Rest : {T : Type 0} → List T → ℕ → Type 0
Rest {T} ts i = ((slice_get ts i ≡ None) × (drop i ts ≡ [])) ⊎ ((t : T) × ((slice_get ts i ≡ Some t) × (drop i ts ≡ t ∷ drop (suc i) ts)))

pub rest_of : {T : Type 0} (ts : List T) (i : ℕ) → Rest ts i
rest_of [] zero = inl (refl, refl)
rest_of [] (suc i) = inl (refl, refl)
rest_of (t ∷ ts) zero = inr (t, (refl, refl))
rest_of (t ∷ ts) (suc i) = rest_of ts i

-- ---- rows that are converted

module _ {T : Type 0} (f : T → Value → Answer Value) where
  -- each value by its own
  abbrev pub each : List T → List Value → Answer (List Value)
  each [] [] = Gives []
  each (t ∷ ts) (v ∷ vs) = before (f t v) (each ts vs)
  each _ _ = NoAnswer

  step : (front : List Value) (ts : List T) (i : ℕ) (v w : Value) (vs : List Value) → Meets (Ok w) (by_nth f ts i v) → Stands (after (front ++ w ∷ []) (each (drop (suc i) ts) vs)) (after front (each (drop i ts) (v ∷ vs)))
  step front ts i v w vs h = elim (rest_of ts i) [
    | inl e ↦ rw (e.1) (stands_none _)
    | inr e ↦ rw (e.1.1) (one_more front w (f e.0 v) (each (drop (suc i) ts) vs) (let P : Option T → Type 0 = λ o. Meets (Ok w) (needed o >>= (λ t. f t v)) in subst P e.1.0 h))
  ]

  stop : (front : List Value) (ts : List T) (i : ℕ) (v : Value) (fault : Fault) (vs : List Value) → Meets {A = Value} (Err fault) (by_nth f ts i v) → Meets {A = List Value} (Err fault) (after front (each (drop i ts) (v ∷ vs)))
  stop front ts i v fault vs h = elim (rest_of ts i) [
    | inl e ↦ rw (e.1) tt
    | inr e ↦ rw (e.1.1) (none_more front (Faulted fault) (f e.0 v) (each (drop (suc i) ts) vs) (let P : Option T → Type 0 = λ o. Meets {A = Value} (Err fault) (needed o >>= (λ t. f t v)) in subst P e.1.0 h))
  ]

  module _ (names : Names) (ts : List T) (new : List V.Value) (i : ℕ) where
    -- the row so far, and what is left
    abbrev pub so_far : Answer (List Value)
    so_far = after (values_of names (take i new)) (each (drop i ts) (values_of names (drop i new)))

  pub each_step : (names : Names) (ts : List T) (new : List V.Value) (i : ℕ) (d w : V.Value) → i < length new → Meets (Ok (value_of names w)) (by_nth f ts i (value_of names (get_or new i d)))
      → Stands (so_far names ts (set new i w) (i + 1)) (so_far names ts new i)
  each_step names ts new i d w h m =
      let a : values_of names (take (i + 1) (set new i w)) ≡ values_of names (take i new) ++ value_of names w ∷ [] = ap (values_of names) (take_more_set new i w h) ∙ map-append (value_of names) (take i new) (w ∷ []) in
      let b : drop (i + 1) (set new i w) ≡ drop (i + 1) new = drop-set-lt (i + 1) new i w (omega arith) in
      let e : drop i new ≡ get_or new i d ∷ drop (i + 1) new = drop_more new i d h in
      let k : drop (i + 1) ts ≡ drop (suc i) ts = ap (λ n. drop n ts) (add-one i) in
      rw (a, b, e, k) (step (values_of names (take i new)) ts i (value_of names (get_or new i d)) (value_of names w) (values_of names (drop (i + 1) new)) m)

  pub each_stop : (names : Names) (ts : List T) (new : List V.Value) (i : ℕ) (d : V.Value) (fault : Fault) → i < length new → Meets {A = Value} (Err fault) (by_nth f ts i (value_of names (get_or new i d)))
      → Meets {A = List Value} (Err fault) (so_far names ts new i)
  each_stop names ts new i d fault h m =
      let e : drop i new ≡ get_or new i d ∷ drop (i + 1) new = drop_more new i d h in
      rw e (stop (values_of names (take i new)) ts i (value_of names (get_or new i d)) fault (values_of names (drop (i + 1) new)) m)

  ended : (front : List Value) (ts : List T) → Meets (Ok front) (after front (each ts []))
  ended front [] = ap Ok (sym (append-nil front))
  ended front (t ∷ ts) = tt

  pub each_end : (names : Names) (ts : List T) (new : List V.Value) (i : ℕ) → length new ≤ i → Meets (Ok (values_of names new)) (so_far names ts new i)
  each_end names ts new i h =
      let a : take i new ≡ new = take_all i new h in
      let b : drop i new ≡ [] = drop_all i new h in
      rw (a, b) (ended (values_of names new) (drop i ts))

pub arguments_each : (ts : List Ty) (vs : List Value) → each assigned ts vs ≡ arguments ts vs
arguments_each [] [] = refl
arguments_each [] (v ∷ vs) = refl
arguments_each (t ∷ ts) [] = refl
arguments_each (t ∷ ts) (v ∷ vs) = ap (before (assigned t v)) (arguments_each ts vs)

pub taken_each : (ts : List P.Taken) (vs : List Value) → each taken_as ts vs ≡ all_taken ts vs
taken_each [] [] = refl
taken_each [] (v ∷ vs) = refl
taken_each (t ∷ ts) [] = refl
taken_each (t ∷ ts) (v ∷ vs) = ap (before (taken_as t v)) (taken_each ts vs)
