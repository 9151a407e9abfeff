-- Set values at types.
use Rattle.std.proofs.Common.{◌≡◌, ℕ, suc, ◌+◌, ◌<◌, List, [], ◌∷◌, ◌++◌, length, take, drop, get_or, set, Result, Ok, Err, refl, sym, ap, ◌∙◌, add-one, drop-cons, arith}
use Rattle.std.proofs.lemmas.List.{take_more, take_more_set, take-append-drop, map-append, drop-set-lt, drop-drop}
use Rattle.cpc_num.specs.declared.kinds.Fault.{Fault}
use Rattle.cpc_store.specs.declared.values.Value as V
use Rattle.cpc_store.specs.declared.values.Value.TheVariants as G
use Rattle.cpc_store.specs.Store.{Value}
use Rattle.cpc_tree.specs.Erase.{Names}
use Rattle.cpc_tree.specs.Syntax.{Ty, TyInt}
use Rattle.cpc_num.specs.declared.kinds.Kind.TheVariants as K
use Rattle.cpc_meaning.specs.Answer.{Answer, Gives, Faults, NoAnswer, ◌>>=◌}
use Rattle.cpc_meaning.specs.Requests.{all_long}
use Rattle.cpc_meaning.specs.Eval.{assigned, at_type}
use Rattle.cpc_eval_values.specs.Meets.{Meets}
use Rattle.cpc_eval_values.specs.Shown.{value_of, values_of}

pub at_set : (names : Names) (t : Ty) (v : V.Value) (r : Result Value Fault) → (v ≡ G.Unset → ⊥) → Meets r (assigned t (value_of names v)) → Meets r (at_type t (value_of names v))
at_set names t G.Unset r n h = absurd (n refl)
at_set names t (G.Int kind z) r n h = h
at_set names t G.Null r n h = h
at_set names t (G.At b k) r n h = h
at_set names t (G.Code f) r n h = h
at_set names t (G.Cond k) r n h = h

-- ---- rows of arguments

pair : (a : Answer Value) (p q : Answer (List Value)) → (a >>= (λ w. (p >>= (λ xs. q >>= (λ ys. Gives (xs ++ ys)))) >>= (λ ws. Gives (w ∷ ws)))) ≡ ((a >>= (λ w. p >>= (λ ws. Gives (w ∷ ws)))) >>= (λ xs. q >>= (λ ys. Gives (xs ++ ys))))
pair (Gives w) (Gives xs) (Gives ys) = refl
pair (Gives w) (Gives xs) (Faults e) = refl
pair (Gives w) (Gives xs) NoAnswer = refl
pair (Gives w) (Faults e) q = refl
pair (Gives w) NoAnswer q = refl
pair (Faults e) p q = refl
pair NoAnswer p q = refl

-- one row and then another
pub all_long-append : (xs bs : List Value) → all_long (xs ++ bs) ≡ (all_long xs >>= (λ ws. all_long bs >>= (λ ys. Gives (ws ++ ys))))
all_long-append [] bs = elim (all_long bs) as (λ q. q ≡ (q >>= (λ ys. Gives ys))) [ Gives ys ↦ refl | Faults e ↦ refl | NoAnswer ↦ refl ]
all_long-append (a ∷ xs) bs = rw (all_long-append xs bs) (pair (at_type (TyInt K.Long) a) (all_long xs) (all_long bs))

-- one more, which is set
more_of : (done : List Value) (w : Value) (p : Answer (List Value)) (q : Answer Value) → Meets (Ok done) p → Meets (Ok w) q → Meets (Ok (done ++ w ∷ [])) (p >>= (λ xs. (q >>= (λ y. Gives (y ∷ []))) >>= (λ ys. Gives (xs ++ ys))))
more_of done w (Gives xs) (Gives y) h g = let e : done ≡ xs = cc in let f : w ≡ y = cc in rw (e, f) refl
more_of done w (Gives xs) (Faults e) h g = let no : ⊥ = cc in absurd no
more_of done w (Gives xs) NoAnswer h g = tt
more_of done w (Faults e) q h g = let no : ⊥ = cc in absurd no
more_of done w NoAnswer q h g = tt

pub long_more : (done xs : List Value) (w v : Value) → Meets (Ok done) (all_long xs) → Meets (Ok w) (at_type (TyInt K.Long) v) → Meets (Ok (done ++ w ∷ [])) (all_long (xs ++ v ∷ []))
long_more done xs w v h g = rw (all_long-append xs (v ∷ [])) (more_of done w (all_long xs) (at_type (TyInt K.Long) v) h g)

-- the first that is not set
fault_of : (done : List Value) (fault : Fault) (p : Answer (List Value)) (q : Answer Value) (r : Answer (List Value)) → Meets (Ok done) p → Meets {A = Value} (Err fault) q → Meets {A = List Value} (Err fault) (p >>= (λ xs. (q >>= (λ y. r >>= (λ zs. Gives (y ∷ zs)))) >>= (λ ys. Gives (xs ++ ys))))
fault_of done fault (Gives xs) (Gives y) r h g = let no : ⊥ = cc in absurd no
fault_of done fault (Gives xs) (Faults e) r h g = cc
fault_of done fault (Gives xs) NoAnswer r h g = tt
fault_of done fault (Faults e) q r h g = let no : ⊥ = cc in absurd no
fault_of done fault NoAnswer q r h g = tt

pub long_fault : (done xs rest : List Value) (fault : Fault) (v : Value) → Meets (Ok done) (all_long xs) → Meets {A = Value} (Err fault) (at_type (TyInt K.Long) v) → Meets {A = List Value} (Err fault) (all_long (xs ++ v ∷ rest))
long_fault done xs rest fault v h g = rw (all_long-append xs (v ∷ rest)) (fault_of done fault (all_long xs) (at_type (TyInt K.Long) v) (all_long rest) h g)

same_at : {X : Type 0} (old new : List X) (i : ℕ) (d : X) → i < length new → i < length old → drop i new ≡ drop i old → get_or new i d ≡ get_or old i d
same_at old new i d h g e = let a : get_or new i d ∷ drop (suc i) new ≡ get_or old i d ∷ drop (suc i) old = sym (drop-cons new i d h) ∙ e ∙ drop-cons old i d g in cc

split : {X : Type 0} (xs : List X) (i : ℕ) (d : X) → i < length xs → xs ≡ take i xs ++ get_or xs i d ∷ drop (i + 1) xs
split xs i d h = sym (take-append-drop i xs) ∙ ap (λ ys. take i xs ++ ys) (rw (add-one, drop-cons xs i d h) refl)

-- what is left is as it was
pub left_more : {X : Type 0} (old new : List X) (i : ℕ) (w : X) → drop i new ≡ drop i old → drop (i + 1) (set new i w) ≡ drop (i + 1) old
left_more old new i w e = drop-set-lt (i + 1) new i w (omega arith) ∙ sym (drop-drop 1 i new) ∙ ap (drop 1) e ∙ drop-drop 1 i old

-- the row of the code so far, with one more, or where one is not set
pub long_step : (names : Names) (old new : List V.Value) (i : ℕ) (d w : V.Value) → i < length new → length new ≡ length old → drop i new ≡ drop i old
    → Meets (Ok (values_of names (take i new))) (all_long (values_of names (take i old)))
    → Meets (Ok (value_of names w)) (at_type (TyInt K.Long) (value_of names (get_or new i d)))
    → Meets (Ok (values_of names (take (i + 1) (set new i w)))) (all_long (values_of names (take (i + 1) old)))
long_step names old new i d w h l e done given =
    let below : i < length old = omega arith in
    let same : get_or new i d ≡ get_or old i d = same_at old new i d h below e in
    let a : values_of names (take (i + 1) (set new i w)) ≡ values_of names (take i new) ++ value_of names w ∷ [] = ap (values_of names) (take_more_set new i w h) ∙ map-append (value_of names) (take i new) (w ∷ []) in
    let b : values_of names (take (i + 1) old) ≡ values_of names (take i old) ++ value_of names (get_or old i d) ∷ [] = ap (values_of names) (take_more old i d below) ∙ map-append (value_of names) (take i old) (get_or old i d ∷ []) in
    rw (a, b) (long_more (values_of names (take i new)) (values_of names (take i old)) (value_of names w) (value_of names (get_or old i d)) done (rw same at given))

pub long_stop : (names : Names) (old new : List V.Value) (i : ℕ) (d : V.Value) (fault : Fault) → i < length new → length new ≡ length old → drop i new ≡ drop i old
    → Meets (Ok (values_of names (take i new))) (all_long (values_of names (take i old)))
    → Meets {A = Value} (Err fault) (at_type (TyInt K.Long) (value_of names (get_or new i d)))
    → Meets {A = List Value} (Err fault) (all_long (values_of names old))
long_stop names old new i d fault h l e done given =
    let below : i < length old = omega arith in
    let same : get_or new i d ≡ get_or old i d = same_at old new i d h below e in
    let b : values_of names old ≡ values_of names (take i old) ++ value_of names (get_or old i d) ∷ values_of names (drop (i + 1) old) = ap (values_of names) (split old i d below) ∙ map-append (value_of names) (take i old) (get_or old i d ∷ drop (i + 1) old) in
    rw b (long_fault (values_of names (take i new)) (values_of names (take i old)) (values_of names (drop (i + 1) old)) fault (value_of names (get_or old i d)) done (rw same at given))
