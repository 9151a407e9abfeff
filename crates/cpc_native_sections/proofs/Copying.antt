-- Cells that are copied, one by one.
use Rattle.std.proofs.Common.{◌≡◌, ℕ, suc, ◌+◌, ◌<◌, ◌≤◌, List, [], ◌∷◌, ◌++◌, length, drop, get_or, Result, Ok, Err, refl, sym, ap, subst, ◌∙◌, append_assoc, arith}
use Rattle.std.proofs.lemmas.List.{append-nil, map-append, drop_all}
use Rattle.std.specs.Result.{result_map_both}
use Rattle.cpc_base.specs.declared.names.Name.{Name}
use Rattle.cpc_num.specs.declared.kinds.Fault.{Fault}
use Rattle.cpc_tree.specs.Erase.{Names}
use Rattle.cpc_store.specs.declared.values.Class.{Class}
use Rattle.cpc_store.specs.declared.values.Scalar.{Scalar}
use Rattle.cpc_store.specs.declared.values.Value as V
use Rattle.cpc_store.specs.Store.{Value, StoreOf, load}
use Rattle.cpc_store.specs.Seen.{seen}
use Rattle.cpc_store.specs.Codes.{map_value}
use Rattle.cpc_store.proofs.CodeLemmas.{load-map}
use Rattle.cpc_meaning.specs.Answer.{Answer, Gives, Faults, NoAnswer, ◌>>=◌, of_result}
use Rattle.cpc_meaning.specs.Copies.{copied}
use Rattle.cpc_sections.proofs.Writing.{next_at}
use Rattle.cpc_eval_values.specs.Meets.{Meets}
use Rattle.cpc_eval_values.specs.Shown.{value_of, values_of, store_of}

-- these values stand before those of the answer
abbrev pub before : List Value → Answer (List Value) → Answer (List Value)
before vs a = a >>= λ ws. Gives (vs ++ ws)

before_none : (a : Answer (List Value)) → a ≡ before [] a
before_none (Gives ws) = refl
before_none (Faults fault) = refl
before_none NoAnswer = refl

before_all : (vs : List Value) → before vs (Gives []) ≡ Gives vs
before_all vs = ap Gives (append-nil vs)

before_more : (vs : List Value) (v : Value) (a : Answer (List Value)) → before vs (a >>= λ ws. Gives (v ∷ ws)) ≡ before (vs ++ v ∷ []) a
before_more vs v (Gives ws) = ap Gives (sym (append_assoc vs (v ∷ []) ws))
before_more vs v (Faults fault) = refl
before_more vs v NoAnswer = refl

module _ (names : Names) (wanted : Scalar) (rest : List Scalar) (c : Class) (n j : ℕ) (s : StoreOf Name) where
  -- the rest is copied behind what a load comes to
  abbrev goes_on : Result (V.Value) Fault → Answer (List Value)
  goes_on r = of_result (result_map_both (value_of names) (λ fault. fault) r) >>= λ v. copied rest c n (suc j) (store_of names s) >>= λ vs. Gives (v ∷ vs)

  opened : (r : Result V.Value Fault) → result_map_both seen (λ fault. fault) r ≡ load wanted c n j s → copied (wanted ∷ rest) c n j (store_of names s) ≡ goes_on r
  opened r e =
      ap (λ l. of_result l >>= λ v. copied rest c n (suc j) (store_of names s) >>= λ vs. Gives (v ∷ vs)) (load-map names wanted c n j s ∙ ap (result_map_both (map_value names) (λ fault. fault)) (sym e))
      ∙ joined r
    where
      joined : (r : Result V.Value Fault) → (of_result (result_map_both (map_value names) (λ fault. fault) (result_map_both {D = Fault} seen (λ fault. fault) r)) >>= λ v. copied rest c n (suc j) (store_of names s) >>= λ vs. Gives (v ∷ vs)) ≡ goes_on r
      joined (Ok v) = refl
      joined (Err fault) = refl

  one_copied : (vs : List V.Value) (v : V.Value) → Ok (seen v) ≡ load wanted c n j s
      → before (values_of names vs) (copied (wanted ∷ rest) c n j (store_of names s)) ≡ before (values_of names (vs ++ v ∷ [])) (copied rest c n (suc j) (store_of names s))
  one_copied vs v e =
      ap (before (values_of names vs)) (opened (Ok v) e) ∙ before_more (values_of names vs) (value_of names v) (copied rest c n (suc j) (store_of names s))
      ∙ ap (λ ws. before ws (copied rest c n (suc j) (store_of names s))) (sym (map-append (value_of names) vs (v ∷ [])))

  not_copied : (vs : List Value) (fault : Fault) → Err fault ≡ load wanted c n j s → before vs (copied (wanted ∷ rest) c n j (store_of names s)) ≡ Faults fault
  not_copied vs fault e = ap (before vs) (opened (Err fault) e)

-- ---- the cells so far stand before those that are left

module _ (names : Names) (row : List Scalar) (c : Class) (n offset : ℕ) (s : StoreOf Name) where
  abbrev whole : Answer (List Value)
  whole = copied row c n offset (store_of names s)

  -- so many cells were copied, and they are these
  abbrev pub Copied : ℕ → List V.Value → Type 0
  Copied k vs = whole ≡ before (values_of names vs) (copied (drop k row) c n (offset + k) (store_of names s))

  pub copy_begins : Copied 0 []
  copy_begins = before_none whole ∙ ap (λ m. before [] (copied row c n m (store_of names s))) (omega arith)

  module _ (k : ℕ) (vs : List V.Value) (told : Copied k vs) where
    opened_at : (d : Scalar) → k < length row → whole ≡ before (values_of names vs) (copied (get_or row k d ∷ drop (k + 1) row) c n (offset + k) (store_of names s))
    opened_at d lt = told ∙ ap (λ r. before (values_of names vs) (copied r c n (offset + k) (store_of names s))) (next_at row k d lt)

    pub copy_goes_on : (d : Scalar) (v : V.Value) → k < length row → Ok (seen v) ≡ load (get_or row k d) c n (offset + k) s → Copied (k + 1) (vs ++ v ∷ [])
    copy_goes_on d v lt e =
        opened_at d lt ∙ one_copied names (get_or row k d) (drop (k + 1) row) c n (offset + k) s vs v e
        ∙ ap (λ m. before (values_of names (vs ++ v ∷ [])) (copied (drop (k + 1) row) c n m (store_of names s))) (omega arith)

    pub copy_fails : (d : Scalar) (fault : Fault) → k < length row → Err fault ≡ load (get_or row k d) c n (offset + k) s → Meets (Err fault) whole
    copy_fails d fault lt e = subst (Meets (Err fault)) (sym (opened_at d lt ∙ not_copied names (get_or row k d) (drop (k + 1) row) c n (offset + k) s (values_of names vs) fault e)) refl

    pub copy_ends : length row ≤ k → Meets (Ok (values_of names vs)) whole
    copy_ends le =
        subst (Meets (Ok (values_of names vs)))
        (sym (told ∙ ap (λ r. before (values_of names vs) (copied r c n (offset + k) (store_of names s))) (drop_all k row le) ∙ before_all (values_of names vs))) refl
