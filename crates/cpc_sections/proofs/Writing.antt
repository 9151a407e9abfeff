-- Cells that go back, one by one.
use Rattle.std.proofs.Common.{◌≡◌, ℕ, suc, ◌+◌, ◌<◌, List, ◌∷◌, length, drop, get_or, Result, Ok, Err, sym, ap, ◌∙◌, add-one}
use Rattle.std.specs.Result.{result_map_both, IsErrAnd}
use Rattle.std.proofs.Math.Seq.{drop-cons}
use Rattle.cpc_base.specs.declared.names.Name.{Name}
use Rattle.cpc_num.specs.declared.kinds.Fault.{Fault}
use Rattle.cpc_tree.specs.Erase.{Names}
use Rattle.cpc_store.specs.declared.values.Class.{Class}
use Rattle.cpc_store.specs.declared.values.Value as V
use Rattle.cpc_store.specs.Store.{Value, Store, StoreOf, save}
use Rattle.cpc_store.specs.Seen.{seen, result_with}
use Rattle.cpc_store.proofs.CodeLemmas.{save-map}
use Rattle.cpc_meaning.specs.Answer.{Answer, Faults, ◌>>=◌, of_result}
use Rattle.cpc_meaning.specs.Copies.{write_back}
use Rattle.cpc_eval_values.specs.Shown.{value_of, store_of}

-- the element of a number that is looked up stands before those behind it
pub next_at : {X : Type 0} (xs : List X) (i : ℕ) (d : X) → i < length xs → drop i xs ≡ get_or xs i d ∷ drop (i + 1) xs
next_at xs i d lt = drop-cons xs i d lt ∙ ap (λ j. get_or xs i d ∷ drop j xs) (sym (add-one i))

module _ (names : Names) (v : V.Value) (rest : List Value) (c : Class) (n j : ℕ) (s : StoreOf Name) where
  -- the rest is written to what a save comes to
  abbrev goes_on : Result (StoreOf Name) Fault → Answer Store
  goes_on r = of_result (result_map_both (store_of names) (λ fault. fault) r) >>= λ t. write_back rest c n (suc j) t

  opened : write_back (value_of names v ∷ rest) c n j (store_of names s) ≡ goes_on (save c n j (seen v) s)
  opened = ap (λ r. of_result r >>= λ t. write_back rest c n (suc j) t) (save-map names c n j (seen v) s)

  pub one_back : (new : StoreOf Name) → Ok new ≡ save c n j (seen v) s → write_back (value_of names v ∷ rest) c n j (store_of names s) ≡ write_back rest c n (suc j) (store_of names new)
  one_back new e = opened ∙ ap goes_on (sym e)

  pub not_back : (fault : Fault) → Err fault ≡ save c n j (seen v) s → write_back (value_of names v ∷ rest) c n j (store_of names s) ≡ Faults fault
  not_back fault e = opened ∙ ap goes_on (sym e)

-- what was refused with a fault
pub refused : {T U : Type 0} (u : U) (r : Result T Fault) (fault : Fault) → IsErrAnd r (λ other. other ≡ fault) → of_result (result_with u r) ≡ Faults fault
refused u (Ok x) fault h = absurd h
refused u (Err other) fault h = ap Faults h
