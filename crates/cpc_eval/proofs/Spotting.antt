-- What places hold, and where they are.
use Rattle.std.proofs.Common.{◌≡◌, ℕ, pos, List, Option, Some, None, Result, Ok, Err, refl, ap, sym, subst, ◌∙◌}
use Rattle.std.specs.Prelude.{slice_get}
use Rattle.std.specs.Result.{result_map_both}
use Rattle.cpc_base.specs.Bytes.{Text}
use Rattle.cpc_num.specs.declared.kinds.Fault.{Fault}
use Rattle.cpc_tree.specs.Erase.{Names, type_of}
use Rattle.cpc_tree.specs.Syntax.{Ty, TyArray, Program}
use Rattle.cpc_tree.specs.Typing as T
use Rattle.cpc_tree.specs.Typing.{◌>>=◌ as ◌>>>◌}
use Rattle.cpc_tree.specs.declared.program.Mode.{Mode}
use Rattle.cpc_tree.specs.declared.program.Mode.TheVariants as M
use Rattle.cpc_store.specs.declared.values.Class.{Class}
use Rattle.cpc_store.specs.declared.values.Class.TheVariants.{Static}
use Rattle.cpc_store.specs.declared.values.Scalar.{Scalar}
use Rattle.cpc_store.specs.declared.values.Value as V
use Rattle.cpc_store.specs.Store.{Value, StoreOf, load}
use Rattle.cpc_store.specs.Store as S
use Rattle.cpc_store.specs.Seen.{seen_result}
use Rattle.cpc_store.specs.Codes.{map_value}
use Rattle.cpc_store.proofs.CodeLemmas.{load-map}
use Rattle.cpc_base.specs.declared.names.Name.{Name}
use Rattle.cpc_meaning.specs.Answer.{◌>>=◌, of_result, needed}
use Rattle.cpc_meaning.specs.Layout.{scalar_of}
use Rattle.cpc_meaning.specs.Eval as E
use Rattle.cpc_eval_index.specs.Meanings.{meant_of}
use Rattle.cpc_eval_index.specs.Sized.{capped, capped_field}
use Rattle.cpc_eval_index.specs.declared.meant.Meant.{Meant}
use Rattle.cpc_eval_index.specs.declared.meant.Meant.TheVariants as G
use Rattle.cpc_eval_values.specs.Meets.{Meets}
use Rattle.cpc_eval_values.specs.Shown.{shown, store_of}
use Rattle.cpc_eval_values.proofs.Meeting.{meets_then, meets_fault}
use Rattle.cpc_eval.specs.Shapes.{field_among, Agrees}
use Rattle.cpc_eval.specs.Spots.{cell_read, code_named}

-- ---- loads

meets_result : {A : Type 0} (r q : Result A Fault) → r ≡ q → Meets r (of_result q)
meets_result r (Ok x) e = e
meets_result r (Err fault) e = e

shown_seen : (names : Names) (r : Result V.Value Fault) → shown names r ≡ result_map_both (map_value names) (λ fault. fault) (seen_result r)
shown_seen names (Ok v) = refl
shown_seen names (Err fault) = refl

pub cell_loaded : (names : Names) (t : Ty) (wanted : Scalar) (c : Class) (n k : ℕ) (s : StoreOf Name) (r : Result V.Value Fault) → Some wanted ≡ scalar_of t → seen_result r ≡ load wanted c n k s
    → Meets (shown names r) (cell_read t c n k (store_of names s))
cell_loaded names t wanted c n k s r e f =
    let g : shown names r ≡ load wanted c n k (store_of names s) = shown_seen names r ∙ ap (result_map_both (map_value names) (λ fault. fault)) f ∙ sym (load-map names wanted c n k s) in
    let P : Option Scalar → Type 0 = λ o. Meets (shown names r) (needed o >>= (λ w. of_result (load w c n k (store_of names s)))) in
    subst P e (meets_result _ _ g)

-- ---- reads

pub read_slot : (slots : List E.Slot) (s : S.Store) (t : Ty) (k : ℕ) → E.read slots s (Some t) (E.InSlot k) ≡ E.slot_value (slice_get slots k)
read_slot slots s (TyArray t n) k = refl
read_slot slots s _ k = refl

module _ (names : Names) (meant : Meant) (slots : List E.Slot) (s : S.Store) (x : Text) where
  pub local_read : (slot : ℕ) (of : _) (spot : E.Spot) (r : Result Value Fault) → meant ≡ G.Local slot of → Meets (Ok spot) (E.spot_named slots (meant_of names meant))
      → Meets r (E.read slots s (Some (type_of names of.now)) spot) → Meets r (E.value_named slots s x (meant_of names meant))
  local_read slot of spot r is h g = rw is (meets_then spot (E.spot_named slots (T.ALocal slot (type_of names of.now))) (λ y. E.read slots s (Some (type_of names of.now)) y) r (rw is at h) g)

  pub global_read : (n : ℕ) (of : _) (spot : E.Spot) (r : Result Value Fault) → meant ≡ G.Global n of → spot ≡ E.InCell Static n 0
      → Meets r (E.read slots s (Some (type_of names of.now)) spot) → Meets r (E.value_named slots s x (meant_of names meant))
  global_read n of spot r is at g = rw is (rw at at g)

  pub code_read : (mode : Mode) (q : _) (ps : _) (r : Result Value Fault) → meant ≡ G.Function mode q ps → Meets r (code_named mode x) → Meets r (E.value_named slots s x (meant_of names meant))
  code_read M.Native q ps r is g = rw is g
  code_read M.Detached q ps r is g = rw is g
  code_read M.Cps q ps r is g = rw is tt
  code_read M.Extern q ps r is g = rw is tt

  pub code_address : (mode : Mode) (q : _) (ps : _) (r : Result Value Fault) → meant ≡ G.Function mode q ps → Meets r (code_named mode x) → Meets r (E.address_named slots x (meant_of names meant))
  code_address M.Native q ps r is g = rw is g
  code_address M.Detached q ps r is g = rw is g
  code_address M.Cps q ps r is g = rw is tt
  code_address M.Extern q ps r is g = rw is tt

-- ---- fields

field_bound : (p : Program) (s : S.Store) (o : Option Ty) (x : Text) (v : Value) → E.field_spot p s o x v ≡ (needed (field_among p o x) >>= (λ f. E.moved s v (pos f.0) >>= E.pointed))
field_bound p s None x v = refl
field_bound p s (Some t) x v = go (T.struct_tag t)
  where
    go : (tag : Option Text) → (needed tag >>= (λ y. needed (T.field p y x) >>= (λ f. E.moved s v (pos f.0) >>= (λ w. E.pointed w))))
        ≡ (needed (tag >>> (λ y. T.field p y x)) >>= (λ f. E.moved s v (pos f.0) >>= E.pointed))
    go None = refl
    go (Some tag) = refl

-- the type of a field that was found
pub field_typed : (p : Program) (o : Option Ty) (x : Text) (n : ℕ) (t : Ty) → Some (n, t) ≡ capped_field (field_among p o x) → Agrees (Some (T.APlace t)) (T.field_type p o x)
field_typed p None x n t e = tt
field_typed p (Some u) x n t e = go (T.struct_tag u) e
  where
    last : (q : Option (ℕ × Ty)) → Some (n, t) ≡ capped_field q → Agrees (Some (T.APlace t)) (q >>> (λ f. Some (T.APlace f.1)))
    last None e = tt
    last (Some f) e = let d : (n, t) ≡ (capped f.0, f.1) = cc in ap (λ (y : ℕ × Ty). Some (T.APlace y.1)) d

    go : (tag : Option Text) → Some (n, t) ≡ capped_field (tag >>> (λ y. T.field p y x)) → Agrees (Some (T.APlace t)) (tag >>> (λ y. T.field p y x >>> (λ f. Some (T.APlace f.1))))
    go None e = tt
    go (Some y) e = last (T.field p y x) e

pub field_met : (p : Program) (s : S.Store) (o : Option Ty) (x : Text) (v there : Value) (n : ℕ) (t : Ty) (r : Result E.Spot Fault) → Some (n, t) ≡ capped_field (field_among p o x)
    → ((m : ℕ) → n ≡ capped m → Meets (Ok there) (E.moved s v (pos m))) → Meets r (E.pointed there) → Meets r (E.field_spot p s o x v)
field_met p s o x v there n t r e h g = rw (field_bound p s o x v) (go (field_among p o x) e)
  where
    go : (q : Option (ℕ × Ty)) → Some (n, t) ≡ capped_field q → Meets r (needed q >>= (λ f. E.moved s v (pos f.0) >>= E.pointed))
    go None e = cc
    go (Some f) e = let d : (n, t) ≡ (capped f.0, f.1) = cc in meets_then there (E.moved s v (pos f.0)) E.pointed r (h f.0 (ap (λ (y : ℕ × Ty). y.0) d)) g

pub field_fault : (p : Program) (s : S.Store) (o : Option Ty) (x : Text) (v : Value) (n : ℕ) (t : Ty) (fault : Fault) → Some (n, t) ≡ capped_field (field_among p o x)
    → ((m : ℕ) → n ≡ capped m → Meets {A = Value} (Err fault) (E.moved s v (pos m))) → Meets {A = E.Spot} (Err fault) (E.field_spot p s o x v)
field_fault p s o x v n t fault e h = rw (field_bound p s o x v) (go (field_among p o x) e)
  where
    go : (q : Option (ℕ × Ty)) → Some (n, t) ≡ capped_field q → Meets {A = E.Spot} (Err fault) (needed q >>= (λ f. E.moved s v (pos f.0) >>= E.pointed))
    go None e = cc
    go (Some f) e = let d : (n, t) ≡ (capped f.0, f.1) = cc in meets_fault fault (E.moved s v (pos f.0)) E.pointed (h f.0 (ap (λ (y : ℕ × Ty). y.0) d))
