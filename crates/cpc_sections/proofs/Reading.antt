-- Cells that are read as integers.
use Rattle.std.proofs.Common.{◌≡◌, ℕ, zero, suc, ◌+◌, ◌<◌, ◌≤◌, Bool, true, false, List, [], ◌∷◌, ◌++◌, length, take, get_or, map, Option, Some, None, Ok, Err, refl, sym, ap, ◌∙◌, add-one, arith}
use Rattle.std.specs.Prelude.{if◌then◌else◌, is_some, ◌&&◌}
use Rattle.std.specs.Option.{option_map}
use Rattle.std.proofs.lemmas.List.{map-append, take_all}
use Rattle.std.proofs.Math.Seq.{take-suc}
use Rattle.cpc_base.specs.declared.names.Name.{Name}
use Rattle.cpc_base.proofs.Truth.{and_with_false}
use Rattle.cpc_num.specs.declared.kinds.Kind.{Kind}
use Rattle.cpc_num.specs.declared.kinds.Kind.TheVariants as K
use Rattle.cpc_num.specs.declared.kinds.Fault.TheVariants as F
use Rattle.cpc_store.specs.declared.values.Scalar.{Scalar}
use Rattle.cpc_store.specs.declared.values.Scalar.TheVariants as S
use Rattle.cpc_store.specs.declared.values.Value as V
use Rattle.cpc_store.specs.Store.{ValueOf, Unset, Whole, Null, At, Code, Cond, suits, load_block, load_cell}
use Rattle.cpc_store.specs.Seen.{seen}
use Rattle.cpc_sections.specs.Reads.{is_integer, are_integers, cell_at, ReadKind, ReadAs}

-- ---- one cell

pub loaded : {C : Type 0} (wanted : Scalar) (o : Option (List (ValueOf C))) (k : ℕ) (v : ValueOf C) → cell_at o k ≡ Some v → load_block wanted o k ≡ (if suits wanted v then Ok v else Err F.Kind)
loaded wanted None k v e = absurd cc
loaded wanted (Some cells) k v e = ap (load_cell wanted) e

whole : {C : Type 0} (kind : Kind) (v : ValueOf C) → suits (S.Int kind) v ≡ true → is_integer v ≡ true
whole kind Unset e = refl
whole kind (Whole k z) e = refl
whole kind Null e = absurd (cc e)
whole kind (At c n k) e = absurd (cc e)
whole kind (Code f) e = absurd (cc e)
whole kind (Cond n) e = absurd (cc e)

pub some_read : (kind : Kind) (o : Option V.Value) (v : ValueOf Name) → is_some o ≡ true → ReadKind kind o v → ReadAs o v
some_read kind None v e h = absurd (cc e)
some_read kind (Some w) v e h = (h.0, whole kind v h.1)

pub none_read : (kind : Kind) (o : Option V.Value) (v : ValueOf Name) → is_some o ≡ false → ReadKind kind o v → suits (S.Int kind) v ≡ false
none_read kind None v e h = h
none_read kind (Some w) v e h = absurd (cc e)

-- it holds no integer
abbrev Holds : Kind → ValueOf Name → Type 0
Holds kind v = suits (S.Int kind) v ≡ false

no_kind : (v : ValueOf Name) → Holds K.Int v → Holds K.Long v → Holds K.Char v → Holds K.UChar v → Holds K.UInt v → Holds K.ULong v → is_integer v ≡ false
no_kind Unset a b c d e f = absurd (cc a)
no_kind (Whole K.Int z) a b c d e f = absurd (cc a)
no_kind (Whole K.Long z) a b c d e f = absurd (cc b)
no_kind (Whole K.Char z) a b c d e f = absurd (cc c)
no_kind (Whole K.UChar z) a b c d e f = absurd (cc d)
no_kind (Whole K.UInt z) a b c d e f = absurd (cc e)
no_kind (Whole K.ULong z) a b c d e f = absurd (cc f)
no_kind Null a b c d e f = refl
no_kind (At c n k) a b x d e f = refl
no_kind (Code g) a b c d e f = refl
no_kind (Cond n) a b c d e f = refl

pub last_read : (o : Option V.Value) (v : ValueOf Name) → Holds K.Int v → Holds K.Long v → Holds K.Char v → Holds K.UChar v → Holds K.UInt v → ReadKind K.ULong o v → ReadAs o v
last_read None v a b c d e f = no_kind v a b c d e f
last_read (Some w) v a b c d e f = (f.0, whole K.ULong v f.1)

-- ---- all cells

pub sized : {A : Type 0} (o : Option (List A)) (xs : List A) (n : ℕ) → o ≡ Some xs → Some n ≡ option_map length o → n ≡ length xs
sized None xs n e h = absurd (cc e)
sized (Some ys) xs n e h = cc

both : {C : Type 0} (xs : List (ValueOf C)) (v : ValueOf C) → are_integers xs ≡ true → is_integer v ≡ true → are_integers (xs ++ v ∷ []) ≡ true
both [] v h k = ap (λ b. b && true) k
both (x ∷ xs) v h k = go (is_integer x) (λ e. both xs v e k) h
  where
    go : (b : Bool) → (are_integers xs ≡ true → are_integers (xs ++ v ∷ []) ≡ true) → (b && are_integers xs) ≡ true → (b && are_integers (xs ++ v ∷ [])) ≡ true
    go true more e = more e
    go false more e = absurd (cc e)

pub no_integer : {C : Type 0} (cells : List (ValueOf C)) (k : ℕ) (d : ValueOf C) → k < length cells → is_integer (get_or cells k d) ≡ false → are_integers cells ≡ false
no_integer [] k d lt e = absurd (omega arith)
no_integer (v ∷ vs) zero d lt e = ap (λ b. b && are_integers vs) e
no_integer (v ∷ vs) (suc k) d lt e = ap (λ b. is_integer v && b) (no_integer vs k d (omega arith) e) ∙ and_with_false (is_integer v)

pub read_next : (read new : List V.Value) (v : V.Value) (cells : List (ValueOf Name)) (k : ℕ) → k < length cells → new ≡ read ++ v ∷ [] → map seen read ≡ take k cells → are_integers (take k cells) ≡ true
    → seen v ≡ get_or cells k Unset → is_integer (get_or cells k Unset) ≡ true → (map seen new ≡ take (k + 1) cells) × (are_integers (take (k + 1) cells) ≡ true)
read_next read new v cells k lt is was are same one =
    let more : take (k + 1) cells ≡ take k cells ++ get_or cells k Unset ∷ [] = ap (λ m. take m cells) (add-one k) ∙ take-suc cells k Unset lt in
    (ap (map seen) is ∙ map-append seen read (v ∷ []) ∙ ap (λ xs. xs ++ seen v ∷ []) was ∙ ap (λ x. take k cells ++ x ∷ []) same ∙ sym more, ap are_integers more ∙ both (take k cells) (get_or cells k Unset) are one)

pub read_all : (read : List V.Value) (cells : List (ValueOf Name)) (k : ℕ) → length cells ≤ k → map seen read ≡ take k cells → are_integers (take k cells) ≡ true → (map seen read ≡ cells) × (are_integers cells ≡ true)
read_all read cells k le was are =
    let all : take k cells ≡ cells = take_all k cells le in
    (was ∙ all, ap are_integers (sym all) ∙ are)
