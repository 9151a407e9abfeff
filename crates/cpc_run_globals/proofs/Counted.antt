-- The cells of the store at the start are those of the globals.
use Rattle.std.proofs.Common.{◌≡◌, ℕ, ◌+◌, ◌-◌, ◌^◌, ◌<◌, ◌≤◌, min, suc, List, [], ◌∷◌, length, drop, get_or, map, Option, Some, None, option_map, refl, sym, ap, subst, ◌∙◌, arith}
use Rattle.std.proofs.lemmas.List.{length-map, drop_all}
use Rattle.cpc_base.specs.Bytes.{Text}
use Rattle.cpc_base.proofs.Lists.{drop_to_item}
use Rattle.cpc_num.specs.declared.kinds.Kind.{Kind}
use Rattle.cpc_store.specs.declared.values.Class.TheVariants.{Static}
use Rattle.cpc_store.specs.declared.values.Scalar.{Scalar}
use Rattle.cpc_store.specs.declared.values.Scalar.TheVariants as S
use Rattle.cpc_store.specs.Store.{Value, Store, empty_store, store_cells, alloc}
use Rattle.cpc_store.proofs.CellLemmas.{store_cells-alloc}
use Rattle.cpc_tree.specs.Erase.{Names, item_of}
use Rattle.cpc_tree.specs.Syntax.{Ty, Expr, ENamed, EInteger, ECharacter, EText, EUnary, EBinary, EAnd, EOr, EChoose, ECast, ESizeOf, EIndex, EMember, EArrow, ECall, Item, StructItem, GlobalItem, PrototypeItem, FunctionItem, Program}
use Rattle.cpc_tree.specs.declared.program.Item as I
use Rattle.cpc_tree.specs.declared.program.UnaryOp.TheVariants.{Minus, Plus, Not, Complement, Dereference, AddressOf}
use Rattle.cpc_tree.specs.Typing.{Cells, cells, ◌>>=◌}
use Rattle.cpc_tree.proofs.Counted.{present_step, absent_step}
use Rattle.cpc_meaning.specs.Answer.{Answer, Gives, Faults, NoAnswer, needed, ◌>>=◌ as ◌>>>◌}
use Rattle.cpc_meaning.specs.Layout.{scalar_of, scalars}
use Rattle.cpc_meaning.specs.Start.{zero_of, text_over, start_cells, make_globals, globals}
use Rattle.cpc_eval_index.specs.Sized.{capped}
use Rattle.cpc_run_globals.specs.Counts.{item_cells, all_cells}
use Rattle.cpc_run_globals.proofs.Held.{Whole, type_whole}
use Rattle.std.specs.Prelude.{reverse}

-- ---- a global has as many cells as its row is long

-- each cell holds one scalar
scalars_length : (ts : List Ty) (xs : List Scalar) → scalars ts ≡ Some xs → length xs ≡ length ts
scalars_length [] xs e = let f : [] ≡ xs = cc in ap length (sym f)
scalars_length (t ∷ ts) xs e = go (scalar_of t) (scalars ts) (λ ys h. scalars_length ts ys h) e
  where
    go : (o : Option Scalar) (p : Option (List Scalar)) → ((ys : List Scalar) → p ≡ Some ys → length ys ≡ length ts) → (o >>= (λ x. p >>= (λ ys. Some (x ∷ ys)))) ≡ Some xs → length xs ≡ suc (length ts)
    go None p h e = cc
    go (Some x) None h e = cc
    go (Some x) (Some ys) h e = let f : x ∷ ys ≡ xs = cc in ap length (sym f) ∙ ap suc (h ys refl)

-- a string over cells leaves their number
text_length : (bs : Text) (vs : List Value) → length (text_over bs vs) ≡ length vs
text_length bs [] = refl
text_length [] (v ∷ vs) = refl
text_length (b ∷ bs) (v ∷ vs) = ap suc (text_length bs vs)

zeros_length : (row : List Scalar) → length (map zero_of row) ≡ length row
zeros_length row = length-map row zero_of

-- a number fills the one cell of an integer
integer_length : (j : Kind) (z : _) (row : List Scalar) → length (start_cells (Some (EInteger j z)) row) ≡ length row
integer_length j z [] = refl
integer_length j z (S.Int kind ∷ []) = refl
integer_length j z (S.Pointer ∷ row) = zeros_length (S.Pointer ∷ row)
integer_length j z (S.Code ∷ row) = zeros_length (S.Code ∷ row)
integer_length j z (S.Cond ∷ row) = zeros_length (S.Cond ∷ row)
integer_length j z (S.Int kind ∷ y ∷ row) = zeros_length (S.Int kind ∷ y ∷ row)

character_length : (z : _) (row : List Scalar) → length (start_cells (Some (ECharacter z)) row) ≡ length row
character_length z [] = refl
character_length z (S.Int kind ∷ []) = refl
character_length z (S.Pointer ∷ row) = zeros_length (S.Pointer ∷ row)
character_length z (S.Code ∷ row) = zeros_length (S.Code ∷ row)
character_length z (S.Cond ∷ row) = zeros_length (S.Cond ∷ row)
character_length z (S.Int kind ∷ y ∷ row) = zeros_length (S.Int kind ∷ y ∷ row)

minus_length : (j : Kind) (z : _) (row : List Scalar) → length (start_cells (Some (EUnary Minus (EInteger j z))) row) ≡ length row
minus_length j z [] = refl
minus_length j z (S.Int kind ∷ []) = refl
minus_length j z (S.Pointer ∷ row) = zeros_length (S.Pointer ∷ row)
minus_length j z (S.Code ∷ row) = zeros_length (S.Code ∷ row)
minus_length j z (S.Cond ∷ row) = zeros_length (S.Cond ∷ row)
minus_length j z (S.Int kind ∷ y ∷ row) = zeros_length (S.Int kind ∷ y ∷ row)

-- a minus before anything
operand_length : (e : Expr) (row : List Scalar) → length (start_cells (Some (EUnary Minus e)) row) ≡ length row
operand_length (EInteger j z) row = minus_length j z row
operand_length (ENamed x) row = zeros_length row
operand_length (ECharacter z) row = zeros_length row
operand_length (EText bs) row = zeros_length row
operand_length (EUnary op e) row = zeros_length row
operand_length (EBinary op e f) row = zeros_length row
operand_length (EAnd e f) row = zeros_length row
operand_length (EOr e f) row = zeros_length row
operand_length (EChoose e f g) row = zeros_length row
operand_length (ECast t e) row = zeros_length row
operand_length (ESizeOf t) row = zeros_length row
operand_length (EIndex e f) row = zeros_length row
operand_length (EMember e x) row = zeros_length row
operand_length (EArrow e x) row = zeros_length row
operand_length (ECall f es) row = zeros_length row

written_length : (e : Expr) (row : List Scalar) → length (start_cells (Some e) row) ≡ length row
written_length (EInteger j z) row = integer_length j z row
written_length (ENamed x) row = zeros_length row
written_length (ECharacter z) row = character_length z row
written_length (EText bs) row = text_length bs (map zero_of row) ∙ zeros_length row
written_length (EUnary Minus e) row = operand_length e row
written_length (EUnary Plus e) row = zeros_length row
written_length (EUnary Not e) row = zeros_length row
written_length (EUnary Complement e) row = zeros_length row
written_length (EUnary Dereference e) row = zeros_length row
written_length (EUnary AddressOf e) row = zeros_length row
written_length (EBinary op e f) row = zeros_length row
written_length (EAnd e f) row = zeros_length row
written_length (EOr e f) row = zeros_length row
written_length (EChoose e f g) row = zeros_length row
written_length (ECast t e) row = zeros_length row
written_length (ESizeOf t) row = zeros_length row
written_length (EIndex e f) row = zeros_length row
written_length (EMember e x) row = zeros_length row
written_length (EArrow e x) row = zeros_length row
written_length (ECall f es) row = zeros_length row

-- whatever is written for a global
start_length : (start : Option Expr) (row : List Scalar) → length (start_cells start row) ≡ length row
start_length None row = zeros_length row
start_length (Some e) row = written_length e row

-- ---- the store of the globals

-- a store has so many cells more than before, or there is none and no count
abbrev Adds : (before : ℕ) → Answer Store → Option ℕ → Type 0
Adds before (Gives t) (Some n) = store_cells t ≡ before + n
Adds before NoAnswer None = Unit {0}
Adds before _ _ = ⊥

-- behind a block of m cells
adds_behind : (a : Answer Store) (o : Option ℕ) (before after m : ℕ) → after ≡ before + m → Adds after a o → Adds before a (o >>= (λ n. Some (m + n)))
adds_behind (Gives t) (Some n) before after m e h = omega arith
adds_behind (Gives t) None before after m e h = h
adds_behind NoAnswer None before after m e h = tt
adds_behind NoAnswer (Some n) before after m e h = h
adds_behind (Faults fault) None before after m e h = h
adds_behind (Faults fault) (Some n) before after m e h = h

-- the blocks of the globals among these items
adds_all : (p : Program) (items : List Item) (s : Store) → Adds (store_cells s) (make_globals p items s) (all_cells p items)
adds_all p [] s = omega arith
adds_all p (StructItem tag fs ∷ items) s = adds_behind (make_globals p items s) (all_cells p items) (store_cells s) (store_cells s) 0 (omega arith) (adds_all p items s)
adds_all p (PrototypeItem mode f r ps ∷ items) s = adds_behind (make_globals p items s) (all_cells p items) (store_cells s) (store_cells s) 0 (omega arith) (adds_all p items s)
adds_all p (FunctionItem f ∷ items) s = adds_behind (make_globals p items s) (all_cells p items) (store_cells s) (store_cells s) 0 (omega arith) (adds_all p items s)
adds_all p (GlobalItem x t start ∷ items) s = go (cells p t) (type_whole (reverse p) t) (λ u. adds_all p items u)
  where
    go : (o : Cells) → Whole o → ((u : Store) → Adds (store_cells u) (make_globals p items u) (all_cells p items))
        → Adds (store_cells s) (needed (o >>= scalars) >>> (λ row. make_globals p items (alloc Static (start_cells start row) s))) ((o >>= (λ xs. Some (length xs))) >>= (λ m. all_cells p items >>= (λ n. Some (m + n))))
    go None h again = tt
    go (Some ts) h again =
        let u : Store = alloc Static (start_cells start h.0) s in
        let many : store_cells u ≡ store_cells s + length ts = store_cells-alloc Static (start_cells start h.0) s ∙ ap (λ n. store_cells s + n) (start_length start h.0 ∙ scalars_length ts h.0 h.1) in
        subst (λ (r : Option (List Scalar)). Adds (store_cells s) (needed r >>> (λ row. make_globals p items (alloc Static (start_cells start row) s))) (all_cells p items >>= (λ n. Some (length ts + n)))) (sym h.1)
        (adds_behind (make_globals p items u) (all_cells p items) (store_cells s) (store_cells u) (length ts) many (again u))

stored : (a : Answer Store) (o : Option ℕ) (total : ℕ) → Adds 0 a o → option_map capped o ≡ Some total → total ≡ min (store_cells (globals a)) (2 ^ 64 - 1)
stored (Gives t) (Some n) total h e = let f : capped n ≡ total = cc in let g : n ≡ store_cells t = omega arith in sym f ∙ ap capped g
stored (Gives t) None total h e = cc
stored NoAnswer None total h e = cc
stored NoAnswer (Some n) total h e = absurd h
stored (Faults fault) None total h e = cc
stored (Faults fault) (Some n) total h e = absurd h

-- all are counted
pub all_stored : (names : Names) (items : List I.Item) (i total : ℕ) → length items ≤ i → total < 2 ^ 64
    → option_map capped (all_cells (map (item_of names) items) (map (item_of names) items)) ≡ option_map (λ n. capped (total + n)) (all_cells (map (item_of names) items) (map (item_of names) (drop i items)))
    → total ≡ min (store_cells (globals (make_globals (map (item_of names) items) (map (item_of names) items) empty_store))) (2 ^ 64 - 1)
all_stored names items i total le lt e =
    let p = map (item_of names) items in
    let f : capped (total + 0) ≡ total = omega arith in
    let left : option_map (λ n. capped (total + n)) (all_cells p (map (item_of names) (drop i items))) ≡ Some (capped (total + 0)) = ap (λ xs. option_map (λ n. capped (total + n)) (all_cells p (map (item_of names) xs))) (drop_all i items le) in
    stored (make_globals p p empty_store) (all_cells p p) total (adds_all p p empty_store) (e ∙ left ∙ ap Some f)

empty_stored : (a : Answer Store) (o : Option ℕ) → Adds 0 a o → option_map capped o ≡ None → 0 ≡ min (store_cells (globals a)) (2 ^ 64 - 1)
empty_stored (Gives t) (Some n) h e = cc
empty_stored (Gives t) None h e = absurd h
empty_stored NoAnswer None h e = refl
empty_stored NoAnswer (Some n) h e = absurd h
empty_stored (Faults fault) None h e = absurd h
empty_stored (Faults fault) (Some n) h e = absurd h

-- ---- where one is incomplete

module _ (names : Names) (items indexed : List I.Item) (same : indexed ≡ items) (i : ℕ) (x : I.Item) (total : ℕ) (lt : i < length items) (is : x ≡ get_or items i x) where
  abbrev pub whole : Program
  whole = map (item_of names) items

  -- where one is incomplete no cell is there
  pub none_stored : option_map capped (all_cells whole whole) ≡ option_map (λ n. capped (total + n)) (all_cells whole (map (item_of names) (drop i items)))
      → None ≡ option_map capped (item_cells (map (item_of names) indexed) (item_of names x))
      → 0 ≡ min (store_cells (globals (make_globals whole whole empty_store))) (2 ^ 64 - 1)
  none_stored before e =
      let here : None ≡ option_map capped (item_cells whole (item_of names x)) = subst (λ (xs : List I.Item). None ≡ option_map capped (item_cells (map (item_of names) xs) (item_of names x))) same e in
      let left : option_map (λ n. capped (total + n)) (all_cells whole (map (item_of names) (drop i items))) ≡ None =
      ap (λ xs. option_map (λ n. capped (total + n)) (all_cells whole (map (item_of names) xs))) (drop_to_item items i x lt is)
      ∙ absent_step (item_cells whole (item_of names x)) (all_cells whole (map (item_of names) (drop (i + 1) items))) total here in
      empty_stored (make_globals whole whole empty_store) (all_cells whole whole) (adds_all whole whole empty_store) (before ∙ left)

  -- where one is complete its cells are counted
  pub next_stored : (count : ℕ) → option_map capped (all_cells whole whole) ≡ option_map (λ n. capped (total + n)) (all_cells whole (map (item_of names) (drop i items)))
      → Some count ≡ option_map capped (item_cells (map (item_of names) indexed) (item_of names x))
      → option_map capped (all_cells whole whole) ≡ option_map (λ n. capped (capped (total + count) + n)) (all_cells whole (map (item_of names) (drop (i + 1) items)))
  next_stored count before e =
      let here : Some count ≡ option_map capped (item_cells whole (item_of names x)) = subst (λ (xs : List I.Item). Some count ≡ option_map capped (item_cells (map (item_of names) xs) (item_of names x))) same e in
      before ∙ ap (λ xs. option_map (λ n. capped (total + n)) (all_cells whole (map (item_of names) xs))) (drop_to_item items i x lt is)
      ∙ present_step (item_cells whole (item_of names x)) (all_cells whole (map (item_of names) (drop (i + 1) items))) total count here
