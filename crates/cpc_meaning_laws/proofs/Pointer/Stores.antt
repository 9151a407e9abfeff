-- Acts on a store: no block is taken back, and what is written leads into blocks that were made.
use Rattle.std.proofs.Common.{◌≡◌, ◌⊎◌, inl, inr, ℕ, zero, suc, ◌<◌, ◌&&◌, ◌==◌, Bool, true, false, cond, List, [], ◌∷◌, ◌++◌, length, replicate, Option, Some, None, Result, Ok, Err, is_some, slice_get, slice_set, refl, sym, ◌∙◌, ap, subst, arith}
use Rattle.std.specs.List.{All}
use Rattle.std.proofs.lemmas.Bool.{cases_eq}
use Rattle.std.proofs.lemmas.List.Elements.{All-weaker}
use Rattle.std.proofs.Math.ListN.{length-append}
use Rattle.cpc_num.specs.declared.kinds.Fault.{Fault}
use Rattle.cpc_num.specs.declared.kinds.Fault.TheVariants as F
use Rattle.cpc_store.specs.declared.values.Class.{Class}
use Rattle.cpc_store.specs.declared.values.Class.TheVariants.{Static, Auto, Heap, Frame}
use Rattle.cpc_store.specs.Store.{Value, Unset, Whole, Null, At, Code, Cond, Store, Blocks, blocks, with_blocks, alloc, live, cells_of, next_block, free, save, same_class}
use Rattle.cpc_store.proofs.StoreLemmas.{cells_of-alloc_same, cells_of-alloc_other, cells_of-set_other}
use Rattle.cpc_meaning.specs.Answer.{of_result}
use Rattle.cpc_meaning.specs.Eval.{Slot, Register, Boxed}
use Rattle.cpc_meaning.specs.Plain.{Frame as Call}
use Rattle.cpc_meaning.proofs.Stores.{blocks_with, set_length, save_there}
use Rattle.cpc_meaning_laws.specs.Pointer.Made.{IsBlock, IsMade, IsMadeIf, IsMadeSlot, IsMadeStore, IsMadeFrame}
use Rattle.cpc_meaning_laws.proofs.Pointer.Blocks.{Only}

-- ---- later stores

-- what was made in s was made in t
abbrev pub Later : Store → Store → Type 0
Later s t = (c : Class) (n : ℕ) → IsBlock s c n → IsBlock t c n

pub later_made : (s t : Store) → Later s t → (v : Value) → IsMade s v → IsMade t v
later_made s t l (At c n k) h = l c n h
later_made s t l Unset h = tt
later_made s t l (Whole kind z) h = tt
later_made s t l Null h = tt
later_made s t l (Code f) h = tt
later_made s t l (Cond n) h = tt

pub later_if : (s t : Store) → Later s t → (o : Option Value) → IsMadeIf s o → IsMadeIf t o
later_if s t l None h = tt
later_if s t l (Some v) h = later_made s t l v h

pub later_slot : (s t : Store) → Later s t → (slot : Slot) → IsMadeSlot s slot → IsMadeSlot t slot
later_slot s t l (Register v) h = later_made s t l v h
later_slot s t l (Boxed n) h = l Auto n h

pub later_values : (s t : Store) → Later s t → (vs : List Value) → All (IsMade s) vs → All (IsMade t) vs
later_values s t l vs h = All-weaker (IsMade s) (IsMade t) (later_made s t l) vs h

pub later_slots : (s t : Store) → Later s t → (slots : List Slot) → All (IsMadeSlot s) slots → All (IsMadeSlot t) slots
later_slots s t l slots h = All-weaker (IsMadeSlot s) (IsMadeSlot t) (later_slot s t l) slots h

pub later_frames : {P : Type 0} (s t : Store) → Later s t → (frames : List (Call P)) → All (IsMadeFrame s) frames → All (IsMadeFrame t) frames
later_frames s t l frames h = All-weaker (IsMadeFrame s) (IsMadeFrame t) (λ frame i. later_slots s t l frame.slots i) frames h

-- a later store, whose cells lead into blocks that were made
pub record Onward (s t : Store) : Type 0 where
  pub later : Later s t
  pub made : IsMadeStore t

pub onward_self : (s : Store) → IsMadeStore s → Onward s s
onward_self s h = record { later = λ c n i. i; made = h }

pub onward_then : (s t u : Store) → Onward s t → Onward t u → Onward s u
onward_then s t u h k = record { later = λ c n i. k.later c n (h.later c n i); made = k.made }

-- ---- cells

-- each of these cells leads into a block that was made
abbrev pub IsMadeCells : Store → List Value → Type 0
IsMadeCells s cells = (k : ℕ) (v : Value) → slice_get cells k ≡ Some v → IsMade s v

pub cells_none : (s : Store) → IsMadeCells s []
cells_none s k v e = absurd (cc)

pub cells_more : (s : Store) (v : Value) (cells : List Value) → IsMade s v → IsMadeCells s cells → IsMadeCells s (v ∷ cells)
cells_more s v cells h i zero w e = let same : v ≡ w = cc in subst (IsMade s) same h
cells_more s v cells h i (suc k) w e = i k w e

pub cells_unset : (s : Store) (n : ℕ) → IsMadeCells s (replicate n Unset)
cells_unset s zero = cells_none s
cells_unset s (suc n) = cells_more s Unset (replicate n Unset) tt (cells_unset s n)

cells_set : (s : Store) (cells : List Value) (k : ℕ) (v : Value) → IsMadeCells s cells → IsMade s v → IsMadeCells s (slice_set cells k v)
cells_set s [] k v h i = cells_none s
cells_set s (x ∷ cells) zero v h i = cells_more s v cells i (λ j. h (suc j))
cells_set s (x ∷ cells) (suc k) v h i = cells_more s x (slice_set cells k v) (h zero x refl) (cells_set s cells k v (λ j. h (suc j)) i)

-- ---- blocks

pub class_cases : (c d : Class) → (c ≡ d) ⊎ ¬ (c ≡ d)
class_cases Static Static = inl refl
class_cases Auto Auto = inl refl
class_cases Heap Heap = inl refl
class_cases Frame Frame = inl refl
class_cases _ _ = inr (λ e. absurd (cc))

-- the cells of a block that was set are what it was set to
pub set_live : (bs : Blocks) (n : ℕ) (b : Option (List Value)) (cells : List Value) → live (slice_get (slice_set bs n b) n) ≡ Some cells → b ≡ Some cells
set_live [] n b cells e = absurd (cc)
set_live (x ∷ bs) zero b cells e = e
set_live (x ∷ bs) (suc n) b cells e = set_live bs n b cells e

-- so are those of the block of its number and class
pub set_same : (c : Class) (n : ℕ) (b : Option (List Value)) (s : Store) (d : Class) (m : ℕ) → d ≡ c → m ≡ n → (cells : List Value) → cells_of d m (with_blocks c (slice_set (blocks c s) n b) s) ≡ Some cells → b ≡ Some cells
set_same c n b s d m i j cells e =
    set_live (blocks c s) n b cells
    (ap (λ bs. live (slice_get bs n)) (sym (blocks_with c (slice_set (blocks c s) n b) s))
    ∙ ap (λ q. live (slice_get (blocks c (with_blocks c (slice_set (blocks c s) n b) s)) q)) (sym j)
    ∙ ap (λ q. live (slice_get (blocks q (with_blocks c (slice_set (blocks c s) n b) s)) m)) (sym i)
    ∙ e)

later_set : (c : Class) (n : ℕ) (b : Option (List Value)) (s : Store) → Later s (with_blocks c (slice_set (blocks c s) n b) s)
later_set c n b s Static m h = tt
later_set Auto n b s Auto m h = subst (λ k. m < k) (sym (set_length s.auto n b)) h
later_set Heap n b s Heap m h = subst (λ k. m < k) (sym (set_length s.heap n b)) h
later_set Frame n b s Frame m h = subst (λ k. m < k) (sym (set_length s.frames n b)) h
later_set c n b s d m h = h

-- another block in the place of one: none, or one whose cells were made
set_onward : (c : Class) (n : ℕ) (b : Option (List Value)) (s : Store) → IsMadeStore s → ((cells : List Value) → b ≡ Some cells → IsMadeCells s cells) → Onward s (with_blocks c (slice_set (blocks c s) n b) s)
set_onward c n b s made h = record { later = later_set c n b s; made = λ d m k cells v e g. later_made s after (later_set c n b s) v (by d m k cells v (class_cases d c) (cases_eq m n) e g) }
  where
    after : Store
    after = with_blocks c (slice_set (blocks c s) n b) s

    other : (d : Class) (m k : ℕ) (cells : List Value) (v : Value) → (d ≡ c → ¬ (m ≡ n)) → cells_of d m (with_blocks c (slice_set (blocks c s) n b) s) ≡ Some cells → slice_get cells k ≡ Some v → IsMade s v
    other d m k cells v apart e g = made d m k cells v (sym (cells_of-set_other c n b s d m apart) ∙ e) g

    by : (d : Class) (m k : ℕ) (cells : List Value) (v : Value) → (d ≡ c) ⊎ ¬ (d ≡ c) → (m ≡ n) ⊎ ¬ (m ≡ n) → cells_of d m (with_blocks c (slice_set (blocks c s) n b) s) ≡ Some cells → slice_get cells k ≡ Some v → IsMade s v
    by d m k cells v (inl i) (inl j) e g = h cells (set_same c n b s d m i j cells e) k v g
    by d m k cells v (inr apart) o e g = other d m k cells v (λ i. absurd (apart i)) e g
    by d m k cells v (inl i) (inr apart) e g = other d m k cells v (λ i. apart) e g

-- ---- acts

longer : (bs : Blocks) (b : Option (List Value)) (m : ℕ) → m < length bs → m < length (bs ++ b ∷ [])
longer bs b m h = omega (arith, length-append bs (b ∷ []))

last_one : (bs : Blocks) (b : Option (List Value)) → length bs < length (bs ++ b ∷ [])
last_one bs b = omega (arith, length-append bs (b ∷ []))

later_alloc : (c : Class) (cells : List Value) (s : Store) → Later s (alloc c cells s)
later_alloc c cells s Static m h = tt
later_alloc Auto cells s Auto m h = longer s.auto (Some cells) m h
later_alloc Heap cells s Heap m h = longer s.heap (Some cells) m h
later_alloc Frame cells s Frame m h = longer s.frames (Some cells) m h
later_alloc c cells s d m h = h

-- the next block is made
pub next_made : (c : Class) (cells : List Value) (s : Store) → IsBlock (alloc c cells s) c (next_block c s)
next_made Static cells s = tt
next_made Auto cells s = last_one s.auto (Some cells)
next_made Heap cells s = last_one s.heap (Some cells)
next_made Frame cells s = last_one s.frames (Some cells)

-- the cells of the block that was made
pub alloc_same : (c : Class) (more : List Value) (s : Store) (d : Class) (m : ℕ) → d ≡ c → m ≡ next_block c s → (cells : List Value) → cells_of d m (alloc c more s) ≡ Some cells → more ≡ cells
alloc_same c more s d m i j cells e =
    let here : cells_of c (next_block c s) (alloc c more s) ≡ Some cells = ap (λ q. cells_of c q (alloc c more s)) (sym j) ∙ ap (λ q. cells_of q m (alloc c more s)) (sym i) ∙ e in
    let k : Some more ≡ Some cells = sym (cells_of-alloc_same c more s) ∙ here in
    cc

pub alloc_onward : (c : Class) (more : List Value) (s : Store) → IsMadeStore s → IsMadeCells s more → Onward s (alloc c more s)
alloc_onward c more s made h = record { later = later_alloc c more s; made = λ d m k cells v e g. later_made s (alloc c more s) (later_alloc c more s) v (by d m k cells v (class_cases d c) (cases_eq m (next_block c s)) e g) }
  where
    other : (d : Class) (m k : ℕ) (cells : List Value) (v : Value) → (d ≡ c → ¬ (m ≡ next_block c s)) → cells_of d m (alloc c more s) ≡ Some cells → slice_get cells k ≡ Some v → IsMade s v
    other d m k cells v apart e g = made d m k cells v (sym (cells_of-alloc_other c more s d m apart) ∙ e) g

    by : (d : Class) (m k : ℕ) (cells : List Value) (v : Value) → (d ≡ c) ⊎ ¬ (d ≡ c) → (m ≡ next_block c s) ⊎ ¬ (m ≡ next_block c s) → cells_of d m (alloc c more s) ≡ Some cells → slice_get cells k ≡ Some v → IsMade s v
    by d m k cells v (inl i) (inl j) e g = h k v (ap (λ xs. slice_get xs k) (alloc_same c more s d m i j cells e) ∙ g)
    by d m k cells v (inr apart) o e g = other d m k cells v (λ i. absurd (apart i)) e g
    by d m k cells v (inl i) (inr apart) e g = other d m k cells v (λ i. apart) e g

result_if : {A : Type 0} (Good : A → Type 0) (b : Bool) (x : A) (fault : Fault) → Good x → Only Good (of_result (cond b (Ok x) (Err fault)))
result_if Good true x fault h = h
result_if Good false x fault h = tt

pub free_onward : (c : Class) (v : Value) (s : Store) → IsMadeStore s → Only (Onward s) (of_result (free c v s))
free_onward c Unset s made = tt
free_onward c (Whole kind z) s made = tt
free_onward c Null s made = onward_self s made
free_onward c (At d n k) s made =
    result_if (Onward s) (same_class c d && is_some (cells_of d n s) && (k == 0)) (with_blocks c (slice_set (blocks c s) n None) s) F.BadFree (set_onward c n None s made (λ cells e. absurd (cc)))
free_onward c (Code f) s made = tt
free_onward c (Cond n) s made = tt

pub save_onward : (c : Class) (n k : ℕ) (v : Value) (s : Store) → IsMadeStore s → IsMade s v → Only (Onward s) (of_result (save c n k v s))
save_onward c n k v s made h = go (cells_of c n s) refl
  where
    from : (r : Result Store Fault) → save c n k v s ≡ r → Only (Onward s) (of_result r) → Only (Onward s) (of_result (save c n k v s))
    from r e g = subst (λ q. Only (Onward s) (of_result q)) (sym e) g

    written : (cells : List Value) → cells_of c n s ≡ Some cells → (xs : List Value) → Some (slice_set cells k v) ≡ Some xs → IsMadeCells s xs
    written cells e xs i = let j : slice_set cells k v ≡ xs = cc in subst (IsMadeCells s) j (cells_set s cells k v (λ q w g. made c n q cells w e g) h)

    within : (cells : List Value) → cells_of c n s ≡ Some cells → (b : Bool) → is_some (slice_get cells k) ≡ b → Only (Onward s) (of_result (save c n k v s))
    within cells e true g = from _ (save_there c n k v s cells e g) (set_onward c n (Some (slice_set cells k v)) s made (written cells e))
    within cells e false g = from (Err F.Bounds) (simp (e, g) refl) tt

    go : (o : Option (List Value)) → cells_of c n s ≡ o → Only (Onward s) (of_result (save c n k v s))
    go None e = from (Err F.Freed) (simp e refl) tt
    go (Some cells) e = within cells e (is_some (slice_get cells k)) refl
