-- Answers before and after a block is made to which no pointer leads, and what is written between.
use Rattle.std.proofs.Common.{◌≡◌, ◌≢◌, ℕ, zero, suc, ◌<◌, Bool, true, false, cond, List, [], ◌∷◌, ◌++◌, Option, Some, None, Result, Ok, Err, is_some, slice_get, slice_set, refl, sym, ◌∙◌, ap, subst, arith}
use Rattle.std.specs.List.{All}
use Rattle.std.proofs.lemmas.List.Elements.{All-get_or}
use Rattle.std.proofs.lemmas.Option.{slice_get_within, get_or_from_slice_get}
use Rattle.cpc_num.specs.declared.kinds.Fault.{Fault}
use Rattle.cpc_num.specs.declared.kinds.Fault.TheVariants as F
use Rattle.cpc_store.specs.declared.values.Class.{Class}
use Rattle.cpc_store.specs.declared.values.Class.TheVariants.{Static, Auto, Heap, Frame}
use Rattle.cpc_store.specs.Store.{Value, Store, Blocks, blocks, with_blocks, alloc, live, cells_of, next_block, save}
use Rattle.cpc_store.proofs.StoreLemmas.{cells_of-alloc_other}
use Rattle.cpc_meaning.specs.Answer.{Answer, Gives, Faults, NoAnswer, ◌>>=◌, of_result}
use Rattle.cpc_meaning.proofs.Stores.{save_there}
use Rattle.cpc_meaning_laws.specs.Pointer.Made.{IsBlock}

-- ---- answers

-- what an answer gives is so
abbrev pub Only : {A : Type 0} → (A → Type 0) → Answer A → Type 0
Only Good (Gives x) = Good x
Only Good _ = Unit {0}

-- nothing is said
abbrev pub Any : {A : Type 0} → A → Type 0
Any x = Unit {0}

pub only_any : {A : Type 0} (a : Answer A) → Only Any a
only_any (Gives x) = tt
only_any (Faults fault) = tt
only_any NoAnswer = tt

-- one answer, and then what is made of it
pub only_then : {A B : Type 0} (Good : A → Type 0) (Fine : B → Type 0) (a : Answer A) (h : A → Answer B) → Only Good a → ((x : A) → Good x → Only Fine (h x)) → Only Fine (a >>= h)
only_then Good Fine (Gives x) h g k = k x g
only_then Good Fine (Faults fault) h g k = tt
only_then Good Fine NoAnswer h g k = tt

pub any_then : {A B : Type 0} (Fine : B → Type 0) (a : Answer A) (h : A → Answer B) → ((x : A) → Only Fine (h x)) → Only Fine (a >>= h)
any_then Fine a h k = only_then Any Fine a h (only_any a) (λ x i. k x)

pub only_if : {A : Type 0} (Good : A → Type 0) (b : Bool) (x y : Answer A) → Only Good x → Only Good y → Only Good (cond b x y)
only_if Good true x y h k = h
only_if Good false x y h k = k

pub only_as : {A : Type 0} (Good Fine : A → Type 0) (a : Answer A) → ((x : A) → Good x → Fine x) → Only Good a → Only Fine a
only_as Good Fine (Gives x) f h = f x h
only_as Good Fine (Faults fault) f h = tt
only_as Good Fine NoAnswer f h = tt

-- an answer and what it is with the block: f of its value, which is so, the same fault, or again nothing
pub data Alike {A : Type 0} (Good : A → Type 0) (f : A → A) : Answer A → Answer A → Type 0 where
  Given : (x : A) → Good x → Alike Good f (Gives x) (Gives (f x))
  Broken : (fault : Fault) → Alike Good f (Faults fault) (Faults fault)
  Neither : Alike Good f NoAnswer NoAnswer

-- the same answer
abbrev pub Keeps : {A : Type 0} → (A → Type 0) → Answer A → Answer A → Type 0
Keeps Good a b = Alike Good (λ x. x) a b

pub itself : {A : Type 0} (Good : A → Type 0) (a : Answer A) → Only Good a → Keeps Good a a
itself Good (Gives x) h = Given x h
itself Good (Faults fault) h = Broken fault
itself Good NoAnswer h = Neither

pub as_is : {A : Type 0} (a : Answer A) → Keeps Any a a
as_is a = itself Any a (only_any a)

-- what is made of an answer
pub then_alike : {A B : Type 0} (Good : A → Type 0) (Fine : B → Type 0) (f : A → A) (g : B → B) (a b : Answer A) (h k : A → Answer B)
    → Alike Good f a b → ((x : A) → Good x → Alike Fine g (h x) (k (f x))) → Alike Fine g (a >>= h) (b >>= k)
then_alike Good Fine f g _ _ h k (Given x i) e = e x i
then_alike Good Fine f g _ _ h k (Broken fault) e = Broken fault
then_alike Good Fine f g _ _ h k Neither e = Neither

pub then_keeps : {A B : Type 0} (Good : A → Type 0) (Fine : B → Type 0) (g : B → B) (a b : Answer A) (h k : A → Answer B)
    → Keeps Good a b → ((x : A) → Good x → Alike Fine g (h x) (k x)) → Alike Fine g (a >>= h) (b >>= k)
then_keeps Good Fine g a b h k s e = then_alike Good Fine (λ x. x) g a b h k s e

pub same_then : {A B : Type 0} (Fine : B → Type 0) (g : B → B) (a : Answer A) (h k : A → Answer B) → ((x : A) → Alike Fine g (h x) (k x)) → Alike Fine g (a >>= h) (a >>= k)
same_then Fine g a h k e = then_keeps Any Fine g a a h k (as_is a) (λ x i. e x)

-- what the answer without the block gives, and the equation between both
pub only_given : {A : Type 0} (Good : A → Type 0) (f : A → A) (a b : Answer A) → Alike Good f a b → Only Good a
only_given Good f _ _ (Given x h) = h
only_given Good f _ _ (Broken fault) = tt
only_given Good f _ _ Neither = tt

pub given_alike : {A : Type 0} (Good : A → Type 0) (f : A → A) (a b : Answer A) → Alike Good f a b → b ≡ (a >>= λ x. Gives (f x))
given_alike Good f _ _ (Given x h) = refl
given_alike Good f _ _ (Broken fault) = refl
given_alike Good f _ _ Neither = refl

-- ---- lists

pub element : {X : Type 0} (P : X → Type 0) (xs : List X) (k : ℕ) (x : X) → All P xs → slice_get xs k ≡ Some x → P x
element P xs k x h e = subst P (get_or_from_slice_get xs k x x e) (All-get_or P xs k x (slice_get_within xs k x e) h)

-- ---- one more block

pub apart_below : (n m : ℕ) → n < m → n ≢ m
apart_below n m h e = absurd (omega arith)

-- a block that was made is not the next one, and has the cells that it had
pub kept : (class : Class) (more : List Value) (s : Store) (c : Class) (n : ℕ) → ¬ (class ≡ Static) → IsBlock s c n → cells_of c n (alloc class more s) ≡ cells_of c n s
kept class more s Static n apart h = cells_of-alloc_other class more s Static n (λ e. absurd (apart (sym e)))
kept class more s Auto n apart h = cells_of-alloc_other class more s Auto n (λ e. subst (λ c. n ≢ next_block c s) e (apart_below n (next_block Auto s) h))
kept class more s Heap n apart h = cells_of-alloc_other class more s Heap n (λ e. subst (λ c. n ≢ next_block c s) e (apart_below n (next_block Heap s) h))
kept class more s Frame n apart h = cells_of-alloc_other class more s Frame n (λ e. subst (λ c. n ≢ next_block c s) e (apart_below n (next_block Frame s) h))

set_front : (bs : Blocks) (b new : Option (List Value)) (n : ℕ) (cells : List Value) → live (slice_get bs n) ≡ Some cells → slice_set (bs ++ b ∷ []) n new ≡ slice_set bs n new ++ b ∷ []
set_front [] b new n cells e = absurd (cc)
set_front (x ∷ bs) b new zero cells e = refl
set_front (x ∷ bs) b new (suc n) cells e = ap (λ ys. x ∷ ys) (set_front bs b new n cells e)

-- other cells in a live block, and one more block, in either order
either_order : (class c : Class) (more : List Value) (s : Store) (n : ℕ) (cells : List Value) (new : Option (List Value)) → cells_of c n s ≡ Some cells
    → with_blocks c (slice_set (blocks c (alloc class more s)) n new) (alloc class more s) ≡ alloc class more (with_blocks c (slice_set (blocks c s) n new) s)
either_order Static Static more s n cells new e = ap (λ bs. with_blocks Static bs s) (set_front s.static (Some more) new n cells e)
either_order Auto Auto more s n cells new e = ap (λ bs. with_blocks Auto bs s) (set_front s.auto (Some more) new n cells e)
either_order Heap Heap more s n cells new e = ap (λ bs. with_blocks Heap bs s) (set_front s.heap (Some more) new n cells e)
either_order Frame Frame more s n cells new e = ap (λ bs. with_blocks Frame bs s) (set_front s.frames (Some more) new n cells e)
either_order _ _ more s n cells new e = refl

-- both saves are so
both_save : (f : Store → Store) (a b : Result Store Fault) (t : Store) → a ≡ Ok t → b ≡ Ok (f t) → Alike Any f (of_result a) (of_result b)
both_save f a b t e g = rw (e, g) (Given t tt)

both_fail : (f : Store → Store) (a b : Result Store Fault) (fault : Fault) → a ≡ Err fault → b ≡ Err fault → Alike Any f (of_result a) (of_result b)
both_fail f a b fault e g = rw (e, g) (Broken fault)

-- a cell of a block that was made is written
pub saves : (class : Class) (more : List Value) (s : Store) (c : Class) (n k : ℕ) (v : Value) → ¬ (class ≡ Static) → IsBlock s c n
    → Alike Any (λ t. alloc class more t) (of_result (save c n k v s)) (of_result (save c n k v (alloc class more s)))
saves class more s c n k v apart h = go (cells_of c n s) refl
  where
    there : (o : Option (List Value)) → cells_of c n s ≡ o → cells_of c n (alloc class more s) ≡ o
    there o e = kept class more s c n apart h ∙ e

    not_there : (t : Store) (cells : List Value) → cells_of c n t ≡ Some cells → is_some (slice_get cells k) ≡ false → save c n k v t ≡ Err F.Bounds
    not_there t cells e g = simp (e, g) refl

    freed : (t : Store) → cells_of c n t ≡ None → save c n k v t ≡ Err F.Freed
    freed t e = simp e refl

    within : (cells : List Value) → cells_of c n s ≡ Some cells → (b : Bool) → is_some (slice_get cells k) ≡ b
        → Alike Any (λ t. alloc class more t) (of_result (save c n k v s)) (of_result (save c n k v (alloc class more s)))
    within cells e true g =
        let new = Some (slice_set cells k v) in
        both_save (λ t. alloc class more t) _ _ _ (save_there c n k v s cells e g)
        (save_there c n k v (alloc class more s) cells (there (Some cells) e) g ∙ ap Ok (either_order class c more s n cells new e))
    within cells e false g = both_fail (λ t. alloc class more t) _ _ F.Bounds (not_there s cells e g) (not_there (alloc class more s) cells (there (Some cells) e) g)

    go : (o : Option (List Value)) → cells_of c n s ≡ o → Alike Any (λ t. alloc class more t) (of_result (save c n k v s)) (of_result (save c n k v (alloc class more s)))
    go None e = both_fail (λ t. alloc class more t) _ _ F.Freed (freed s e) (freed (alloc class more s) (there None e))
    go (Some cells) e = within cells e (is_some (slice_get cells k)) refl
