-- What the primitives for frames and boxes are asked, and what they answer.
use Rattle.std.proofs.Common.{◌≡◌, ℕ, ◌*◌, ◌<◌, ◌^◌, false, List, [], ◌∷◌, slice_set, replicate, Option, Some, None, pos, int_lt, Ok, refl, ap, codes, arith}
use Rattle.std.proofs.lemmas.Bool.Decides.{nat_tests}
use Rattle.std.proofs.lemmas.Int.{ints}
use Rattle.cpc_base.specs.Bytes.{Text}
use Rattle.cpc_num.specs.declared.kinds.Kind.TheVariants.{Int, Long, ULong}
use Rattle.cpc_num.specs.declared.kinds.Op.TheVariants.{Mul}
use Rattle.cpc_num.specs.Number.{convert, binary, settle}
use Rattle.cpc_num.proofs.KindLemmas.{convert-same}
use Rattle.cpc_tree.specs.Syntax.{Ty, Expr, ENamed, EInteger, EBinary, ESizeOf, NoExpr, AndExpr, Call, Program}
use Rattle.cpc_tree.specs.Typing.{Scope, NotMeant, named, size}
use Rattle.cpc_store.specs.declared.values.Class.{Class}
use Rattle.cpc_store.specs.declared.values.Class.TheVariants.{Auto, Frame}
use Rattle.cpc_store.specs.Store.{Value, Unset, Whole, At, Store, blocks, with_blocks, next_block, alloc, cells_of}
use Rattle.cpc_meaning.specs.Answer.{Gives}
use Rattle.cpc_meaning.specs.Eval.{Slot, Register, value, assigned}
use Rattle.cpc_meaning.specs.Act.{AsksFor, simple_act, assign}
use Rattle.cpc_meaning.specs.Requests.{Builtin, RtFrame, RtBox, RtFrameFree, RtUnbox}
use Rattle.cpc_meaning.specs.Section.{allocated, freed}
use Rattle.cpc_convert_flat_laws.specs.Locals.{Holds, at}

-- ---- numbers

-- a size is the same number as a long
pub long_same : (n : ℕ) → n < 2 ^ 63 → convert Long (pos n) ≡ pos n
long_same n h = convert-same Long (pos n) (record { low = grind (arith, ints); high = grind (arith, ints) })

not_negative : (n : ℕ) → int_lt (pos n) (pos 0) ≡ false
not_negative n = grind (arith, nat_tests)

-- ---- what is asked

module _ (q : Program) (scope : Scope) (slots : List Slot) (s : Store) (result : Ty) (target : Option Expr) where
  -- `target = rt_frame(e);`, where e is a number of cells
  pub asks_frame : (e : Expr) (n : ℕ) → named q scope (codes "rt_frame") ≡ NotMeant → n < 2 ^ 63 → value (at q scope slots s) e ≡ Gives (Whole ULong (pos n))
      → simple_act (at q scope slots s) result (Call target (ENamed (codes "rt_frame")) (AndExpr e NoExpr)) ≡ Gives (AsksFor (record { asked = Builtin RtFrame; arguments = Whole Long (pos n) ∷ [] }))
  asks_frame e n is_named small is_value = simp (is_named, is_value, long_same n small) refl

  -- `target = rt_box(e);`
  pub asks_box : (e : Expr) (n : ℕ) → named q scope (codes "rt_box") ≡ NotMeant → n < 2 ^ 63 → value (at q scope slots s) e ≡ Gives (Whole ULong (pos n))
      → simple_act (at q scope slots s) result (Call target (ENamed (codes "rt_box")) (AndExpr e NoExpr)) ≡ Gives (AsksFor (record { asked = Builtin RtBox; arguments = Whole Long (pos n) ∷ [] }))
  asks_box e n is_named small is_value = simp (is_named, is_value, long_same n small) refl

  -- `rt_frame_free(e);`
  pub asks_frame_free : (e : Expr) (c : Class) (b : ℕ) → named q scope (codes "rt_frame_free") ≡ NotMeant → value (at q scope slots s) e ≡ Gives (At c b 0)
      → simple_act (at q scope slots s) result (Call target (ENamed (codes "rt_frame_free")) (AndExpr e NoExpr)) ≡ Gives (AsksFor (record { asked = Builtin RtFrameFree; arguments = At c b 0 ∷ [] }))
  asks_frame_free e c b is_named is_value = simp (is_named, is_value) refl

  -- `rt_unbox(e);`
  pub asks_unbox : (e : Expr) (c : Class) (b : ℕ) → named q scope (codes "rt_unbox") ≡ NotMeant → value (at q scope slots s) e ≡ Gives (At c b 0)
      → simple_act (at q scope slots s) result (Call target (ENamed (codes "rt_unbox")) (AndExpr e NoExpr)) ≡ Gives (AsksFor (record { asked = Builtin RtUnbox; arguments = At c b 0 ∷ [] }))
  asks_unbox e c b is_named is_value = simp (is_named, is_value) refl

-- the size of a type, as an expression
pub size_value : (q : Program) (scope : Scope) (slots : List Slot) (s : Store) (t : Ty) (n : ℕ) → size q t ≡ Some n → value (at q scope slots s) (ESizeOf t) ≡ Gives (Whole ULong (pos n))
size_value q scope slots s t n e = simp (e) refl

-- ---- what is answered

-- a new block
pub allocated_there : (c : Class) (n : ℕ) (s : Store) → allocated c (Whole Long (pos n)) s ≡ Gives (alloc c (replicate n Unset) s, At c (next_block c s) 0)
allocated_there c n s = simp (not_negative n) refl

-- a frame block that is live is freed
pub freed_frame : (b : ℕ) (cells : List Value) (s : Store) → cells_of Frame b s ≡ Some cells → freed Frame (At Frame b 0) s ≡ Gives (with_blocks Frame (slice_set (blocks Frame s) b None) s, Unset)
freed_frame b cells s live = simp (live) refl

-- a box is freed
pub freed_box : (b : ℕ) (cells : List Value) (s : Store) → cells_of Auto b s ≡ Some cells → freed Auto (At Auto b 0) s ≡ Gives (with_blocks Auto (slice_set (blocks Auto s) b None) s, Unset)
freed_box b cells s live = simp (live) refl

-- ---- a local variable is written

pub local_assign : (q : Program) (scope : Scope) (slots : List Slot) (s : Store) (x : Text) (t : Ty) (u v w : Value) → (h : Holds q scope slots x t u) → assigned t v ≡ Gives w → assign (at q scope slots s) (ENamed x) v ≡ Gives (slice_set slots h.slot (Register w), s)
local_assign q scope slots s x t u v w h e = simp (h.is_local, h.is_slot, e) refl

-- ---- sizes of arrays

ulong_same : (n : ℕ) → n < 2 ^ 63 → convert ULong (pos n) ≡ pos n
ulong_same n h = convert-same ULong (pos n) (record { low = grind (arith, ints); high = grind (arith, ints) })

-- a product of sizes
product : (n m : ℕ) → n * m < 2 ^ 63 → binary Mul ULong (pos n) (pos m) ≡ Ok (pos (n * m))
unfolding settle
product n m h = ap Ok (ulong_same (n * m) h)

-- the size of an array of so many elements, as an expression
pub array_size_value : (q : Program) (scope : Scope) (slots : List Slot) (s : Store) (t : Ty) (n m : ℕ) → size q t ≡ Some m → n < 2 ^ 63 → m < 2 ^ 63 → n * m < 2 ^ 63
    → value (at q scope slots s) (EBinary Mul (EInteger Int (pos n)) (ESizeOf t)) ≡ Gives (Whole ULong (pos (n * m)))
array_size_value q scope slots s t n m is_size a b c = simp (is_size, ulong_same n a, ulong_same m b, product n m c) refl
