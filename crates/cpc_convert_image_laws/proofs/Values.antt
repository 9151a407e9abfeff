-- The value of an expression in the frame of a source, and of its image in the frame of a target.
use Rattle.std.proofs.Common.{◌≡◌, ℕ, Bool, true, false, List, Option, Some, slice_get, is_some, refl}
use Rattle.std.specs.List.{All}
use Rattle.cpc_base.specs.Bytes.{Text}
use Rattle.cpc_num.specs.declared.kinds.Op.TheVariants.{Add}
use Rattle.cpc_tree.specs.Syntax.{Ty, TyPointer, TyStruct, Expr, ENamed, EInteger, ECharacter, EText, EUnary, EBinary, EAnd, EOr, EChoose, ECast, ESizeOf, EIndex, EMember, EArrow, ECall, Program}
use Rattle.cpc_tree.specs.declared.program.Mode.TheVariants.{Extern, Native, Cps, Detached}
use Rattle.cpc_tree.specs.declared.program.UnaryOp.TheVariants.{Minus, Plus, Not, Complement, Dereference, AddressOf}
use Rattle.cpc_tree.specs.Typing.{Scope, Meant, ALocal, named, field, used, struct_tag, typed_place, type_named, target}
use Rattle.cpc_store.specs.declared.values.Class.{Class}
use Rattle.cpc_store.specs.declared.values.Class.TheVariants.{Static, Auto}
use Rattle.cpc_store.specs.Store.{Value, Whole, At, Code, Store, Blocks, cells_of}
use Rattle.cpc_meaning.specs.Answer.{Answer, Gives, ◌>>=◌}
use Rattle.cpc_meaning.specs.Eval.{Slot, Register, Boxed, Context, Spot, InSlot, InCell, and_then, place, value, place_type, used_type, read, field_spot, value_named, address_named, operate, and_also, or_else, chosen, tested, truth_value, spot_named, pointer_to, address, pointed_type, pointed, holds}
use Rattle.cpc_meaning.proofs.SameValues.{at}
use Rattle.cpc_meaning.specs.Names.{AllNames}
use Rattle.cpc_meaning_laws.proofs.Pointer.Blocks.{element}
use Rattle.cpc_convert_image_laws.specs.Images.{Reading, Readings, image_named, image}
use Rattle.cpc_convert_image_laws.specs.Held.{IsShared, IsHeld, IsHeldSlot, IsLiveSlot, IsHeldStore, BoxesLive, beside}
use Rattle.cpc_convert_image_laws.specs.Relations.{Less, AsIs, Extends, Meets, BothGive, BothFault, Stuck, Same, It, Means, InLocal, InBox, StaysRegister, StaysBox, StaysNowhere, StaysGlobal, StaysFunction, IsCps, StaysNothing, SpotAlike, TheSlot, TheCell}
use Rattle.cpc_convert_image_laws.proofs.Answers.{less_and_then, meets_then, same_then, itself, self_then, needed_then}
use Rattle.cpc_convert_image_laws.proofs.Types.{size_less, typed}
use Rattle.cpc_convert_image_laws.proofs.Live.{IsReadLive, starts}
use Rattle.cpc_convert_image_laws.proofs.Operators.{IsCell, at_type_held, applied_held, points, operates, reads, fields}

module _ (C : Text → Type 0) (P : ℕ → Ty → ℕ → Type 0) (p q : Program) (types : Extends p q) (L : Text → Type 0) (r : Readings) (scope scope' : Scope) (slots slots' : List Slot) (names : (x : Text) → L x → Means C P q scope' slots slots' x (r x) (named p scope x)) (s : Store) (source : IsHeldStore C s) (held : All (IsHeldSlot C) slots) (live : (x : Text) → IsReadLive s slots (r x)) (frames : Blocks) where
  abbrev pub here : Context
  here = at p scope slots s

  abbrev pub there : Context
  there = at q scope' slots' (beside frames s)

  -- the same value, which is held
  abbrev pub Both : Answer Value → Answer Value → Type 0
  Both a b = Meets (Same (IsHeld C)) a b

  -- places of this type
  abbrev pub BothAt : Option Ty → Answer Spot → Answer Spot → Type 0
  BothAt o a b = Meets (SpotAlike P slots slots' o) a b

  pub used_less : (e : Expr) → AllNames L e → Less (used_type here e) (used_type there (image r e))
  used_less e l = less_and_then _ _ used (typed C P p q types L r scope scope' slots slots' names e l)

  pub place_less : (e : Expr) → AllNames L e → Less (place_type here e) (place_type there (image r e))
  place_less e l = less_and_then _ _ typed_place (typed C P p q types L r scope scope' slots slots' names e l)

  tag_less : (e : Expr) → AllNames L e → Less (and_then (place_type here e) struct_tag) (and_then (place_type there (image r e)) struct_tag)
  tag_less e l = less_and_then _ _ struct_tag (place_less e l)

  pointed_tag : (e : Expr) → AllNames L e → Less (and_then (pointed_type (used_type here e)) struct_tag) (and_then (pointed_type (used_type there (image r e))) struct_tag)
  pointed_tag e l = less_and_then _ _ struct_tag (less_and_then _ _ target (used_less e l))

  -- ---- names

  register_held : (k : ℕ) (v : Value) → slice_get slots k ≡ Some (Register v) → IsHeld C v
  register_held k v e = element (IsHeldSlot C) slots k (Register v) held e

  cell_reads : (t : Ty) (c : Class) (n : ℕ) → IsShared c → Both (read slots s (Some t) (InCell c n 0)) (read slots' (beside frames s) (Some t) (InCell c n 0))
  cell_reads t c n h = reads C s source frames p q types slots slots' (Some t) (Some t) (InCell c n 0) (AsIs (Some t)) h

  -- the block of a box is live in both stores
  box_lives : (k n : ℕ) → BoxesLive s slots → slice_get slots k ≡ Some (Boxed n) → is_some (cells_of Auto n s) ≡ true
  box_lives k n h e = element (IsLiveSlot s) slots k (Boxed n) h e

  -- where a box is read, and what is read there
  box_there : (y f tag : Text) (k k' : ℕ) (t : Ty) (b : ℕ) → named q scope' y ≡ ALocal k' (TyPointer (TyStruct tag)) → field q tag f ≡ Some (0, t) → slice_get slots' k' ≡ Some (Register (At Auto b 0)) → is_some (cells_of Auto b s) ≡ true
      → (place there (EArrow (ENamed y) f) ≡ Gives (InCell Auto b 0)) × (value there (EArrow (ENamed y) f) ≡ read slots' (beside frames s) (Some t) (InCell Auto b 0))
  box_there y f tag k k' t b n g h i = let first = starts (cells_of Auto b (beside frames s)) b i in (simp (n, h, g, first) refl, simp (n, h, g, first) refl)

  named_value : (x : Text) (o : Option Reading) (m : Meant) → IsReadLive s slots o → Means C P q scope' slots slots' x o m → Both (value_named slots s x m) (value there (image_named o x))
  named_value x _ _ live (InLocal y k k' t v i e n f) = simp (e, n, f) (BothGive v v (It v (register_held k v e)))
  named_value x _ _ live (InBox y f tag k k' t b i e n g h) = let there = box_there y f tag k k' t b n g h (box_lives k b live e) in simp (e, there.1, there.0) (cell_reads t Auto b tt)
  named_value x _ _ live (StaysRegister k k' t v i e n f) = simp (e, n, f) (BothGive v v (It v (register_held k v e)))
  named_value x _ _ live (StaysBox k k' t b i e n f) = simp (e, n, f) (cell_reads t Auto b tt)
  named_value x _ _ live (StaysNowhere k k' t e n) = rw e (Stuck _)
  named_value x _ _ live (StaysGlobal b t n) = rw n (cell_reads t Static b tt)
  named_value x _ _ live (StaysFunction Native t ts n i) = rw n (BothGive _ _ (It (Code x) i))
  named_value x _ _ live (StaysFunction Detached t ts n i) = rw n (BothGive _ _ (It (Code x) i))
  named_value x _ _ live (StaysFunction Extern t ts n i) = Stuck _
  named_value x _ _ live (StaysFunction Cps t ts n i) = Stuck _
  named_value x _ _ live (IsCps t ts) = Stuck _
  named_value x _ _ live (StaysNothing n) = Stuck _

  named_address : (x : Text) (o : Option Reading) (m : Meant) → IsReadLive s slots o → Means C P q scope' slots slots' x o m → Both (address_named slots x m) (value there (EUnary AddressOf (image_named o x)))
  named_address x _ _ live (InLocal y k k' t v i e n f) = rw e (Stuck _)
  named_address x _ _ live (InBox y f tag k k' t b i e n g h) = let there = box_there y f tag k k' t b n g h (box_lives k b live e) in simp (e, there.0) (BothGive _ _ (It (At Auto b 0) tt))
  named_address x _ _ live (StaysRegister k k' t v i e n f) = rw e (Stuck _)
  named_address x _ _ live (StaysBox k k' t b i e n f) = simp (e, n, f) (BothGive _ _ (It (At Auto b 0) tt))
  named_address x _ _ live (StaysNowhere k k' t e n) = rw e (Stuck _)
  named_address x _ _ live (StaysGlobal b t n) = rw n (BothGive _ _ (It (At Static b 0) tt))
  named_address x _ _ live (StaysFunction Native t ts n i) = rw n (BothGive _ _ (It (Code x) i))
  named_address x _ _ live (StaysFunction Detached t ts n i) = rw n (BothGive _ _ (It (Code x) i))
  named_address x _ _ live (StaysFunction Extern t ts n i) = Stuck _
  named_address x _ _ live (StaysFunction Cps t ts n i) = Stuck _
  named_address x _ _ live (IsCps t ts) = Stuck _
  named_address x _ _ live (StaysNothing n) = Stuck _

  named_spot : (x : Text) (o : Option Reading) (m : Meant) → IsReadLive s slots o → Means C P q scope' slots slots' x o m → BothAt (and_then (type_named m) typed_place) (spot_named slots m) (place there (image_named o x))
  named_spot x _ _ live (InLocal y k k' t v i e n f) = simp (e, n, f) (BothGive _ _ (TheSlot k k' t v i e f))
  named_spot x _ _ live (InBox y f tag k k' t b i e n g h) = let there = box_there y f tag k k' t b n g h (box_lives k b live e) in simp (e, there.0) (BothGive _ _ (TheCell _ Auto b 0 tt))
  named_spot x _ _ live (StaysRegister k k' t v i e n f) = simp (e, n, f) (BothGive _ _ (TheSlot k k' t v i e f))
  named_spot x _ _ live (StaysBox k k' t b i e n f) = simp (e, n, f) (BothGive _ _ (TheCell _ Auto b 0 tt))
  named_spot x _ _ live (StaysNowhere k k' t e n) = rw e (Stuck _)
  named_spot x _ _ live (StaysGlobal b t n) = rw n (BothGive _ _ (TheCell _ Static b 0 tt))
  named_spot x _ _ live (StaysFunction mode t ts n i) = Stuck _
  named_spot x _ _ live (IsCps t ts) = Stuck _
  named_spot x _ _ live (StaysNothing n) = Stuck _

  -- ---- parts

  -- what is made of a value
  value_then : {D E : Type 0} (R : D → E → Type 0) (a b : Answer Value) (f : Value → Answer D) (g : Value → Answer E) → Both a b → ((v : Value) → IsHeld C v → Meets R (f v) (g v)) → Meets R (a >>= f) (b >>= g)
  value_then R a b f g h e = same_then (IsHeld C) R a b f g h e

  cells_at : (o : Option Ty) (a b : Answer Spot) → Meets (Same IsCell) a b → BothAt o a b
  cells_at o _ _ (BothGive _ _ (It (InCell c n k) h)) = BothGive _ _ (TheCell o c n k h)
  cells_at o _ _ (BothGive _ _ (It (InSlot k) h)) = absurd (cc)
  cells_at o _ _ (BothFault fault) = BothFault fault
  cells_at o _ _ (Stuck b) = Stuck b

  fields_at : (o : Option Ty) (t u : Option Ty) (x : Text) (v : Value) → Less (and_then t struct_tag) (and_then u struct_tag) → IsHeld C v → BothAt o (field_spot p s t x v) (field_spot q (beside frames s) u x v)
  fields_at o t u x v l h = cells_at o _ _ (fields C s source frames p q types t u x v l h)

  reads_field : (t u t' u' : Option Ty) (x : Text) (v : Value) → Less (and_then t struct_tag) (and_then u struct_tag) → Less t' u' → IsHeld C v
      → Both (field_spot p s t x v >>= read slots s t') (field_spot q (beside frames s) u x v >>= read slots' (beside frames s) u')
  reads_field t u t' u' x v l m h = same_then IsCell (Same (IsHeld C)) _ _ _ _ (fields C s source frames p q types t u x v l h) λ spot i. reads C s source frames p q types slots slots' t' u' spot m i

  reads_pointed : (t u : Option Ty) (v : Value) → Less t u → IsHeld C v → Both (pointed v >>= read slots s t) (pointed v >>= read slots' (beside frames s) u)
  reads_pointed t u v l h = same_then IsCell (Same (IsHeld C)) _ _ _ _ (points C v h) λ spot i. reads C s source frames p q types slots slots' t u spot l i

  -- a field of a place
  member_at : (x : Text) (o u : Option Ty) (a b : Spot) (o' : Option Ty) → Less (and_then o struct_tag) (and_then u struct_tag) → SpotAlike P slots slots' o a b
      → BothAt o' (pointer_to a >>= λ v. field_spot p s o x v) (pointer_to b >>= λ v. field_spot q (beside frames s) u x v)
  member_at x _ u _ _ o' l (TheSlot k k' t v i e f) = Stuck _
  member_at x _ u _ _ o' l (TheCell o c n k h) = fields_at o' o u x (At c n k) l h

  member_read : (x : Text) (o u : Option Ty) (a b : Spot) (t' u' : Option Ty) → Less (and_then o struct_tag) (and_then u struct_tag) → Less t' u' → SpotAlike P slots slots' o a b
      → Both (pointer_to a >>= λ v. field_spot p s o x v >>= read slots s t') (pointer_to b >>= λ v. field_spot q (beside frames s) u x v >>= read slots' (beside frames s) u')
  member_read x _ u _ _ t' u' l m (TheSlot k k' t v i e f) = Stuck _
  member_read x _ u _ _ t' u' l m (TheCell o c n k h) = reads_field o u t' u' x (At c n k) l m h

  -- the address of a place
  spot_address : (o : Option Ty) (a b : Spot) → SpotAlike P slots slots' o a b → Both (pointer_to a) (pointer_to b)
  spot_address _ _ _ (TheSlot k k' t v i e f) = Stuck _
  spot_address _ _ _ (TheCell o c n k i) = BothGive _ _ (It (At c n k) i)

  addresses : (o : Option Ty) (a b : Answer Spot) → BothAt o a b → Both (address a) (address b)
  addresses o a b i = meets_then (SpotAlike P slots slots' o) (Same (IsHeld C)) a b pointer_to pointer_to i λ x y j. spot_address o x y j

  tests : (a b : Answer Value) → Both a b → Both (tested a) (tested b)
  tests a b h = value_then (Same (IsHeld C)) _ _ _ _ h λ v i. self_then (Same (IsHeld C)) (holds v) _ _ λ b. BothGive _ _ (It (truth_value b) tt)

  also : (x : Bool) (a b : Answer Value) → Both a b → Both (and_also x a) (and_also x b)
  also true a b h = tests a b h
  also false a b h = BothGive _ _ (It (truth_value false) tt)

  otherwise : (x : Bool) (a b : Answer Value) → Both a b → Both (or_else x a) (or_else x b)
  otherwise true a b h = BothGive _ _ (It (truth_value true) tt)
  otherwise false a b h = tests a b h

  either : (x : Bool) (a b c d : Answer Value) → Both a c → Both b d → Both (chosen x a b) (chosen x c d)
  either true a b c d h k = h
  either false a b c d h k = k

  -- ---- expressions

  sums : (a i : Expr) (v w : Value) → AllNames L a → AllNames L i → IsHeld C v → IsHeld C w
      → Both (operate p s Add (used_type here a) (used_type here i) v w) (operate q (beside frames s) Add (used_type there (image r a)) (used_type there (image r i)) v w)
  sums a i v w l m h j = operates C s source frames p q types Add _ _ _ _ v w (used_less a l) (used_less i m) h j

  mutual
    -- a place is where it was
    pub places : (e : Expr) → AllNames L e → BothAt (place_type here e) (place here e) (place there (image r e))
    places (ENamed x) l = named_spot x (r x) (named p scope x) (live x) (names x l)
    places (EUnary Dereference e) l = value_then (SpotAlike P slots slots' _) _ _ _ _ (same_values e l) λ v h. cells_at _ _ _ (points C v h)
    places (EIndex a i) l =
        value_then (SpotAlike P slots slots' _) _ _ _ _ (same_values a l.0) λ v h.
        value_then (SpotAlike P slots slots' _) _ _ _ _ (same_values i l.1) λ w j.
        value_then (SpotAlike P slots slots' _) _ _ _ _ (sums a i v w l.0 l.1 h j) λ x k. cells_at _ _ _ (points C x k)
    places (EMember e x) l =
        meets_then (SpotAlike P slots slots' (place_type here e)) (SpotAlike P slots slots' _) _ _ _ _ (places e l) λ a b h.
        member_at x (place_type here e) (place_type there (image r e)) a b _ (tag_less e l) h
    places (EArrow e x) l = value_then (SpotAlike P slots slots' _) _ _ _ _ (same_values e l) λ v h. fields_at _ _ _ x v (pointed_tag e l) h
    places _ l = Stuck _

    -- an expression has the value of its image, which is held
    pub same_values : (e : Expr) → AllNames L e → Both (value here e) (value there (image r e))
    same_values (ENamed x) l = named_value x (r x) (named p scope x) (live x) (names x l)
    same_values (EInteger kind z) l = BothGive _ _ (It (Whole kind z) tt)
    same_values (ECharacter z) l = BothGive _ _ (It _ tt)
    same_values (EText bytes) l = Stuck _
    same_values (EUnary Dereference e) l = value_then (Same (IsHeld C)) _ _ _ _ (same_values e l) λ v h. reads_pointed _ _ v (place_less (EUnary Dereference e) l) h
    same_values (EUnary AddressOf (ENamed x)) l = named_address x (r x) (named p scope x) (live x) (names x l)
    same_values (EUnary AddressOf (EUnary AddressOf e)) l = Stuck _
    same_values (EUnary AddressOf e) l = addresses _ _ _ (places e l)
    same_values (EUnary Minus e) l = value_then (Same (IsHeld C)) _ _ _ _ (same_values e l) λ v h. itself (IsHeld C) _ (applied_held C Minus v)
    same_values (EUnary Plus e) l = value_then (Same (IsHeld C)) _ _ _ _ (same_values e l) λ v h. itself (IsHeld C) _ (applied_held C Plus v)
    same_values (EUnary Not e) l = value_then (Same (IsHeld C)) _ _ _ _ (same_values e l) λ v h. itself (IsHeld C) _ (applied_held C Not v)
    same_values (EUnary Complement e) l = value_then (Same (IsHeld C)) _ _ _ _ (same_values e l) λ v h. itself (IsHeld C) _ (applied_held C Complement v)
    same_values (EBinary op a b) l =
        value_then (Same (IsHeld C)) _ _ _ _ (same_values a l.0) λ v h.
        value_then (Same (IsHeld C)) _ _ _ _ (same_values b l.1) λ w i.
        operates C s source frames p q types op _ _ _ _ v w (used_less a l.0) (used_less b l.1) h i
    same_values (EAnd a b) l =
        value_then (Same (IsHeld C)) _ _ _ _ (same_values a l.0) λ v h.
        self_then (Same (IsHeld C)) (holds v) _ _ λ x. also x _ _ (same_values b l.1)
    same_values (EOr a b) l =
        value_then (Same (IsHeld C)) _ _ _ _ (same_values a l.0) λ v h.
        self_then (Same (IsHeld C)) (holds v) _ _ λ x. otherwise x _ _ (same_values b l.1)
    same_values (EChoose e a b) l =
        value_then (Same (IsHeld C)) _ _ _ _ (same_values e l.0) λ v h.
        self_then (Same (IsHeld C)) (holds v) _ _ λ x.
        needed_then (Same (IsHeld C)) _ _ _ _ (used_less (EChoose e a b) l) λ t.
        value_then (Same (IsHeld C)) _ _ _ _ (either x _ _ _ _ (same_values a l.1) (same_values b l.2)) λ w i. itself (IsHeld C) _ (at_type_held C t w i)
    same_values (ECast t e) l = value_then (Same (IsHeld C)) _ _ _ _ (same_values e l) λ v h. itself (IsHeld C) _ (at_type_held C t v h)
    same_values (ESizeOf t) l = needed_then (Same (IsHeld C)) _ _ _ _ (size_less p q types t) λ n. BothGive _ _ (It _ tt)
    same_values (EIndex a i) l =
        value_then (Same (IsHeld C)) _ _ _ _ (same_values a l.0) λ v h.
        value_then (Same (IsHeld C)) _ _ _ _ (same_values i l.1) λ w j.
        value_then (Same (IsHeld C)) _ _ _ _ (sums a i v w l.0 l.1 h j) λ x k. reads_pointed _ _ x (place_less (EIndex a i) l) k
    same_values (EMember e x) l =
        meets_then (SpotAlike P slots slots' (place_type here e)) (Same (IsHeld C)) _ _ _ _ (places e l) λ a b h.
        member_read x (place_type here e) (place_type there (image r e)) a b _ _ (tag_less e l) (place_less (EMember e x) l) h
    same_values (EArrow e x) l = value_then (Same (IsHeld C)) _ _ _ _ (same_values e l) λ v h. reads_field _ _ _ _ x v (pointed_tag e l) (place_less (EArrow e x) l) h
    same_values (ECall f es) l = Stuck _
