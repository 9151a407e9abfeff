-- Images take the address of no local: what has an address in the source is a box, which a local points to.
use Rattle.std.proofs.Common.{◌≡◌, ℕ, Bool, true, false, cond, List, [], ◌∷◌, ◌++◌, Option, Some, None, bytes_eq, refl, sym, ◌∙◌, ap}
use Rattle.std.specs.List.{All}
use Rattle.std.proofs.lemmas.List.Elements.{All-nil, All-cons, All-head, All-tail}
use Rattle.cpc_base.specs.Bytes.{Text}
use Rattle.cpc_tree.specs.declared.program.UnaryOp.{UnaryOp}
use Rattle.cpc_tree.specs.declared.program.UnaryOp.TheVariants.{Minus, Plus, Not, Complement, Dereference, AddressOf}
use Rattle.cpc_tree.specs.Syntax.{Ty, Expr, ENamed, EInteger, ECharacter, EText, EUnary, EBinary, EAnd, EOr, EChoose, ECast, ESizeOf, EIndex, EMember, EArrow, ECall, Program}
use Rattle.cpc_tree.specs.Registers.{slot_of, addresses}
use Rattle.cpc_tree.specs.Typing.{◌>>=◌, Scope, Typed, used, typing, sign_type, test_type, tested_type}
use Rattle.cpc_tree.proofs.Options.{then_some}
use Rattle.cpc_convert_image_laws.specs.Images.{Reading, AsLocal, AsField, Readings, image_named, image}
use Rattle.cpc_meaning.specs.Names.{AllNames}
use Rattle.cpc_convert_image_laws.specs.Locals.{reading_of, readings_in}
use Rattle.cpc_convert_image_laws.proofs.Types.{no_place}

all_front : {X : Type 0} (P : X → Type 0) (xs ys : List X) → All P (xs ++ ys) → All P xs
all_front P [] ys h = All-nil P
all_front P (x ∷ xs) ys h = All-cons P x xs (All-head P x (xs ++ ys) h) (all_front P xs ys (All-tail P x (xs ++ ys) h))

all_back : {X : Type 0} (P : X → Type 0) (xs ys : List X) → All P (xs ++ ys) → All P ys
all_back P [] ys h = h
all_back P (x ∷ xs) ys h = all_back P xs ys (All-tail P x (xs ++ ys) h)

both_empty : {X : Type 0} (xs ys : List X) → xs ≡ [] → ys ≡ [] → (xs ++ ys) ≡ []
both_empty xs ys e f = ap (λ zs. zs ++ ys) e ∙ f

-- an expression has a type
abbrev pub HasType : Program → Scope → Expr → Type 0
HasType p scope e = (d : Typed) × (typing p scope e ≡ Some d)

-- the operand of an operator has a type, if what it gives has one
operand_typed : (sign : UnaryOp) (o : Option Typed) (d : Typed) → sign_type sign o ≡ Some d → (x : Typed) × (o ≡ Some x)
operand_typed sign None d e = absurd (cc)
operand_typed sign (Some x) d e = (x, refl)

both_tested : (a b : Option Typed) (d : Typed) → test_type a b ≡ Some d → ((x : Typed) × (a ≡ Some x)) × ((x : Typed) × (b ≡ Some x))
both_tested None b d e = absurd (cc)
both_tested (Some x) None d e = let i = then_some (tested_type (Some x)) (λ t. None) d e in absurd (let j = i.2 in cc)
both_tested (Some x) (Some y) d e = ((x, refl), (y, refl))

-- of two operands that are used
two_used : (a b : Option Typed) (k : Ty → Ty → Option Typed) (d : Typed) → (a >>= λ x. used x >>= λ t. b >>= λ y. used y >>= λ u. k t u) ≡ Some d → ((x : Typed) × (a ≡ Some x)) × ((x : Typed) × (b ≡ Some x))
two_used None b k d e = absurd (cc)
two_used (Some x) None k d e = let i = then_some (used x) (λ t. None) d e in absurd (let j = i.2 in cc)
two_used (Some x) (Some y) k d e = ((x, refl), (y, refl))

-- of a test and two operands
three_used : (c a b : Option Typed) (k : Ty → Ty → Option Typed) (d : Typed) → (tested_type c >>= λ h. a >>= λ x. used x >>= λ t. b >>= λ y. used y >>= λ u. k t u) ≡ Some d
    → ((x : Typed) × (c ≡ Some x)) × ((x : Typed) × (a ≡ Some x)) × ((x : Typed) × (b ≡ Some x))
three_used None a b k d e = absurd (cc)
three_used (Some w) a b k d e =
    let i = then_some (tested_type (Some w)) (λ h. a >>= λ x. used x >>= λ t. b >>= λ y. used y >>= λ u. k t u) d e in
    let j = two_used a b k d i.2 in
    ((w, refl), j.0, j.1)

-- of an operand alone
one_used : (a : Option Typed) (k : Typed → Option Typed) (d : Typed) → (a >>= k) ≡ Some d → (x : Typed) × (a ≡ Some x)
one_used None k d e = absurd (cc)
one_used (Some x) k d e = (x, refl)

module _ (p : Program) (marks : ℕ → Bool) (spelled : ℕ → Text → Text) (scope scope' : Scope) (L : Text → Type 0) (stays : (x : Text) → L x → slot_of scope' x ≡ []) where
  abbrev r : Readings
  r = readings_in marks spelled scope

  -- a variable with an address is a box
  abbrev IsBox : ℕ → Type 0
  IsBox k = marks k ≡ false

  box_address : (mark : Bool) (x y : Text) → mark ≡ false → addresses scope' (EUnary AddressOf (image_named (Some (reading_of mark y x)) x)) ≡ []
  box_address true x y e = absurd (cc)
  box_address false x y e = refl

  name_address : (inner : Scope) (x : Text) → slot_of scope' x ≡ [] → All IsBox (slot_of inner x) → addresses scope' (EUnary AddressOf (image_named (readings_in marks spelled inner x) x)) ≡ []
  name_address [] x e h = e
  name_address (l ∷ inner) x e h = go (bytes_eq l.called x) h (λ i. name_address inner x e i)
    where
      go : (b : Bool) → All IsBox (cond b (l.slot ∷ []) (slot_of inner x)) → (All IsBox (slot_of inner x) → addresses scope' (EUnary AddressOf (image_named (readings_in marks spelled inner x) x)) ≡ [])
          → addresses scope' (EUnary AddressOf (image_named (cond b (Some (reading_of (marks l.slot) (spelled l.slot x) x)) (readings_in marks spelled inner x)) x)) ≡ []
      go true h rest = box_address (marks l.slot) x (spelled l.slot x) (All-head IsBox l.slot [] h)
      go false h rest = rest h

  -- a name alone takes no address, nor does what it is read as
  no_address : (o : Option Reading) (x : Text) → addresses scope' (image_named o x) ≡ []
  no_address None x = refl
  no_address (Some (AsLocal y)) x = refl
  no_address (Some (AsField y f)) x = refl

  two : (a b : Expr) → (All IsBox (addresses scope a) → addresses scope' (image r a) ≡ []) → (All IsBox (addresses scope b) → addresses scope' (image r b) ≡ [])
      → All IsBox (addresses scope a ++ addresses scope b) → (addresses scope' (image r a) ++ addresses scope' (image r b)) ≡ []
  two a b h i k = both_empty _ _ (h (all_front IsBox (addresses scope a) (addresses scope b) k)) (i (all_back IsBox (addresses scope a) (addresses scope b) k))

  pub no_addresses : (e : Expr) → HasType p scope e → AllNames L e → All IsBox (addresses scope e) → addresses scope' (image r e) ≡ []
  no_addresses (ENamed x) t l h = no_address (r x) x
  no_addresses (EInteger kind z) t l h = refl
  no_addresses (ECharacter z) t l h = refl
  no_addresses (EText bytes) t l h = refl
  no_addresses (EUnary AddressOf (ENamed x)) t l h = name_address scope x (stays x l) h
  no_addresses (EUnary AddressOf (EUnary AddressOf e)) t l h = absurd (let i = sym (no_place p scope e) ∙ t.1 in cc)
  no_addresses (EUnary AddressOf e) t l h = no_addresses e (operand_typed AddressOf (typing p scope e) t.0 t.1) l h
  no_addresses (EUnary Minus e) t l h = no_addresses e (operand_typed Minus (typing p scope e) t.0 t.1) l h
  no_addresses (EUnary Plus e) t l h = no_addresses e (operand_typed Plus (typing p scope e) t.0 t.1) l h
  no_addresses (EUnary Not e) t l h = no_addresses e (operand_typed Not (typing p scope e) t.0 t.1) l h
  no_addresses (EUnary Complement e) t l h = no_addresses e (operand_typed Complement (typing p scope e) t.0 t.1) l h
  no_addresses (EUnary Dereference e) t l h = no_addresses e (operand_typed Dereference (typing p scope e) t.0 t.1) l h
  no_addresses (EBinary op a b) t l h =
      let x = two_used (typing p scope a) (typing p scope b) _ t.0 t.1 in
      two a b (no_addresses a x.0 l.0) (no_addresses b x.1 l.1) h
  no_addresses (EAnd a b) t l h =
      let x = both_tested (typing p scope a) (typing p scope b) t.0 t.1 in
      two a b (no_addresses a x.0 l.0) (no_addresses b x.1 l.1) h
  no_addresses (EOr a b) t l h =
      let x = both_tested (typing p scope a) (typing p scope b) t.0 t.1 in
      two a b (no_addresses a x.0 l.0) (no_addresses b x.1 l.1) h
  no_addresses (EChoose c a b) t l h =
      let x = three_used (typing p scope c) (typing p scope a) (typing p scope b) _ t.0 t.1 in
      both_empty _ _
      (two c a (no_addresses c x.0 l.0) (no_addresses a x.1 l.1) (all_front IsBox (addresses scope c ++ addresses scope a) (addresses scope b) h))
      (no_addresses b x.2 l.2 (all_back IsBox (addresses scope c ++ addresses scope a) (addresses scope b) h))
  no_addresses (ECast u e) t l h = no_addresses e (one_used (typing p scope e) _ t.0 t.1) l h
  no_addresses (ESizeOf u) t l h = refl
  no_addresses (EIndex a i) t l h =
      let x = two_used (typing p scope a) (typing p scope i) _ t.0 t.1 in
      two a i (no_addresses a x.0 l.0) (no_addresses i x.1 l.1) h
  no_addresses (EMember e x) t l h = no_addresses e (one_used (typing p scope e) _ t.0 t.1) l h
  no_addresses (EArrow e x) t l h = no_addresses e (one_used (typing p scope e) _ t.0 t.1) l h
  no_addresses (ECall f es) t l h = absurd (let i = t.1 in cc)
