-- An expression that has a type has it also where more is declared.
use Rattle.std.proofs.Common.{◌≡◌, ◌&&◌, ℕ, Bool, true, cond, Option, Some, None, refl, sym, ◌∙◌, ap}
use Rattle.std.specs.Prelude.{is_some}
use Rattle.cpc_base.specs.Bytes.{Text}
use Rattle.cpc_base.proofs.Truth.{and_both}
use Rattle.cpc_num.specs.declared.kinds.Kind.TheVariants.{Long}
use Rattle.cpc_num.specs.declared.kinds.Op.{Op}
use Rattle.cpc_num.specs.declared.kinds.Op.TheVariants.{Add, Sub}
use Rattle.cpc_tree.specs.declared.program.UnaryOp.TheVariants.{AddressOf}
use Rattle.cpc_tree.specs.Syntax.{Ty, TyInt, TyPointer, Expr, ENamed, EInteger, ECharacter, EText, EUnary, EBinary, EAnd, EOr, EChoose, ECast, ESizeOf, EIndex, EMember, EArrow, ECall, Program}
use Rattle.cpc_tree.specs.Typing.{Meant, Typed, size, field, used, typed_place, target, struct_tag, type_named, sign_type, tested_type, movable, sum_type, difference_type, binary_type, field_type, is_null, same_type, typing_of}
use Rattle.cpc_tree.proofs.Options.{then_some}
use Rattle.cpc_check_laws.proofs.Sound.Answers.{no_some, if_some}
use Rattle.cpc_check_laws.proofs.Sound.Options.{then_of}
use Rattle.cpc_check_laws.proofs.Sound.Expressions.{sign_some, tested_is}

pub tested_more : (o u : Option Typed) (t : Ty) → ((d : Typed) → o ≡ Some d → u ≡ Some d) → tested_type o ≡ Some t → tested_type u ≡ Some t
tested_more o u t more h = let m = tested_is o t h in ap tested_type (more m.0 m.1 ∙ sym m.1) ∙ h

module _ (p q : Program) (sizes : (t : Ty) (n : ℕ) → size p t ≡ Some n → size q t ≡ Some n) where
  sized_more : (t : Ty) → is_some (size p t) ≡ true → is_some (size q t) ≡ true
  sized_more t e = go (size p t) refl e
    where
      go : (o : Option ℕ) → size p t ≡ o → is_some o ≡ true → is_some (size q t) ≡ true
      go None f e = absurd (cc)
      go (Some n) f e = ap is_some (sizes t n f)

  movable_more : (t r : Ty) → movable p t ≡ Some r → movable q t ≡ Some r
  movable_more t r e =
      let h = if_some (is_some (size p t)) (TyPointer t) r e in
      ap (λ b. cond b (Some (TyPointer t)) None) (sized_more t h.0) ∙ ap (λ t. Some t) h.1

  pub sum_more : (t u r : Ty) → sum_type p t u ≡ Some r → sum_type q t u ≡ Some r
  sum_more (TyPointer t) (TyInt k) r e = movable_more t r e
  sum_more (TyInt j) (TyPointer t) r e = movable_more t r e
  sum_more (TyInt j) (TyInt k) r e = e
  sum_more _ _ r e = no_some r e

  apart_more : (t u r : Ty) → cond (same_type t u && is_some (size p t)) (Some (TyInt Long)) None ≡ Some r → cond (same_type t u && is_some (size q t)) (Some (TyInt Long)) None ≡ Some r
  apart_more t u r e =
      let h = if_some (same_type t u && is_some (size p t)) (TyInt Long) r e in
      let k = and_both (same_type t u) (is_some (size p t)) h.0 in
      ap (λ b. cond (b && is_some (size q t)) (Some (TyInt Long)) None) k.0 ∙ ap (λ b. cond b (Some (TyInt Long)) None) (sized_more t k.1) ∙ ap (λ t. Some t) h.1

  difference_more : (t u r : Ty) → difference_type p t u ≡ Some r → difference_type q t u ≡ Some r
  difference_more (TyPointer t) (TyInt k) r e = movable_more t r e
  difference_more (TyPointer t) (TyPointer u) r e = apart_more t u r e
  difference_more (TyInt j) (TyInt k) r e = e
  difference_more _ _ r e = no_some r e

  binary_more : (op : Op) (m n : Bool) (t u r : Ty) → binary_type p op m n t u ≡ Some r → binary_type q op m n t u ≡ Some r
  binary_more Add m n t u r e = sum_more t u r e
  binary_more Sub m n t u r e = difference_more t u r e
  binary_more _ m n t u r e = e

  module _ (fields : (tag x : Text) (f : ℕ × Ty) → field p tag x ≡ Some f → field q tag x ≡ Some f) where
    field_more : (o : Option Ty) (x : Text) (d : Typed) → field_type p o x ≡ Some d → field_type q o x ≡ Some d
    field_more o x d h =
        let k = then_some o _ d h in
        let l = then_some (struct_tag k.0) _ d k.2 in
        let m = then_some (field p l.0 x) _ d l.2 in
        then_of o _ k.0 d k.1 (then_of (struct_tag k.0) _ l.0 d l.1 (then_of (field q l.0 x) _ m.0 d (fields l.0 x m.0 m.1) m.2))

    module _ (meant meant' : Text → Meant) (names : (x : Text) (d : Typed) → type_named (meant x) ≡ Some d → type_named (meant' x) ≡ Some d) where
      mutual
        pub typing_more : (e : Expr) (d : Typed) → typing_of meant p e ≡ Some d → typing_of meant' q e ≡ Some d
        typing_more (ENamed x) d h = names x d h
        typing_more (EInteger kind z) d h = h
        typing_more (ECharacter z) d h = h
        typing_more (EText bytes) d h = h
        typing_more (EUnary AddressOf (ENamed x)) d h =
            let k = then_some (type_named (meant x)) _ d h in
            then_of (type_named (meant' x)) _ k.0 d (names x k.0 k.1) k.2
        typing_more (EUnary sign e) d h =
            let k = sign_some sign (typing_of meant p e) d h in
            ap (sign_type sign) (typing_more e k.0 k.1) ∙ k.2
        typing_more (EBinary op a b) d h =
            let k = then_some (typing_of meant p a) _ d h in
            let l = then_some (used k.0) _ d k.2 in
            let m = then_some (typing_of meant p b) _ d l.2 in
            let n = then_some (used m.0) _ d m.2 in
            let r = then_some (binary_type p op (is_null a) (is_null b) l.0 n.0) _ d n.2 in
            then_of (typing_of meant' q a) _ k.0 d (typing_more a k.0 k.1) (then_of (used k.0) _ l.0 d l.1 (then_of (typing_of meant' q b) _ m.0 d (typing_more b m.0 m.1) (then_of (used m.0) _ n.0 d n.1
            (then_of (binary_type q op (is_null a) (is_null b) l.0 n.0) _ r.0 d (binary_more op (is_null a) (is_null b) l.0 n.0 r.0 r.1) r.2))))
        typing_more (EAnd a b) d h =
            let k = then_some (tested_type (typing_of meant p a)) _ d h in
            let l = then_some (tested_type (typing_of meant p b)) _ d k.2 in
            then_of (tested_type (typing_of meant' q a)) _ k.0 d (tested_more _ _ k.0 (λ d h. typing_more a d h) k.1) (then_of (tested_type (typing_of meant' q b)) _ l.0 d (tested_more _ _ l.0 (λ d h. typing_more b d h) l.1) l.2)
        typing_more (EOr a b) d h =
            let k = then_some (tested_type (typing_of meant p a)) _ d h in
            let l = then_some (tested_type (typing_of meant p b)) _ d k.2 in
            then_of (tested_type (typing_of meant' q a)) _ k.0 d (tested_more _ _ k.0 (λ d h. typing_more a d h) k.1) (then_of (tested_type (typing_of meant' q b)) _ l.0 d (tested_more _ _ l.0 (λ d h. typing_more b d h) l.1) l.2)
        typing_more (EChoose c a b) d h =
            let o = then_some (tested_type (typing_of meant p c)) _ d h in
            let k = then_some (typing_of meant p a) _ d o.2 in
            let l = then_some (used k.0) _ d k.2 in
            let m = then_some (typing_of meant p b) _ d l.2 in
            let n = then_some (used m.0) _ d m.2 in
            then_of (tested_type (typing_of meant' q c)) _ o.0 d (tested_more _ _ o.0 (λ d h. typing_more c d h) o.1) (then_of (typing_of meant' q a) _ k.0 d (typing_more a k.0 k.1) (then_of (used k.0) _ l.0 d l.1
            (then_of (typing_of meant' q b) _ m.0 d (typing_more b m.0 m.1) (then_of (used m.0) _ n.0 d n.1 n.2))))
        typing_more (ECast t e) d h =
            let k = then_some (typing_of meant p e) _ d h in
            then_of (typing_of meant' q e) _ k.0 d (typing_more e k.0 k.1) k.2
        typing_more (ESizeOf t) d h =
            let k = then_some (size p t) _ d h in
            then_of (size q t) _ k.0 d (sizes t k.0 k.1) k.2
        typing_more (EIndex a i) d h =
            let k = then_some (typing_of meant p a) _ d h in
            let l = then_some (used k.0) _ d k.2 in
            let m = then_some (typing_of meant p i) _ d l.2 in
            let n = then_some (used m.0) _ d m.2 in
            let r = then_some (sum_type p l.0 n.0) _ d n.2 in
            then_of (typing_of meant' q a) _ k.0 d (typing_more a k.0 k.1) (then_of (used k.0) _ l.0 d l.1 (then_of (typing_of meant' q i) _ m.0 d (typing_more i m.0 m.1) (then_of (used m.0) _ n.0 d n.1
            (then_of (sum_type q l.0 n.0) _ r.0 d (sum_more l.0 n.0 r.0 r.1) r.2))))
        typing_more (EMember e x) d h =
            let k = then_some (typing_of meant p e) _ d h in
            then_of (typing_of meant' q e) _ k.0 d (typing_more e k.0 k.1) (field_more (typed_place k.0) x d k.2)
        typing_more (EArrow e x) d h =
            let k = then_some (typing_of meant p e) _ d h in
            let l = then_some (used k.0) _ d k.2 in
            then_of (typing_of meant' q e) _ k.0 d (typing_more e k.0 k.1) (then_of (used k.0) _ l.0 d l.1 (field_more (target l.0) x d l.2))
        typing_more (ECall g es) d h = h
