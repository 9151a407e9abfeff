-- What calls and statements do in the frame of a source, and their images in the frame of a target.
use Rattle.std.proofs.Common.{◌≡◌, ℕ, false, List, Option, Some, None, refl, sym, ap, subst}
use Rattle.std.specs.List.{All}
use Rattle.cpc_base.specs.Bytes.{Text}
use Rattle.cpc_tree.specs.declared.program.Mode.{Mode}
use Rattle.cpc_tree.specs.declared.program.Mode.TheVariants.{Extern, Native, Cps, Detached}
use Rattle.cpc_tree.specs.Syntax.{Ty, Expr, ENamed, EInteger, ECharacter, EText, EUnary, EBinary, EAnd, EOr, EChoose, ECast, ESizeOf, EIndex, EMember, EArrow, ECall, Exprs, NoExpr, AndExpr, Function, Program}
use Rattle.cpc_tree.specs.Primitives.{Primitive, Puts, RtDetach, primitive_named}
use Rattle.cpc_tree.specs.Typing.{Scope, Meant, AFunction, NotMeant, named, function_named}
use Rattle.cpc_store.specs.Store.{Store, Blocks}
use Rattle.cpc_meaning.specs.Answer.{Answer, ◌>>=◌}
use Rattle.cpc_meaning.specs.Eval.{Slot, Context, used_type, value, values}
use Rattle.cpc_meaning.specs.Requests.{Host, takes, all_long}
use Rattle.cpc_meaning.specs.Act.{Act, calls_value, puts_text, asks, asks_with, calls_named, calls_expr}
use Rattle.cpc_meaning.proofs.SameValues.{at}
use Rattle.cpc_meaning.specs.Names.{AllNames, AllNamesAmong}
use Rattle.cpc_convert_image_laws.specs.Images.{Reading, AsLocal, AsField, Readings, image_named, image, images}
use Rattle.cpc_convert_image_laws.specs.InPlace.{is_cps, IsCalledInPlace}
use Rattle.cpc_convert_image_laws.specs.Held.{IsHeld, IsHeldSlot, IsHeldStore, beside}
use Rattle.cpc_convert_image_laws.specs.Relations.{Less, Found, BothFound, NoneFound, Common, Meets, BothGive, Same, Means, InLocal, InBox, StaysRegister, StaysBox, StaysNowhere, StaysGlobal, StaysFunction, IsCps, StaysNothing, SameAct, BothAsk}
use Rattle.cpc_convert_image_laws.proofs.Live.{IsReadLive}
use Rattle.cpc_convert_image_laws.proofs.Answers.{same_then, itself}
use Rattle.cpc_convert_image_laws.proofs.Arguments.{all_taken_held, all_long_held, bytes_held, takes_same}
use Rattle.cpc_convert_image_laws.proofs.Acts.{value_alike, type_alike, values_alike, calls_alike, calls_value_alike}

-- ---- the string of a call

text_named : (o : Option Reading) (x : Text) (es : Exprs) → puts_text Puts (AndExpr (image_named o x) es) ≡ None
text_named None x es = refl
text_named (Some (AsLocal y)) x es = refl
text_named (Some (AsField y f)) x es = refl

pub same_text : (r : Readings) (prim : Primitive) (es : Exprs) → puts_text prim (images r es) ≡ puts_text prim es
same_text r Puts NoExpr = refl
same_text r Puts (AndExpr (ENamed x) es) = text_named (r x) x (images r es)
same_text r Puts (AndExpr (EText bytes) NoExpr) = refl
same_text r Puts (AndExpr (EText bytes) (AndExpr e es)) = refl
same_text r Puts (AndExpr (EUnary sign e) es) = refl
same_text r Puts (AndExpr _ es) = refl
same_text r _ es = refl

module _ (C : Text → Type 0) (R : Function → Function → Type 0) (P : ℕ → Ty → ℕ → Type 0) (p q : Program) (common : Common C R p q) (L : Text → Type 0) (r : Readings) (scope scope' : Scope) (slots slots' : List Slot) (names : (x : Text) → L x → Means C P q scope' slots slots' x (r x) (named p scope x)) (s : Store) (source : IsHeldStore C s) (held : All (IsHeldSlot C) slots) (live : (x : Text) → IsReadLive s slots (r x)) (frames : Blocks) where
  -- what is evaluated here, and there
  abbrev here : Context
  here = at p scope slots s

  abbrev there : Context
  there = at q scope' slots' (beside frames s)

  abbrev BothAct : Answer Act → Answer Act → Type 0
  BothAct a b = Meets (SameAct C R P frames slots slots') a b

  abbrev Act' : Act → Act → Type 0
  Act' = SameAct C R P frames slots slots'

  -- ---- requests

  hosts_alike : (x : Text) (es : Exprs) → AllNamesAmong L es → BothAct (values here es >>= λ vs. all_long vs >>= λ ws. asks (Host x) ws) (values there (images r es) >>= λ vs. all_long vs >>= λ ws. asks (Host x) ws)
  hosts_alike x es l =
      same_then (All (IsHeld C)) Act' _ _ _ _ (values_alike C R P p q common L r scope scope' slots slots' names s source held live frames es l) λ vs h.
      same_then (All (IsHeld C)) Act' _ _ _ _ (itself (All (IsHeld C)) _ (all_long_held C vs h)) λ ws i.
      BothGive _ _ (BothAsk _ i)

  pub asks_alike : (prim : Primitive) (es : Exprs) (o : Option Text) → ¬ (prim ≡ RtDetach) → AllNamesAmong L es → BothAct (asks_with here prim es o) (asks_with there prim (images r es) o)
  asks_alike prim es (Some bytes) d l = BothGive _ _ (BothAsk _ (bytes_held C bytes))
  asks_alike prim es None d l =
      same_then (All (IsHeld C)) Act' _ _ _ _ (values_alike C R P p q common L r scope scope' slots slots' names s source held live frames es l) λ vs h.
      same_then (All (IsHeld C)) Act' _ _ _ _ (rw (sym (takes_same p q prim vs d)) (itself (All (IsHeld C)) _ (all_taken_held C (takes p prim vs) vs h))) λ ws i.
      BothGive _ _ (BothAsk _ i)

  -- ---- calls by name

  module _ (x : Text) (es : Exprs) (m : AllNamesAmong L es) (no_detach : ¬ (primitive_named x ≡ Some RtDetach)) where
    -- the call of the image of the name
    abbrev Called : Option Reading → Answer Act
    Called o = calls_expr there (image_named o x) (images r es)

    -- the value of the name, and its type
    abbrev IsValue : Option Reading → Type 0
    IsValue o = Meets (Same (IsHeld C)) (value here (ENamed x)) (value there (image_named o x))

    abbrev HasType : Option Reading → Type 0
    HasType o = Less (used_type here (ENamed x)) (used_type there (image_named o x))

    by_value : (o : Option Reading) → IsValue o → HasType o → BothAct (calls_value here (ENamed x) es) (calls_value there (image_named o x) (images r es))
    by_value o h t = calls_value_alike C R P p q common L r scope scope' slots slots' names s source held live frames (ENamed x) (image_named o x) es h t m

    -- a native or detached function
    function_called : (mode : Mode) (t : Ty) (ts : List Ty) (prim : Option Primitive) (f g : Option Function) → is_cps (AFunction mode t ts) ≡ false → Found R f g → IsValue None → HasType None
        → BothAct (calls_named here x es (AFunction mode t ts) prim f) (calls_named there x (images r es) (AFunction mode t ts) prim g)
    function_called Extern t ts prim f g c i h k = hosts_alike x es m
    function_called Cps t ts prim f g c i h k = absurd (cc)
    function_called Native t ts prim _ _ c (BothFound f g a b) h k = calls_alike C R P p q common L r scope scope' slots slots' names s source held live frames f g es a b m
    function_called Detached t ts prim _ _ c (BothFound f g a b) h k = calls_alike C R P p q common L r scope scope' slots slots' names s source held live frames f g es a b m
    function_called Native t ts prim _ _ c NoneFound h k = by_value None h k
    function_called Detached t ts prim _ _ c NoneFound h k = by_value None h k

    -- a name that means nothing: a primitive
    nothing_called : (prim : Option Primitive) (f g : Option Function) → ¬ (prim ≡ Some RtDetach) → IsValue None → HasType None → BothAct (calls_named here x es NotMeant prim f) (calls_named there x (images r es) NotMeant prim g)
    nothing_called None f g d h k = by_value None h k
    nothing_called (Some prim) f g d h k =
        subst (λ o. BothAct (asks_with here prim es (puts_text prim es)) (asks_with there prim (images r es) o)) (sym (same_text r prim es))
        (asks_alike prim es (puts_text prim es) (λ e. d (ap (λ y. Some y) e)) m)

    name_called : (o : Option Reading) (meant : Meant) → Means C P q scope' slots slots' x o meant → is_cps meant ≡ false → IsValue o → HasType o
        → BothAct (calls_named here x es meant (primitive_named x) (function_named p x)) (Called o)
    name_called _ _ (InLocal y k k' t v i e n f) c h a =
        subst (λ z. BothAct (calls_value here (ENamed x) es) (calls_named there y (images r es) z (primitive_named y) (function_named q y))) (sym n) (by_value (Some (AsLocal y)) h a)
    name_called _ _ (InBox y d tag k k' t b i e n f g) c h a = by_value (Some (AsField y d)) h a
    name_called _ _ (StaysRegister k k' t v i e n f) c h a =
        subst (λ z. BothAct (calls_value here (ENamed x) es) (calls_named there x (images r es) z (primitive_named x) (function_named q x))) (sym n) (by_value None h a)
    name_called _ _ (StaysBox k k' t b i e n f) c h a =
        subst (λ z. BothAct (calls_value here (ENamed x) es) (calls_named there x (images r es) z (primitive_named x) (function_named q x))) (sym n) (by_value None h a)
    name_called _ _ (StaysNowhere k k' t e n) c h a =
        subst (λ z. BothAct (calls_value here (ENamed x) es) (calls_named there x (images r es) z (primitive_named x) (function_named q x))) (sym n) (by_value None h a)
    name_called _ _ (StaysGlobal b t n) c h a =
        subst (λ z. BothAct (calls_value here (ENamed x) es) (calls_named there x (images r es) z (primitive_named x) (function_named q x))) (sym n) (by_value None h a)
    name_called _ _ (StaysFunction mode t ts n i) c h a =
        subst (λ z. BothAct (calls_named here x es (AFunction mode t ts) (primitive_named x) (function_named p x)) (calls_named there x (images r es) z (primitive_named x) (function_named q x))) (sym n)
        (function_called mode t ts (primitive_named x) _ _ c (common.codes x i) h a)
    name_called _ _ (IsCps t ts) c h a = absurd (cc)
    name_called _ _ (StaysNothing n) c h a =
        subst (λ z. BothAct (calls_named here x es NotMeant (primitive_named x) (function_named p x)) (calls_named there x (images r es) z (primitive_named x) (function_named q x))) (sym n)
        (nothing_called (primitive_named x) _ _ no_detach h a)

  -- ---- calls

  other_called : (f : Expr) (es : Exprs) → AllNames L f → AllNamesAmong L es → BothAct (calls_value here f es) (calls_value there (image r f) (images r es))
  other_called f es l m = calls_value_alike C R P p q common L r scope scope' slots slots' names s source held live frames f (image r f) es (value_alike C R P p q common L r scope scope' slots slots' names s source held live frames f l) (type_alike C R P p q common L r scope scope' slots slots' names s source held live frames f l) m

  pub calls_expr_alike : (f : Expr) (es : Exprs) → IsCalledInPlace here f → AllNames L f → AllNamesAmong L es → BothAct (calls_expr here f es) (calls_expr there (image r f) (images r es))
  calls_expr_alike (ENamed x) es c l m =
      name_called x es m c.1 (r x) (named p scope x) (names x l) c.0
      (value_alike C R P p q common L r scope scope' slots slots' names s source held live frames (ENamed x) l)
      (type_alike C R P p q common L r scope scope' slots slots' names s source held live frames (ENamed x) l)
  calls_expr_alike (EUnary sign e) es c l m = other_called (EUnary sign e) es l m
  calls_expr_alike (EInteger kind z) es c l m = other_called (EInteger kind z) es l m
  calls_expr_alike (ECharacter z) es c l m = other_called (ECharacter z) es l m
  calls_expr_alike (EText bytes) es c l m = other_called (EText bytes) es l m
  calls_expr_alike (EBinary op a b) es c l m = other_called (EBinary op a b) es l m
  calls_expr_alike (EAnd a b) es c l m = other_called (EAnd a b) es l m
  calls_expr_alike (EOr a b) es c l m = other_called (EOr a b) es l m
  calls_expr_alike (EChoose t a b) es c l m = other_called (EChoose t a b) es l m
  calls_expr_alike (ECast t e) es c l m = other_called (ECast t e) es l m
  calls_expr_alike (ESizeOf t) es c l m = other_called (ESizeOf t) es l m
  calls_expr_alike (EIndex a i) es c l m = other_called (EIndex a i) es l m
  calls_expr_alike (EMember e x) es c l m = other_called (EMember e x) es l m
  calls_expr_alike (EArrow e x) es c l m = other_called (EArrow e x) es l m
  calls_expr_alike (ECall f fs) es c l m = other_called (ECall f fs) es l m
