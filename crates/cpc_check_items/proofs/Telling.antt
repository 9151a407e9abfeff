-- What one more item tells of names.
use Rattle.std.proofs.Common.{◌≡◌, ℕ, Bool, true, false, cond, ◌&&◌, ◌||◌, not, List, [], ◌∷◌, ◌++◌, map, Option, Some, None, refl, sym, ap, ◌∙◌, subst}
use Rattle.std.proofs.lemmas.Bool.{eqb-true}
use Rattle.std.specs.Prelude.{bytes_eq, if◌then◌else◌, ◌==◌, nat_eq}
use Rattle.std.specs.HashMap as hash
use Rattle.cpc_base.specs.Bytes.{Text}
use Rattle.cpc_base.specs.declared.names.Name.{Name}
use Rattle.cpc_base.proofs.Truth.{or_regrouped, or_with_true, or_with_false, or_not_first, or_not_second, and_with_true}
use Rattle.cpc_tree.specs.declared.program.Mode.{Mode}
use Rattle.cpc_tree.specs.declared.program.Mode.TheVariants.{Extern, Native, Cps, Detached}
use Rattle.cpc_tree.specs.declared.program.Parameter as GParameter
use Rattle.cpc_tree.specs.Syntax.{Ty, Expr, Variable, Parameter, Function, Item, StructItem, GlobalItem, PrototypeItem, FunctionItem, Program}
use Rattle.cpc_tree.specs.Typing.{parameter_type}
use Rattle.cpc_tree.specs.Erase.{Names, type_of, parameter_of}
use Rattle.cpc_check_rules.specs.Apart.{AreApart}
use Rattle.cpc_check_rules.specs.ItemRules as R
use Rattle.cpc_check_items.specs.Signatures.{types_of, signature_of, are_mixed}
use Rattle.cpc_check_items.specs.Pasts.{is_clash_beside, agrees_with, is_disagreeing_beside, defined_by, joined, Tells, AreEarlier}
use Rattle.cpc_check_items.specs.declared.signatures.Signature.{Signature}
use Rattle.cpc_check_items.specs.declared.earlier.Past.{Past}
use Rattle.cpc_check_items.specs.declared.earlier.Past.TheVariants as P
use Rattle.cpc_check_items.specs.declared.earlier.Earlier.{Earlier}
use Rattle.cpc_check_items.proofs.Agreeing.{agrees_alike}

-- ---- the items of two rows

item_both : (x : Text) (xs ys : Program) → R.is_item x (xs ++ ys) ≡ (R.is_item x xs || R.is_item x ys)
item_both x [] ys = refl
item_both x (StructItem t fs ∷ xs) ys = item_both x xs ys
item_both x (GlobalItem g t start ∷ xs) ys = ap (λ b. bytes_eq g x || b) (item_both x xs ys) ∙ or_regrouped (bytes_eq g x) (R.is_item x xs) (R.is_item x ys)
item_both x (PrototypeItem mode f r ps ∷ xs) ys = ap (λ b. bytes_eq f x || b) (item_both x xs ys) ∙ or_regrouped (bytes_eq f x) (R.is_item x xs) (R.is_item x ys)
item_both x (FunctionItem f ∷ xs) ys = ap (λ b. bytes_eq f.called x || b) (item_both x xs ys) ∙ or_regrouped (bytes_eq f.called x) (R.is_item x xs) (R.is_item x ys)

clash_both : (x : Text) (new : R.Signature) (xs ys : Program) → R.is_clash x new (xs ++ ys) ≡ (R.is_clash x new xs || R.is_clash x new ys)
clash_both x new [] ys = refl
clash_both x new (StructItem t fs ∷ xs) ys = clash_both x new xs ys
clash_both x new (GlobalItem g t start ∷ xs) ys =
    ap (λ b. bytes_eq g x || b) (clash_both x new xs ys) ∙ or_regrouped (bytes_eq g x) (R.is_clash x new xs) (R.is_clash x new ys)
clash_both x new (PrototypeItem mode f r ps ∷ xs) ys =
    ap (λ b. (bytes_eq f x && R.clashes new mode false) || b) (clash_both x new xs ys) ∙ or_regrouped (bytes_eq f x && R.clashes new mode false) (R.is_clash x new xs) (R.is_clash x new ys)
clash_both x new (FunctionItem f ∷ xs) ys =
    ap (λ b. (bytes_eq f.called x && R.clashes new f.mode true) || b) (clash_both x new xs ys) ∙ or_regrouped (bytes_eq f.called x && R.clashes new f.mode true) (R.is_clash x new xs) (R.is_clash x new ys)

disagreeing_both : (x : Text) (new : R.Signature) (xs ys : Program) → R.is_disagreeing x new (xs ++ ys) ≡ (R.is_disagreeing x new xs || R.is_disagreeing x new ys)
disagreeing_both x new [] ys = refl
disagreeing_both x new (StructItem t fs ∷ xs) ys = disagreeing_both x new xs ys
disagreeing_both x new (GlobalItem g t start ∷ xs) ys = disagreeing_both x new xs ys
disagreeing_both x new (PrototypeItem mode f r ps ∷ xs) ys =
    let here = bytes_eq f x && R.disagrees new mode false r (map parameter_type ps) in
    ap (λ b. here || b) (disagreeing_both x new xs ys) ∙ or_regrouped here (R.is_disagreeing x new xs) (R.is_disagreeing x new ys)
disagreeing_both x new (FunctionItem f ∷ xs) ys =
    let here = bytes_eq f.called x && R.disagrees new f.mode true f.result (map parameter_type f.parameters) in
    ap (λ b. here || b) (disagreeing_both x new xs ys) ∙ or_regrouped here (R.is_disagreeing x new xs) (R.is_disagreeing x new ys)

-- ---- functions beside functions

abbrev differ : Bool → Bool → Bool
differ true b = not b
differ false b = b

mixed_is : (m n : Mode) → are_mixed m n ≡ differ (R.is_extern m) (R.is_extern n)
mixed_is Extern n = refl
mixed_is Native n = refl
mixed_is Cps n = refl
mixed_is Detached n = refl

clashes_is : (m : Mode) (r : Ty) (ps : List Ty) (d : Bool) (n : Mode) (e : Bool)
    → R.clashes (record { mode = m; result = r; parameters = ps; is_defined = d }) n e ≡ (differ (R.is_extern m) (R.is_extern n) || (d && e))
clashes_is Extern r ps d Extern e = refl
clashes_is Extern r ps d Native e = refl
clashes_is Extern r ps d Cps e = refl
clashes_is Extern r ps d Detached e = refl
clashes_is Native r ps d Extern e = refl
clashes_is Native r ps d Native e = refl
clashes_is Native r ps d Cps e = refl
clashes_is Native r ps d Detached e = refl
clashes_is Cps r ps d Extern e = refl
clashes_is Cps r ps d Native e = refl
clashes_is Cps r ps d Cps e = refl
clashes_is Cps r ps d Detached e = refl
clashes_is Detached r ps d Extern e = refl
clashes_is Detached r ps d Native e = refl
clashes_is Detached r ps d Cps e = refl
clashes_is Detached r ps d Detached e = refl

one_of_two : (a b c : Bool) → ((a && b) || (a && c)) ≡ (a && (b || c))
one_of_two true b c = refl
one_of_two false b c = refl

-- of three functions, with a body or without
three : (x y z a b c : Bool) → ((differ x y || (a && b)) || (differ x z || (a && c))) ≡ (if differ y z then true else (differ x y || (a && (b || c))))
three true true true a b c = one_of_two a b c
three true true false a b c = or_with_true (a && b)
three true false true a b c = refl
three true false false a b c = refl
three false true true a b c = refl
three false true false a b c = refl
three false false true a b c = or_with_true (a && b)
three false false false a b c = one_of_two a b c

both_parts : (a same s g : Bool) → (a ≡ true → s ≡ g) → (not (a && same) || not s) ≡ not (a && (same && g))
both_parts false same s g e = refl
both_parts true true s g e = ap not (e refl)
both_parts true false s g e = refl

clash_if : (b : Bool) (p q : Past) (new : R.Signature) → is_clash_beside (Some (if b then p else q)) new ≡ (if b then is_clash_beside (Some p) new else is_clash_beside (Some q) new)
clash_if true p q new = refl
clash_if false p q new = refl

-- what is declared of a function
abbrev pub signed : Mode → Ty → Bool → List Ty → R.Signature
signed m r d ps = record { mode = m; result = r; parameters = ps; is_defined = d }

-- the types of parameters
pub types_are : (names : Names) (ps : List GParameter.Parameter) → map parameter_type (map (parameter_of names) ps) ≡ types_of names ps
types_are names [] = refl
types_are names (p ∷ ps) = ap (λ ts. type_of names p.of ∷ ts) (types_are names ps)

module _ (names : Names) where
  clash_joined : (o : Option Past) (s : Signature) (new : R.Signature) → (is_clash_beside o new || R.clashes new s.mode s.is_defined) ≡ is_clash_beside (Some (joined names o s)) new
  clash_joined None s new = refl
  clash_joined (Some P.Taken) s new = refl
  clash_joined (Some (P.Functions d same)) s new =
      let x = R.is_extern new.mode in
      let y = R.is_extern d.mode in
      ap (λ b. b || R.clashes new s.mode s.is_defined) (clashes_is new.mode new.result new.parameters new.is_defined d.mode d.is_defined)
      ∙ ap (λ b. (differ x y || (new.is_defined && d.is_defined)) || b) (clashes_is new.mode new.result new.parameters new.is_defined s.mode s.is_defined)
      ∙ three x y (R.is_extern s.mode) new.is_defined d.is_defined s.is_defined
      ∙ ap (λ b. if b then true else (differ x y || (new.is_defined && (d.is_defined || s.is_defined)))) (sym (mixed_is d.mode s.mode))
      ∙ ap (λ b. if are_mixed d.mode s.mode then true else b) (sym (clashes_is new.mode new.result new.parameters new.is_defined d.mode (d.is_defined || s.is_defined)))
      ∙ sym (clash_if (are_mixed d.mode s.mode) P.Taken (P.Functions (defined_by d s) (same && agrees_with names (signature_of names d) s)) new)

  disagreeing_if : (b : Bool) (d : Signature) (same : Bool) (s : Signature) (new : R.Signature)
      → is_clash_beside (Some (if b then P.Taken else P.Functions (defined_by d s) (same && agrees_with names (signature_of names d) s))) new ≡ false
      → (not (agrees_with names new d && same) || not (agrees_with names new s))
      ≡ is_disagreeing_beside names (Some (if b then P.Taken else P.Functions (defined_by d s) (same && agrees_with names (signature_of names d) s))) new
  disagreeing_if true d same s new e = absurd cc
  disagreeing_if false d same s new e =
      both_parts (agrees_with names new d) same (agrees_with names new s) (agrees_with names (signature_of names d) s)
      (agrees_alike new.mode d.mode s.mode new.result (type_of names d.result.now) (type_of names s.result.now) new.parameters (types_of names d.parameters.now) (types_of names s.parameters.now))

  disagreeing_joined : (o : Option Past) (s : Signature) (new : R.Signature) → is_clash_beside (Some (joined names o s)) new ≡ false
      → (is_disagreeing_beside names o new || not (agrees_with names new s)) ≡ is_disagreeing_beside names (Some (joined names o s)) new
  disagreeing_joined None s new e = ap not (sym (and_with_true (agrees_with names new s)))
  disagreeing_joined (Some P.Taken) s new e = absurd cc
  disagreeing_joined (Some (P.Functions d same)) s new e = disagreeing_if (are_mixed d.mode s.mode) d same s new e

  -- ---- one more item

  -- it declares a function
  record Declares (x : Text) (y : Item) (s : Signature) : Type 0 where
    item : R.is_item x (y ∷ []) ≡ true
    clash : (new : R.Signature) → R.is_clash x new (y ∷ []) ≡ R.clashes new s.mode s.is_defined
    disagreement : (new : R.Signature) → R.is_disagreeing x new (y ∷ []) ≡ R.disagrees new s.mode s.is_defined (type_of names s.result.now) (types_of names s.parameters.now)

  -- it tells nothing of a name
  record Skips (x : Text) (y : Item) : Type 0 where
    item : R.is_item x (y ∷ []) ≡ false
    clash : (new : R.Signature) → R.is_clash x new (y ∷ []) ≡ false
    disagreement : (new : R.Signature) → R.is_disagreeing x new (y ∷ []) ≡ false

  tells_more : (before : Program) (x : Text) (y : Item) (o : Option Past) (s : Signature) → Declares x y s → Tells names before x o → Tells names (before ++ y ∷ []) x (Some (joined names o s))
  tells_more before x y o s d t = record {
    item = item_both x before (y ∷ []) ∙ ap (λ b. R.is_item x before || b) d.item ∙ or_with_true (R.is_item x before);
    clash = λ new.
        clash_both x new before (y ∷ [])
        ∙ ap (λ b. b || R.is_clash x new (y ∷ [])) (t.clash new)
        ∙ ap (λ b. is_clash_beside o new || b) (d.clash new)
        ∙ clash_joined o s new;
    disagreement = λ new e.
        let f : (is_clash_beside o new || R.clashes new s.mode s.is_defined) ≡ false = clash_joined o s new ∙ e in
        let apart : R.clashes new s.mode s.is_defined ≡ false = or_not_second (is_clash_beside o new) (R.clashes new s.mode s.is_defined) f in
        disagreeing_both x new before (y ∷ [])
        ∙ ap (λ b. b || R.is_disagreeing x new (y ∷ [])) (t.disagreement new (or_not_first (is_clash_beside o new) (R.clashes new s.mode s.is_defined) f))
        ∙ ap (λ b. is_disagreeing_beside names o new || b) (d.disagreement new ∙ ap (λ b. not b && not (agrees_with names new s)) apart)
        ∙ disagreeing_joined o s new e;
  }

  tells_same : (before : Program) (x : Text) (y : Item) (o : Option Past) → Skips x y → Tells names before x o → Tells names (before ++ y ∷ []) x o
  tells_same before x y o k t = record {
    item = item_both x before (y ∷ []) ∙ ap (λ b. R.is_item x before || b) k.item ∙ or_with_false (R.is_item x before) ∙ t.item;
    clash = λ new. clash_both x new before (y ∷ []) ∙ ap (λ b. R.is_clash x new before || b) (k.clash new) ∙ or_with_false (R.is_clash x new before) ∙ t.clash new;
    disagreement = λ new e.
        disagreeing_both x new before (y ∷ []) ∙ ap (λ b. R.is_disagreeing x new before || b) (k.disagreement new) ∙ or_with_false (R.is_disagreeing x new before) ∙ t.disagreement new e;
  }

  -- a variable
  tells_taken : (before : Program) (x : Text) (y : Item) → R.is_item x (y ∷ []) ≡ true → ((new : R.Signature) → R.is_clash x new (y ∷ []) ≡ true) → Tells names (before ++ y ∷ []) x (Some P.Taken)
  tells_taken before x y item clash = record {
    item = item_both x before (y ∷ []) ∙ ap (λ b. R.is_item x before || b) item ∙ or_with_true (R.is_item x before);
    clash = λ new. clash_both x new before (y ∷ []) ∙ ap (λ b. R.is_clash x new before || b) (clash new) ∙ or_with_true (R.is_clash x new before);
    disagreement = λ new e. absurd cc;
  }

  -- ---- the items, one by one

  skip_struct : (x t : Text) (fs : List Variable) → Skips x (StructItem t fs)
  skip_struct x t fs = record { item = refl; clash = λ new. refl; disagreement = λ new. refl }

  skip_global : (x g : Text) (t : Ty) (start : Option Expr) → bytes_eq g x ≡ false → Skips x (GlobalItem g t start)
  skip_global x g t start e = record { item = ap (λ b. b || false) e; clash = λ new. ap (λ b. b || false) e; disagreement = λ new. refl }

  skip_prototype : (x f : Text) (mode : Mode) (r : Ty) (ps : List Parameter) → bytes_eq f x ≡ false → Skips x (PrototypeItem mode f r ps)
  skip_prototype x f mode r ps e = record {
    item = ap (λ b. b || false) e;
    clash = λ new. ap (λ b. (b && R.clashes new mode false) || false) e;
    disagreement = λ new. ap (λ b. (b && R.disagrees new mode false r (map parameter_type ps)) || false) e;
  }

  skip_function : (x : Text) (f : Function) → bytes_eq f.called x ≡ false → Skips x (FunctionItem f)
  skip_function x f e = record {
    item = ap (λ b. b || false) e;
    clash = λ new. ap (λ b. (b && R.clashes new f.mode true) || false) e;
    disagreement = λ new. ap (λ b. (b && R.disagrees new f.mode true f.result (map parameter_type f.parameters)) || false) e;
  }

  declare_prototype : (x f : Text) (mode : Mode) (r : Ty) (ps : List Parameter) (s : Signature) → bytes_eq f x ≡ true → signature_of names s ≡ record { mode = mode; result = r; parameters = map parameter_type ps; is_defined = false }
      → Declares x (PrototypeItem mode f r ps) s
  declare_prototype x f mode r ps s e same = record {
    item = ap (λ b. b || false) e;
    clash = λ new. ap (λ b. (b && R.clashes new mode false) || false) e ∙ or_with_false (R.clashes new mode false) ∙ ap (λ (t : R.Signature). R.clashes new t.mode t.is_defined) (sym same);
    disagreement = λ new.
        ap (λ b. (b && R.disagrees new mode false r (map parameter_type ps)) || false) e ∙ or_with_false (R.disagrees new mode false r (map parameter_type ps))
        ∙ ap (λ (t : R.Signature). R.disagrees new t.mode t.is_defined t.result t.parameters) (sym same);
  }

  declare_function : (x : Text) (f : Function) (s : Signature) → bytes_eq f.called x ≡ true → signature_of names s ≡ record { mode = f.mode; result = f.result; parameters = map parameter_type f.parameters; is_defined = true }
      → Declares x (FunctionItem f) s
  declare_function x f s e same = record {
    item = ap (λ b. b || false) e;
    clash = λ new. ap (λ b. (b && R.clashes new f.mode true) || false) e ∙ or_with_false (R.clashes new f.mode true) ∙ ap (λ (t : R.Signature). R.clashes new t.mode t.is_defined) (sym same);
    disagreement = λ new.
        ap (λ b. (b && R.disagrees new f.mode true f.result (map parameter_type f.parameters)) || false) e ∙ or_with_false (R.disagrees new f.mode true f.result (map parameter_type f.parameters))
        ∙ ap (λ (t : R.Signature). R.disagrees new t.mode t.is_defined t.result t.parameters) (sym same);
  }

  -- what is told of a name, by whether it is the item's
  told_by : (before : Program) (y : Item) (x : Text) (m n : ℕ) (old new : Option Past) (p : Past) (b : Bool) → (m == n) ≡ b → new ≡ cond (m == n) (Some p) old
      → (b ≡ true → Tells names (before ++ y ∷ []) x (Some p)) → (b ≡ false → Tells names (before ++ y ∷ []) x old) → Tells names (before ++ y ∷ []) x new
  told_by before y x m n old new p true e is here other =
      let P : Option Past → Type 0 = Tells names (before ++ y ∷ []) x in
      subst P (sym (is ∙ ap (λ c. cond c (Some p) old) e)) (here refl)
  told_by before y x m n old new p false e is here other =
      let P : Option Past → Type 0 = Tells names (before ++ y ∷ []) x in
      subst P (sym (is ∙ ap (λ c. cond c (Some p) old) e)) (other refl)

  -- a struct comes
  pub struct_added : (before : Program) (t : Text) (fs : List Variable) (e : Earlier) → AreEarlier names before e → AreEarlier names (before ++ StructItem t fs ∷ []) e
  struct_added before t fs e d = record { told = λ n. tells_same before (names n) (StructItem t fs) (hash.get nat_eq e.past n.0) (skip_struct (names n) t fs) (d.told n) }

  module _ (apart : AreApart names) where
    -- a variable comes
    pub global_added : (before : Program) (w : Name) (t : Ty) (start : Option Expr) (e f : Earlier) → AreEarlier names before e
        → ((q : ℕ) → hash.get nat_eq f.past q ≡ cond (nat_eq w.0 q) (Some P.Taken) (hash.get nat_eq e.past q)) → AreEarlier names (before ++ GlobalItem (names w) t start ∷ []) f
    global_added before w t start e f d is = record {
      told = λ n.
          let y : Item = GlobalItem (names w) t start in
          told_by before y (names n) w.0 n.0 (hash.get nat_eq e.past n.0) (hash.get nat_eq f.past n.0) P.Taken (w.0 == n.0) refl (is n.0)
          (λ b. let g : bytes_eq (names w) (names n) ≡ true = apart.told w n ∙ b in tells_taken before (names n) y (ap (λ c. c || false) g) (λ new. ap (λ c. c || false) g))
          (λ b. tells_same before (names n) y (hash.get nat_eq e.past n.0) (skip_global (names n) (names w) t start (apart.told w n ∙ b)) (d.told n));
    }

    -- a function comes
    function_told : (before : Program) (w n : Name) (y : Item) (s : Signature) (e f : Earlier) → AreEarlier names before e
        → ((q : ℕ) → hash.get nat_eq f.past q ≡ cond (nat_eq w.0 q) (Some (joined names (hash.get nat_eq e.past w.0) s)) (hash.get nat_eq e.past q))
        → (bytes_eq (names w) (names n) ≡ true → Declares (names n) y s) → (bytes_eq (names w) (names n) ≡ false → Skips (names n) y)
        → Tells names (before ++ y ∷ []) (names n) (hash.get nat_eq f.past n.0)
    function_told before w n y s e f d is here other =
        let old = hash.get nat_eq e.past n.0 in
        told_by before y (names n) w.0 n.0 old (hash.get nat_eq f.past n.0) (joined names (hash.get nat_eq e.past w.0) s) (w.0 == n.0) refl (is n.0)
        (λ b.
        let P : ℕ → Type 0 = λ m. Tells names (before ++ y ∷ []) (names n) (Some (joined names (hash.get nat_eq e.past m) s)) in
        subst P (sym (eqb-true w.0 n.0 b)) (tells_more before (names n) y old s (here (apart.told w n ∙ b)) (d.told n)))
        (λ b. tells_same before (names n) y old (other (apart.told w n ∙ b)) (d.told n))

    pub prototype_added : (before : Program) (w : Name) (mode : Mode) (r : Ty) (ps : List Parameter) (s : Signature) (e f : Earlier) → AreEarlier names before e
        → signature_of names s ≡ record { mode = mode; result = r; parameters = map parameter_type ps; is_defined = false }
        → ((q : ℕ) → hash.get nat_eq f.past q ≡ cond (nat_eq w.0 q) (Some (joined names (hash.get nat_eq e.past w.0) s)) (hash.get nat_eq e.past q))
        → AreEarlier names (before ++ PrototypeItem mode (names w) r ps ∷ []) f
    prototype_added before w mode r ps s e f d same is = record {
      told = λ n. function_told before w n (PrototypeItem mode (names w) r ps) s e f d is
          (λ b. declare_prototype (names n) (names w) mode r ps s b same)
          (λ b. skip_prototype (names n) (names w) mode r ps b);
    }

    pub function_added : (before : Program) (w : Name) (g : Function) (s : Signature) (e f : Earlier) → AreEarlier names before e → names w ≡ g.called
        → signature_of names s ≡ record { mode = g.mode; result = g.result; parameters = map parameter_type g.parameters; is_defined = true }
        → ((q : ℕ) → hash.get nat_eq f.past q ≡ cond (nat_eq w.0 q) (Some (joined names (hash.get nat_eq e.past w.0) s)) (hash.get nat_eq e.past q))
        → AreEarlier names (before ++ FunctionItem g ∷ []) f
    function_added before w g s e f d called same is = record {
      told = λ n. function_told before w n (FunctionItem g) s e f d is
          (λ b. declare_function (names n) g s (ap (λ x. bytes_eq x (names n)) (sym called) ∙ b) same)
          (λ b. skip_function (names n) g (ap (λ x. bytes_eq x (names n)) (sym called) ∙ b));
    }
