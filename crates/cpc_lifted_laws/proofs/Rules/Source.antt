-- What is known of the items of a program that breaks no rule of the dialect Cpc, at each place of its row.
use Rattle.std.proofs.Common.{◌≡◌, Bool, true, false, ◌&&◌, not, cond, List, [], ◌∷◌, ◌++◌, map, Some, None, bytes_eq, refl, sym, ◌∙◌, ap, subst, append_assoc, append-nil}
use Rattle.cpc_base.specs.Bytes.{Text}
use Rattle.cpc_base.specs.declared.stop.Dialect.{Dialect}
use Rattle.cpc_base.specs.declared.stop.Dialect.TheVariants as D
use Rattle.cpc_base.proofs.Truth.{by_false_true, or_neither, and_not_fails}
use Rattle.cpc_base.proofs.Lists.{some_is}
use Rattle.cpc_tree.specs.declared.program.Mode.{Mode}
use Rattle.cpc_tree.specs.Syntax.{Ty, Variable, Parameter, Function, Item, StructItem, GlobalItem, PrototypeItem, FunctionItem, Program}
use Rattle.cpc_tree.specs.Typing.{AFunction, NotMeant, function_named, parameter_type, parameter_types}
use Rattle.cpc_check_rules.specs.declared.rule.Rule.TheVariants.{Reserved, Twice, Disagree, Undeclared}
use Rattle.cpc_check_rules.specs.Rule.{at_if}
use Rattle.cpc_check_rules.specs.Scopes.{in_items}
use Rattle.cpc_check_rules.specs.FunctionRules.{is_kept, is_reserved, holds_underscores, reserved_breaks}
use Rattle.cpc_check_rules.specs.ItemRules.{Signature, is_struct, is_item, is_function, is_clash, is_disagreeing, is_extern, is_host_like, types, cps_breaks, declared_breaks, item_breaks}
use Rattle.cpc_check_laws.proofs.Native.NativeValues.{left_none, right_none, unbroken}
use Rattle.cpc_check_laws.proofs.Native.OnePlace.{here, ident_here, parameter_here, item_here}
use Rattle.cpc_meaning.proofs.Functions.{text_same}
use Rattle.cpc_check_laws.specs.Sound.Typed.{is_own}
use Rattle.cpc_check_laws.proofs.Sound.Answers.{no_some}
use Rattle.cpc_check_laws.proofs.Sound.Items.{signed, function_there}
use Rattle.cpc_check_laws.proofs.Sound.Knowing.{Known, nothing_known, known_struct, known_global, known_function}
use Rattle.cpc_check_laws.proofs.Sound.Programs.{no_extern}
use Rattle.cpc_convert_common.specs.Members.{Has}
use Rattle.cpc_lifted_laws.proofs.Rules.Rows.{rows, row_first, row_rest, has_at}

-- ---- rows

pub row_split : (dialect : Dialect) (program before xs : Program) → rows dialect program before xs ≡ [] → (front : Program) (x : Item) (back : Program) → xs ≡ front ++ x ∷ back → item_breaks dialect program (before ++ front) (item_here x) ≡ []
row_split dialect program before xs h [] x back e =
    subst (λ b. item_breaks dialect program b (item_here x) ≡ []) (sym (append-nil before)) (row_first dialect program before x back (subst (λ ys. rows dialect program before ys ≡ []) e h))
row_split dialect program before xs h (y ∷ front) x back e =
    subst (λ b. item_breaks dialect program b (item_here x) ≡ []) (append_assoc before (y ∷ []) front)
    (row_split dialect program (before ++ y ∷ []) (front ++ x ∷ back) (row_rest dialect program before y (front ++ x ∷ back) (subst (λ ys. rows dialect program before ys ≡ []) e h)) front x back refl)

-- ---- parts of rows

-- the types of parameters at one place
pub types_here : (ps : List Parameter) → types (map parameter_here ps) ≡ map parameter_type ps
types_here [] = refl
types_here (q ∷ ps) = ap (λ ts. q.type ∷ ts) (types_here ps)

-- what the rules take of what is declared
abbrev pub signature : Mode → Ty → List Parameter → Bool → Signature
signature m r ps is_defined = record { mode = m; result = r; parameters = types (map parameter_here ps); is_defined = is_defined }

-- a name that is not reserved
pub free_name : (x : Text) → reserved_breaks D.Cpc (ident_here x ∷ []) ≡ [] → is_kept x ≡ false
free_name x h = (or_neither (is_kept x) (holds_underscores x) (unbroken (is_reserved D.Cpc x) here Reserved (left_none _ _ h))).0

-- what a name may be declared beside
pub settles : (before : Program) (x : Text) (new : Signature) → declared_breaks before (ident_here x) new ≡ [] → (is_clash x new before ≡ false) × (is_disagreeing x new before ≡ false)
settles before x new h = (
  unbroken (is_clash x new before) here Twice (left_none _ _ h),
  unbroken (is_disagreeing x new before) here Disagree (right_none (at_if (is_clash x new before) here Twice) _ h),
)

-- ---- what is known

module _ (p before rest : Program) (known : Known p before) where
  known_prototype : (m : Mode) (x : Text) (r : Ty) (ps : List Parameter) → item_breaks D.Cpc p before (item_here (PrototypeItem m x r ps)) ≡ [] → Known p (before ++ PrototypeItem m x r ps ∷ [])
  known_prototype m x r ps h =
      let new = signature m r ps false in
      let h1 = right_none (reserved_breaks D.Cpc (ident_here x ∷ [])) _ h in
      let h2 = right_none (cps_breaks D.Cpc m here) _ h1 in
      let s = settles before x new (left_none _ _ h2) in
      let h3 = right_none (declared_breaks before (ident_here x) new) _ h2 in
      let host = unbroken (is_extern m && not (is_host_like r (types (map parameter_here ps)))) here Disagree (left_none _ _ h3) in
      let h4 = right_none (at_if (is_extern m && not (is_host_like r (types (map parameter_here ps)))) here Disagree) _ h3 in
      let there = unbroken (not (is_extern m) && not (is_function x p)) here Undeclared (left_none _ _ h4) in
      known_function p before known (PrototypeItem m x r ps) x new
      (λ q y. ap (λ ts. cond (bytes_eq x y) (AFunction m r ts) (in_items q y)) (sym (types_here ps)))
      (λ k y. ap (λ ts. cond (bytes_eq x y) (AFunction m r ts) NotMeant) (sym (types_here ps)))
      s.0 s.1 (free_name x (left_none _ _ h)) (λ e. and_not_fails (is_extern m) (is_host_like r (types (map parameter_here ps))) host (ap is_extern e))
      (λ o. and_not_fails (not (is_extern m)) (is_function x p) there (ap not (no_extern m o))) (λ y g e. no_some g e)

  known_definition : (f : Function) → is_own f.mode ≡ true → p ≡ before ++ FunctionItem f ∷ rest → item_breaks D.Cpc p before (item_here (FunctionItem f)) ≡ [] → Known p (before ++ FunctionItem f ∷ [])
  known_definition f own whole h =
      let new = signature f.mode f.result f.parameters true in
      let h1 = right_none (reserved_breaks D.Cpc (ident_here f.called ∷ [])) _ h in
      let h2 = right_none (cps_breaks D.Cpc f.mode here) _ h1 in
      let s = settles before f.called new (left_none _ _ h2) in
      known_function p before known (FunctionItem f) f.called new
      (λ q y. ap (λ ts. cond (bytes_eq f.called y) (AFunction f.mode f.result ts) (in_items q y)) (sym (types_here f.parameters)))
      (λ k y. ap (λ ts. cond (bytes_eq f.called y) (AFunction f.mode f.result ts) NotMeant) (sym (types_here f.parameters)))
      s.0 s.1 (free_name f.called (left_none _ _ h)) (λ e. by_false_true (sym (no_extern f.mode own) ∙ ap is_extern e))
      (λ o. subst (λ q. is_function f.called q ≡ true) (sym whole) (function_there before rest f f.called (text_same f.called))) (λ y g e. is_new y g e)
    where
      is_new : (y : Text) (g : Function) → function_named (FunctionItem f ∷ []) y ≡ Some g → (bytes_eq f.called y ≡ true) × (signed (signature f.mode f.result f.parameters true) ≡ AFunction g.mode g.result (parameter_types g))
      is_new y g e = go (bytes_eq f.called y) e
        where
          go : (b : Bool) → cond b (Some f) None ≡ Some g → (b ≡ true) × (signed (signature f.mode f.result f.parameters true) ≡ AFunction g.mode g.result (parameter_types g))
          go true e = (refl, ap (λ ts. AFunction f.mode f.result ts) (types_here f.parameters) ∙ ap (λ (g : Function). AFunction g.mode g.result (parameter_types g)) (some_is f g e))
          go false e = no_some g e

  known_one : (x : Item) → ((f : Function) → Has (FunctionItem f) p → is_own f.mode ≡ true) → p ≡ before ++ x ∷ rest → item_breaks D.Cpc p before (item_here x) ≡ [] → Known p (before ++ x ∷ [])
  known_one (StructItem tag fs) own whole h = known_struct p before known tag fs
  known_one (GlobalItem x t s) own whole h =
      let h1 = right_none (reserved_breaks D.Cpc (ident_here x ∷ [])) _ h in
      known_global p before known x t s (unbroken (is_item x before) here Twice (left_none _ _ h1)) (free_name x (left_none _ _ h))
  known_one (PrototypeItem m x r ps) own whole h = known_prototype m x r ps h
  known_one (FunctionItem f) own whole h = known_definition f (own f (subst (Has (FunctionItem f)) (sym whole) (has_at before rest (FunctionItem f)))) whole h

module _ (p : Program) (own : (f : Function) → Has (FunctionItem f) p → is_own f.mode ≡ true) where
  known_from : (before xs : Program) → p ≡ before ++ xs → rows D.Cpc p before xs ≡ [] → Known p before → (front back : Program) → xs ≡ front ++ back → Known p (before ++ front)
  known_from before xs whole h known [] back e = subst (Known p) (sym (append-nil before)) known
  known_from before xs whole h known (x ∷ front) back e =
      let h2 = subst (λ ys. rows D.Cpc p before ys ≡ []) e h in
      let whole2 = whole ∙ ap (λ ys. before ++ ys) e in
      subst (Known p) (append_assoc before (x ∷ []) front)
      (known_from (before ++ x ∷ []) (front ++ back) (whole2 ∙ sym (append_assoc before (x ∷ []) (front ++ back))) (row_rest D.Cpc p before x (front ++ back) h2)
      (known_one p before (front ++ back) known x own whole2 (row_first D.Cpc p before x (front ++ back) h2)) front back refl)

  -- what is known of the items up to some place
  pub known_at : rows D.Cpc p [] p ≡ [] → (front back : Program) → p ≡ front ++ back → Known p front
  known_at h front back e = known_from [] p refl h (nothing_known p) front back e

-- and of all
pub known_whole : (p : Program) → ((f : Function) → Has (FunctionItem f) p → is_own f.mode ≡ true) → rows D.Cpc p [] p ≡ [] → Known p p
known_whole p own h = known_at p own h p [] (sym (append-nil p))

-- ---- each function and each struct once

module _ (p : Program) (h : rows D.Cpc p [] p ≡ []) where
  -- no definition of a name stands before another
  pub defined_once : (front : Program) (f : Function) (back : Program) → p ≡ front ++ FunctionItem f ∷ back → (is_clash f.called (signature f.mode f.result f.parameters true) front ≡ false) × (is_disagreeing f.called (signature f.mode f.result f.parameters true) front ≡ false)
  defined_once front f back e =
      let r = row_split D.Cpc p [] p h front (FunctionItem f) back e in
      let h1 = right_none (reserved_breaks D.Cpc (ident_here f.called ∷ [])) _ r in
      settles front f.called (signature f.mode f.result f.parameters true) (left_none _ _ (right_none (cps_breaks D.Cpc f.mode here) _ h1))

  -- nor a struct of a tag before another
  pub struct_once : (front : Program) (tag : Text) (fs : List Variable) (back : Program) → p ≡ front ++ StructItem tag fs ∷ back → is_struct tag front ≡ false
  struct_once front tag fs back e =
      let r = row_split D.Cpc p [] p h front (StructItem tag fs) back e in
      unbroken (is_struct tag front) here Twice (left_none _ _ (right_none (reserved_breaks D.Cpc (ident_here tag ∷ [])) _ r))
