-- The names of a program that breaks no rule: items and variables have plain names, and each function is found by its name.
use Rattle.std.proofs.Common.{◌≡◌, inl, inr, ◌&&◌, ℕ, zero, suc, ◌+◌, ◌<◌, ◌≤◌, ◌^◌, Bool, true, false, cond, List, [], ◌∷◌, ◌++◌, map, length, not, slice_get, Option, Some, None, option_map, bytes_eq, refl, sym, ◌∙◌, ap, subst, append_assoc, arith}
use Rattle.std.specs.Prelude.{is_some}
use Rattle.std.proofs.lemmas.List.{length-map, map-append}
use Rattle.std.proofs.lemmas.Option.{slice_get-map}
use Rattle.cpc_base.specs.Bytes.{Text}
use Rattle.cpc_base.specs.declared.stop.Dialect.TheVariants as D
use Rattle.cpc_base.proofs.Truth.{by_false_true, or_neither}
use Rattle.cpc_tree.specs.ItemGrammar.{all_named}
use Rattle.cpc_tree.specs.Located.{Ident, LStmt, Block, Declare, If, While, DoWhile, For, Label, LStmts, NoLStmt, AndLStmt, MaybeLStmt, NoneLStmt, SomeLStmt, LParameter, LFunction, LItem, LStruct, LGlobal, LPrototype, LFunctionItem, bare_stmt, bare_stmts, bare_maybe, bare_parameter, bare_function, bare_item, bare}
use Rattle.cpc_tree.specs.Points.{locals, locals_in, locals_arm}
use Rattle.cpc_tree.specs.Registers.{as_variable, variables}
use Rattle.cpc_tree.specs.Syntax.{Ty, Variable, Function, Item, StructItem, GlobalItem, PrototypeItem, FunctionItem, Program}
use Rattle.cpc_tree.specs.Typing.{Meant, AFunction, NotMeant, item_named, function_named, parameter_type}
use Rattle.cpc_check_rules.specs.declared.rule.Rule.TheVariants.{Twice, Disagree, NoMain}
use Rattle.cpc_check_rules.specs.FunctionRules.{is_kept, reserved_breaks, parameter_names, locals as names_of_locals, locals_in as names_of_locals_in, locals_maybe as names_of_locals_maybe, labels, variables as names_of_variables, label_breaks, stray_breaks, many_breaks, repeated}
use Rattle.cpc_check_rules.specs.ItemRules.{Signature, outside, is_clash, clashes, is_disagreeing, types, declared_breaks, cps_breaks, parameters_breaks, sized_breaks, in_body, body_breaks, function_breaks, item_breaks, items_breaks}
use Rattle.cpc_check_rules.specs.Rule.{at_if}
use Rattle.cpc_check_rules.specs.Rules.{has_main, broad_breaks}
use Rattle.cpc_meaning.proofs.Functions.{same_text, text_same}
use Rattle.cpc_check_laws.proofs.Sound.Agendas.{Each}
use Rattle.cpc_check_laws.proofs.Sound.Items.{named_more, named_rest, agreed, Agreed, defined_rest}
use Rattle.cpc_check_laws.proofs.Sound.Grammar.{items_shape}
use Rattle.cpc_check_laws.proofs.Sound.Programs.{ItemShape, types_are}
use Rattle.cpc_check_laws.proofs.Sound.Unbroken.{split}
use Rattle.cpc_check_laws.proofs.Run.Names.{primitive_kept, front_unreserved}
use Rattle.cpc_check_laws.proofs.Native.NativeValues.{unbroken}
use Rattle.cpc_convert_common.specs.Members.{Has, OnTop, Below}
use Rattle.cpc_forms.specs.Flow.{Flow, flow_of, is_leader}
use Rattle.cpc_forms.specs.Graph.{graph_of, node_of}
use Rattle.cpc_forms.specs.Order.{points}
use Rattle.cpc_forms.specs.Split.{number_if, leaders_from}
use Rattle.cpc_convert_routines.specs.Named.{IsUnmarked}
use Rattle.cpc_convert_routines.specs.Routines.{routine_of}
use Rattle.cpc_lifted_laws.specs.Accepted.Names.{IsPlain, name_of, IsFound, AcceptedHasNames, AcceptedIsNamed}
use Rattle.cpc_lifted_laws.proofs.Accepted.Counts.{few_variables, points_within}
use Rattle.cpc_lifted_laws.proofs.Accepted.Marks.{texts, first_plain, AllPlain, all_plain, both_plain}

-- ---- variables

abbrev names_of : List Variable → List Text
names_of xs = map (λ (x : Variable). x.called) xs

two_rows : (xs ys : List Variable) (us ws : List Ident) → names_of xs ≡ texts us → names_of ys ≡ texts ws → names_of (xs ++ ys) ≡ texts (us ++ ws)
two_rows xs ys us ws e f =
    map-append (λ (x : Variable). x.called) xs ys ∙ ap (λ zs. zs ++ names_of ys) e ∙ ap (λ zs. texts us ++ zs) f ∙ sym (map-append (λ (x : Ident). x.text) us ws)

mutual
  -- the locals of a statement have the names that the rules see
  locals_named : (s : LStmt) → names_of (locals (bare_stmt s)) ≡ texts (names_of_locals s)
  locals_named (Block q ss) = locals_named_in ss
  locals_named (Declare q x t start) = refl
  locals_named (If q c a b) = two_rows _ _ _ _ (locals_named a) (locals_named_maybe b)
  locals_named (While q c s) = locals_named s
  locals_named (DoWhile q s c) = locals_named s
  locals_named (For q ss c r s) = two_rows _ _ _ _ (locals_named_in ss) (locals_named s)
  locals_named (Label x s) = locals_named s
  locals_named _ = refl

  locals_named_in : (ss : LStmts) → names_of (locals_in (bare_stmts ss)) ≡ texts (names_of_locals_in ss)
  locals_named_in NoLStmt = refl
  locals_named_in (AndLStmt s ss) = two_rows _ _ _ _ (locals_named s) (locals_named_in ss)

  locals_named_maybe : (r : MaybeLStmt) → names_of (locals_arm (bare_maybe r)) ≡ texts (names_of_locals_maybe r)
  locals_named_maybe NoneLStmt = refl
  locals_named_maybe (SomeLStmt s) = locals_named s

abbrev Named : List LParameter → Type 0
Named ps = all_named (λ (p : LParameter). p.called) ps ≡ true

parameters_named : (ps : List LParameter) → Named ps → names_of (map as_variable (map bare_parameter ps)) ≡ texts (parameter_names ps)
parameters_named [] h = refl
parameters_named (q ∷ ps) h = one q.called q.type h (parameters_named ps)
  where
    one : (o : Option Ident) (t : Ty) → (is_some o && all_named (λ (p : LParameter). p.called) ps) ≡ true → (Named ps → names_of (map as_variable (map bare_parameter ps)) ≡ texts (parameter_names ps))
        → names_of (map as_variable (map bare_parameter (record { called = o; type = t } ∷ ps))) ≡ texts (parameter_names (record { called = o; type = t } ∷ ps))
    one None t h rest = by_false_true h
    one (Some x) t h rest = ap (λ zs. x.text ∷ zs) (rest h)

variables_named : (f : LFunction) → Named f.parameters → names_of (variables (bare_function f)) ≡ texts (names_of_variables f.parameters f.body)
variables_named f h = two_rows _ _ _ _ (parameters_named f.parameters h) (locals_named f.body)

module _ (f : LFunction) (named : Named f.parameters) where
  variables_plain : AllPlain (names_of_variables f.parameters f.body) → (k : ℕ) (x : Variable) → slice_get (variables (bare_function f)) k ≡ Some x → IsPlain x.called
  variables_plain all k x e =
      all k x.called
      (sym (ap (λ zs. slice_get zs k) (variables_named f named)) ∙ slice_get-map (λ (x : Variable). x.called) (variables (bare_function f)) k ∙ ap (option_map (λ (x : Variable). x.called)) e)

  variables_few : length (names_of_variables f.parameters f.body) ≤ 255 → length (variables (bare_function f)) ≤ 255
  variables_few le =
      let a = length-map (variables (bare_function f)) (λ (x : Variable). x.called) in
      let b = ap length (variables_named f named) in
      let c = length-map (names_of_variables f.parameters f.body) (λ (x : Ident). x.text) in
      omega (arith, le, a, b, c)

-- ---- functions

-- a second definition clashes
module _ (x : Text) (new : Signature) (defines : new.is_defined ≡ true) where
  defined_clashes : (g : Function) → clashes new g.mode true ≡ false → ⊥
  defined_clashes g e = let h = (or_neither _ (new.is_defined && true) e).1 in let k = sym (ap (λ b. b && true) defines) ∙ h in by_false_true (sym k)

  none_defined : (before : Program) → is_clash x new before ≡ false → function_named before x ≡ None
  none_defined [] h = refl
  none_defined (StructItem tag fs ∷ before) h = none_defined before h
  none_defined (GlobalItem g t start ∷ before) h = none_defined before (or_neither (bytes_eq g x) _ h).1
  none_defined (PrototypeItem m f r ps ∷ before) h = none_defined before (or_neither (bytes_eq f x && clashes new m false) _ h).1
  none_defined (FunctionItem g ∷ before) h =
      let k = or_neither (bytes_eq g.called x && clashes new g.mode true) (is_clash x new before) h in
      go (bytes_eq g.called x) k.0 (none_defined before k.1)
    where
      go : (b : Bool) → (b && clashes new g.mode true) ≡ false → function_named before x ≡ None → cond b (Some g) (function_named before x) ≡ None
      go true e rest = absurd (defined_clashes g e)
      go false e rest = rest

-- what is declared of a function that is defined
abbrev defined : LFunction → Signature
defined f = record { mode = f.mode; result = f.result; parameters = types f.parameters; is_defined = true }

module _ (program before rest : Program) (f : LFunction) (whole : program ≡ before ++ FunctionItem (bare_function f) ∷ rest) where
  is_found : is_clash f.called.text (defined f) before ≡ false → function_named program f.called.text ≡ Some (bare_function f)
  is_found c =
      ap (λ p. function_named p f.called.text) whole ∙ defined_rest before (FunctionItem (bare_function f) ∷ rest) f.called.text (none_defined f.called.text (defined f) refl before c)
      ∙ ap (λ b. cond b (Some (bare_function f)) (function_named rest f.called.text)) (text_same f.called.text)

  is_meant : is_clash f.called.text (defined f) before ≡ false → is_disagreeing f.called.text (defined f) before ≡ false
      → item_named 0 program f.called.text ≡ AFunction f.mode f.result (map parameter_type (map bare_parameter f.parameters))
  is_meant c d = ap (λ p. item_named 0 p f.called.text) whole ∙ by (agreed f.called.text (defined f) 0 before c d)
    where
      by : Agreed (defined f) (item_named 0 before f.called.text)
          → item_named 0 (before ++ FunctionItem (bare_function f) ∷ rest) f.called.text ≡ AFunction f.mode f.result (map parameter_type (map bare_parameter f.parameters))
      by (inl none) =
          let k = named_rest 0 before (FunctionItem (bare_function f) ∷ rest) f.called.text none in
          k.1 ∙ ap (λ b. cond b (AFunction f.mode f.result (map parameter_type (map bare_parameter f.parameters))) (item_named k.0 rest f.called.text)) (text_same f.called.text)
      by (inr same) = named_more 0 before (FunctionItem (bare_function f) ∷ rest) f.called.text _ tt same ∙ ap (λ ts. AFunction f.mode f.result ts) (types_are f.parameters)

-- ---- items

-- what is known of an item: its name is plain, and a function is found by it
abbrev IsKnown : Program → Item → Type 0
IsKnown p (FunctionItem f) = IsPlain f.called × IsFound p f
IsKnown p i = IsPlain (name_of i)

function_known : (program before rest : Program) (f : LFunction) → Named f.parameters → program ≡ before ++ FunctionItem (bare_function f) ∷ rest → function_breaks D.Cpc before f ≡ [] → IsPlain f.called.text × IsFound program (bare_function f)
function_known program before rest f named whole h =
    let h1 = split (reserved_breaks D.Cpc (f.called ∷ [])) _ h in
    let h2 = split (cps_breaks D.Cpc f.mode f.place) _ h1.1 in
    let h3 = split (declared_breaks before f.called (defined f)) _ h2.1 in
    let h4 = split (parameters_breaks D.Cpc f.parameters) _ h3.1 in
    let h5 = split (sized_breaks (outside D.Cpc before).scope f.parameters) _ h4.1 in
    let h6 = split (body_breaks (in_body D.Cpc before f) f.body) _ h5.1 in
    let h7 = split (reserved_breaks D.Cpc (names_of_locals f.body ++ labels f.body)) _ h6.1 in
    let h8 = split (label_breaks f.body) _ h7.1 in
    let h9 = split (stray_breaks f.body) (many_breaks D.Cpc f.parameters f.body) h8.1 in
    let c = split (at_if (is_clash f.called.text (defined f) before) f.called.place Twice) (at_if (is_disagreeing f.called.text (defined f) before) f.called.place Disagree) h3.0 in
    let clash = unbroken (is_clash f.called.text (defined f) before) f.called.place Twice c.0 in
    let disagrees = unbroken (is_disagreeing f.called.text (defined f) before) f.called.place Disagree c.1 in
    let ps = (split (repeated Twice [] (parameter_names f.parameters)) (reserved_breaks D.Cpc (parameter_names f.parameters)) h4.0).1 in (
      first_plain f.called [] h1.0,
      record {
        found = is_found program before rest f whole clash;
        meant = is_meant program before rest f whole clash disagrees;
        plain = variables_plain f named (both_plain (parameter_names f.parameters) (names_of_locals f.body) (all_plain (parameter_names f.parameters) ps) (all_plain (names_of_locals f.body) (front_unreserved (names_of_locals f.body) (labels f.body) h7.0)));
        few = variables_few f named (few_variables f.parameters f.body h9.1);
      },
    )

item_known : (program before rest : Program) (x : LItem) → ItemShape x → program ≡ before ++ bare_item x ∷ rest → item_breaks D.Cpc program before x ≡ [] → IsKnown program (bare_item x)
item_known program before rest (LStruct tag fs) shape whole h = first_plain tag [] (split (reserved_breaks D.Cpc (tag ∷ [])) _ h).0
item_known program before rest (LGlobal x t start) shape whole h = first_plain x [] (split (reserved_breaks D.Cpc (x ∷ [])) _ h).0
item_known program before rest (LPrototype q mode x r ps) shape whole h = first_plain x [] (split (reserved_breaks D.Cpc (x ∷ [])) _ h).0
item_known program before rest (LFunctionItem f) shape whole h = function_known program before rest f shape.1 whole h

module _ (program : Program) where
  -- each item of a program that breaks no rule
  pub items_known : (before : Program) (xs : List LItem) → Each ItemShape xs → program ≡ before ++ map bare_item xs → items_breaks D.Cpc program before xs ≡ [] → (i : Item) → Has i (map bare_item xs) → IsKnown program i
  items_known before [] s whole h i has = elim has [ ]
  items_known before (x ∷ xs) s whole h _ (OnTop _ _) = item_known program before (map bare_item xs) x s.0 whole (split (item_breaks D.Cpc program before x) _ h).0
  items_known before (x ∷ xs) s whole h i (Below _ _ _ has) =
      items_known (before ++ bare_item x ∷ []) xs s.1 (whole ∙ sym (append_assoc before (bare_item x ∷ []) (map bare_item xs)))
      (split (item_breaks D.Cpc program before x) (items_breaks D.Cpc program (before ++ bare_item x ∷ []) xs) h).1 i has

-- ---- all names

other : (x : Text) → is_kept x ≡ true → (g : Text) (a m : Meant) → is_kept g ≡ false → m ≡ NotMeant → cond (bytes_eq g x) a m ≡ NotMeant
other x k g a m h e = go (bytes_eq g x) refl
  where
    go : (b : Bool) → bytes_eq g x ≡ b → cond b a m ≡ NotMeant
    go true i = by_false_true (sym (sym (ap is_kept (same_text g x i) ∙ k) ∙ h))
    go false i = e

-- no item is called as what the language keeps
none_kept : (x : Text) → is_kept x ≡ true → (n : ℕ) (items : Program) → ((i : Item) → Has i items → is_kept (name_of i) ≡ false) → item_named n items x ≡ NotMeant
none_kept x k n [] h = refl
none_kept x k n (StructItem tag fs ∷ items) h = none_kept x k n items (λ i a. h i (Below _ _ _ a))
none_kept x k n (GlobalItem g t start ∷ items) h = other x k g _ _ (h _ (OnTop _ _)) (none_kept x k (suc n) items (λ i a. h i (Below _ _ _ a)))
none_kept x k n (PrototypeItem m g r ps ∷ items) h = other x k g _ _ (h _ (OnTop _ _)) (none_kept x k n items (λ i a. h i (Below _ _ _ a)))
none_kept x k n (FunctionItem f ∷ items) h = other x k f.called _ _ (h _ (OnTop _ _)) (none_kept x k n items (λ i a. h i (Below _ _ _ a)))

-- what is found by a name is an item of that name
item_there : (items : Program) (x : Text) (f : Function) → function_named items x ≡ Some f → Has (FunctionItem f) items × (f.called ≡ x)
item_there [] x f e = absurd (cc)
item_there (StructItem tag fs ∷ items) x f e = let k = item_there items x f e in (Below _ _ _ k.0, k.1)
item_there (GlobalItem g t start ∷ items) x f e = let k = item_there items x f e in (Below _ _ _ k.0, k.1)
item_there (PrototypeItem m g r ps ∷ items) x f e = let k = item_there items x f e in (Below _ _ _ k.0, k.1)
item_there (FunctionItem g ∷ items) x f e = go (bytes_eq g.called x) refl e (item_there items x f)
  where
    go : (b : Bool) → bytes_eq g.called x ≡ b → cond b (Some g) (function_named items x) ≡ Some f → (function_named items x ≡ Some f → Has (FunctionItem f) items × (f.called ≡ x)) → Has (FunctionItem f) (FunctionItem g ∷ items) × (f.called ≡ x)
    go true i e rest = let same : g ≡ f = cc in (subst (λ (h : Function). Has (FunctionItem h) (FunctionItem g ∷ items)) same (OnTop _ _), subst (λ (h : Function). h.called ≡ x) same (same_text g.called x i))
    go false i e rest = let k = rest e in (Below _ _ _ k.0, k.1)

known_plain : (p : Program) (i : Item) → IsKnown p i → IsPlain (name_of i)
known_plain p (StructItem tag fs) h = h
known_plain p (GlobalItem x t start) h = h
known_plain p (PrototypeItem m f r ps) h = h
known_plain p (FunctionItem f) h = h.0

pub accepted_has_names : AcceptedHasNames
accepted_has_names list end p read h =
    let k = split (items_breaks D.Cpc (bare p) [] p.items) _ h in
    let broad = (split (at_if (not (has_main p.items)) p.end NoMain) (broad_breaks 0 p.items) k.1).1 in
    let known = items_known (bare p) [] p.items (items_shape list p.items read.1 read.3) refl k.0 in
    record {
      items = λ i has. known_plain (bare p) i (known i has);
      functions = λ f has. (known (FunctionItem f) has).1;
      there = item_there (bare p);
      points = points_within 0 p.items broad;
      primitives = λ x prim e. none_kept x (primitive_kept x prim e) 0 (bare p) (λ i has. (known_plain (bare p) i (known i has)).unkept);
    }

-- ---- what the conversion asks

number_below : (b : Bool) (k n bound : ℕ) (rest : List ℕ) → Has n (number_if b k rest) → k < bound → (Has n rest → n < bound) → n < bound
number_below true _ _ bound rest (OnTop _ _) less h = less
number_below true k n bound rest (Below _ _ _ a) less h = h a
number_below false k n bound rest a less h = h a

leaders_below : (flow : Flow) (k size n : ℕ) → Has n (leaders_from flow k size) → n < k + size
leaders_below flow k zero n h = elim h [ ]
leaders_below flow k (suc size) n h = number_below (is_leader flow k) k n (k + suc size) (leaders_from flow (suc k) size) h (omega arith) (λ a. let i = leaders_below flow (suc k) size n a in omega (arith, i))

leader_within : (p : Program) (f : Function) → length (points f.body) ≤ 1000001 → (n : ℕ) → Has n (routine_of p f).split.leaders → n < 2 ^ 63
leader_within p f few n h =
    let k = leaders_below (flow_of (graph_of p f)) 0 (length (graph_of p f).nodes) n h in
    let e = length-map (points f.body) (node_of p f) in
    omega (arith, k, e, few)

pub accepted_is_named : AcceptedIsNamed
accepted_is_named list end p read h =
    let names = accepted_has_names list end p read h in
    record {
      unmarked = λ i has. unmarked i (names.items i has);
      found = λ f has. (names.functions f has).found;
      meant = λ f has. (names.functions f has).meant;
      unmarked_variables = λ f has k x e. ((names.functions f has).plain k x e).unmarked;
      few = λ f has. let i = (names.functions f has).few in omega (arith, i);
      small = λ f c n k. leader_within (bare p) f (names.points f c.has c.mode) n k;
    }
  where
    unmarked : (i : Item) → IsPlain (name_of i) → IsUnmarked i
    unmarked (StructItem tag fs) h = h.unmarked
    unmarked (GlobalItem x t start) h = h.unmarked
    unmarked (PrototypeItem m f r ps) h = h.unmarked
    unmarked (FunctionItem f) h = h.unmarked
