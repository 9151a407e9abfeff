-- What a name stands for by the rules where it is that of a function is what it stands for in the whole program.
use Rattle.std.proofs.Common.{◌≡◌, inl, inr, ℕ, Bool, true, false, cond, List, [], ◌∷◌, ◌++◌, map, reverse, Option, Some, None, bytes_eq, refl, sym, ◌∙◌, ap, subst}
use Rattle.std.specs.List.{All}
use Rattle.std.proofs.lemmas.List.Elements.{All-cons, All-head, All-tail}
use Rattle.cpc_base.specs.Bytes.{Text}
use Rattle.cpc_base.specs.declared.stop.Place.{Place}
use Rattle.cpc_base.specs.declared.stop.Dialect.TheVariants as D
use Rattle.cpc_tree.specs.declared.program.Mode.{Mode}
use Rattle.cpc_tree.specs.Syntax.{Ty, Item, StructItem, GlobalItem, PrototypeItem, FunctionItem, Program}
use Rattle.cpc_tree.specs.Located.{Ident, LParameter, LFunction, LItem, LStruct, LGlobal, LPrototype, LFunctionItem, bare_parameter, bare_item}
use Rattle.cpc_tree.specs.Typing.{Meant, ALocal, AGlobal, AFunction, item_named, parameter_type}
use Rattle.cpc_check_rules.specs.declared.rule.Rule.TheVariants.{Twice, Disagree}
use Rattle.cpc_check_rules.specs.Rule.{at_if}
use Rattle.cpc_check_rules.specs.Scopes as R
use Rattle.cpc_check_rules.specs.Scopes.{in_block, in_items, in_blocks, meant}
use Rattle.cpc_check_rules.specs.FunctionRules.{reserved_breaks}
use Rattle.cpc_check_rules.specs.ItemRules.{Signature, is_clash, is_disagreeing, declared_breaks, types, cps_breaks, prototype_breaks, function_breaks, item_breaks}
use Rattle.cpc_meaning.proofs.Functions.{same_text, text_same}
use Rattle.cpc_check_laws.proofs.Sound.Items.{last_first, named_more, named_rest, signed, Agreed, agreed}
use Rattle.cpc_check_laws.proofs.Sound.Unbroken.{split}
use Rattle.cpc_check_laws.proofs.Sound.Programs.{types_are}
use Rattle.cpc_check_laws.proofs.Native.NativeValues.{unbroken}

-- ---- declarations

-- a function is declared as the program has it
abbrev pub Declares : Program → Item → Type 0
Declares p (PrototypeItem m f r ps) = item_named 0 p f ≡ AFunction m r (map parameter_type ps)
Declares p (FunctionItem f) = item_named 0 p f.called ≡ AFunction f.mode f.result (map parameter_type f.parameters)
Declares p i = Unit {0}

module _ (p before rest : Program) where
  -- an item that declares a function agrees with the first that does
  signs : (i : Item) (x : Text) (new : Signature) → p ≡ before ++ i ∷ rest → ((k : ℕ) → item_named k (i ∷ rest) x ≡ signed new) → is_clash x new before ≡ false → is_disagreeing x new before ≡ false → item_named 0 p x ≡ signed new
  signs i x new whole first clash disagrees = ap (λ q. item_named 0 q x) whole ∙ go (agreed x new 0 before clash disagrees)
    where
      go : Agreed new (item_named 0 before x) → item_named 0 (before ++ i ∷ rest) x ≡ signed new
      go (inl none) = let r = named_rest 0 before (i ∷ rest) x none in r.1 ∙ first r.0
      go (inr is) = named_more 0 before (i ∷ rest) x (signed new) tt is

  prototype_declares : (q : Place) (mode : Mode) (x : Ident) (r : Ty) (ps : List LParameter) → p ≡ before ++ bare_item (LPrototype q mode x r ps) ∷ rest → prototype_breaks D.Cpc p before q mode x r ps ≡ [] → Declares p (bare_item (LPrototype q mode x r ps))
  prototype_declares q mode x r ps whole h =
      let new : Signature = record { mode = mode; result = r; parameters = types ps; is_defined = false } in
      let h1 = split (reserved_breaks D.Cpc (x ∷ [])) _ h in
      let h2 = split (cps_breaks D.Cpc mode q) _ h1.1 in
      let h3 = split (declared_breaks before x new) _ h2.1 in
      let c = split (at_if (is_clash x.text new before) x.place Twice) (at_if (is_disagreeing x.text new before) x.place Disagree) h3.0 in
      signs (bare_item (LPrototype q mode x r ps)) x.text new whole (λ k. ap (λ b. cond b (AFunction mode r (map parameter_type (map bare_parameter ps))) (item_named k rest x.text)) (text_same x.text) ∙ ap (λ ts. AFunction mode r ts) (sym (types_are ps)))
      (unbroken (is_clash x.text new before) x.place Twice c.0) (unbroken (is_disagreeing x.text new before) x.place Disagree c.1)
      ∙ ap (λ ts. AFunction mode r ts) (types_are ps)

  function_declares : (f : LFunction) → p ≡ before ++ bare_item (LFunctionItem f) ∷ rest → function_breaks D.Cpc before f ≡ [] → Declares p (bare_item (LFunctionItem f))
  function_declares f whole h =
      let new : Signature = record { mode = f.mode; result = f.result; parameters = types f.parameters; is_defined = true } in
      let h1 = split (reserved_breaks D.Cpc (f.called ∷ [])) _ h in
      let h2 = split (cps_breaks D.Cpc f.mode f.place) _ h1.1 in
      let h3 = split (declared_breaks before f.called new) _ h2.1 in
      let c = split (at_if (is_clash f.called.text new before) f.called.place Twice) (at_if (is_disagreeing f.called.text new before) f.called.place Disagree) h3.0 in
      signs (bare_item (LFunctionItem f)) f.called.text new whole
      (λ k. ap (λ b. cond b (AFunction f.mode f.result (map parameter_type (map bare_parameter f.parameters))) (item_named k rest f.called.text)) (text_same f.called.text) ∙ ap (λ ts. AFunction f.mode f.result ts) (sym (types_are f.parameters)))
      (unbroken (is_clash f.called.text new before) f.called.place Twice c.0) (unbroken (is_disagreeing f.called.text new before) f.called.place Disagree c.1)
      ∙ ap (λ ts. AFunction f.mode f.result ts) (types_are f.parameters)

  pub item_declares : (x : LItem) → p ≡ before ++ bare_item x ∷ rest → item_breaks D.Cpc p before x ≡ [] → Declares p (bare_item x)
  item_declares (LStruct tag fs) whole h = tt
  item_declares (LGlobal x t start) whole h = tt
  item_declares (LPrototype q mode x r ps) whole h = prototype_declares q mode x r ps whole h
  item_declares (LFunctionItem f) whole h = function_declares f whole h

-- ---- names

module _ (p : Program) where
  -- so the last item that declares a function says what it is
  last_is : (its : List Item) → All (Declares p) its → (x : Text) (m : Mode) (r : Ty) (ps : List Ty) → in_items its x ≡ AFunction m r ps → item_named 0 p x ≡ AFunction m r ps
  last_is [] all x m r ps e = absurd (cc)
  last_is (StructItem tag fs ∷ its) all x m r ps e = last_is its (All-tail (Declares p) (StructItem tag fs) its all) x m r ps e
  last_is (GlobalItem g t start ∷ its) all x m r ps e = go (bytes_eq g x) e (last_is its (All-tail (Declares p) (GlobalItem g t start) its all) x m r ps)
    where
      go : (b : Bool) → cond b (AGlobal 0 t) (in_items its x) ≡ AFunction m r ps → (in_items its x ≡ AFunction m r ps → item_named 0 p x ≡ AFunction m r ps) → item_named 0 p x ≡ AFunction m r ps
      go true e rest = absurd (cc)
      go false e rest = rest e
  last_is (PrototypeItem n f t qs ∷ its) all x m r ps e = go (bytes_eq f x) refl e (last_is its (All-tail (Declares p) (PrototypeItem n f t qs) its all) x m r ps)
    where
      go : (b : Bool) → bytes_eq f x ≡ b → cond b (AFunction n t (map parameter_type qs)) (in_items its x) ≡ AFunction m r ps → (in_items its x ≡ AFunction m r ps → item_named 0 p x ≡ AFunction m r ps) → item_named 0 p x ≡ AFunction m r ps
      go true i e rest = ap (item_named 0 p) (sym (same_text f x i)) ∙ All-head (Declares p) (PrototypeItem n f t qs) its all ∙ e
      go false i e rest = rest e
  last_is (FunctionItem f ∷ its) all x m r ps e = go (bytes_eq f.called x) refl e (last_is its (All-tail (Declares p) (FunctionItem f) its all) x m r ps)
    where
      go : (b : Bool) → bytes_eq f.called x ≡ b → cond b (AFunction f.mode f.result (map parameter_type f.parameters)) (in_items its x) ≡ AFunction m r ps → (in_items its x ≡ AFunction m r ps → item_named 0 p x ≡ AFunction m r ps) → item_named 0 p x ≡ AFunction m r ps
      go true i e rest = ap (item_named 0 p) (sym (same_text f.called x i)) ∙ All-head (Declares p) (FunctionItem f) its all ∙ e
      go false i e rest = rest e

  -- no local is a function
  under_blocks : (bs : List R.Block) (n : Meant) (x : Text) (m : Mode) (r : Ty) (ps : List Ty) → in_blocks bs n x ≡ AFunction m r ps → n ≡ AFunction m r ps
  under_blocks [] n x m r ps e = e
  under_blocks (b ∷ bs) n x m r ps e = go (in_block b x) refl (under_blocks bs n x m r ps)
    where
      go : (o : Option Ty) → in_block b x ≡ o → (in_blocks bs n x ≡ AFunction m r ps → n ≡ AFunction m r ps) → n ≡ AFunction m r ps
      go None i deeper = deeper (let z : in_blocks (b ∷ bs) n x ≡ in_blocks bs n x = simp (i) refl in sym z ∙ e)
      go (Some t) i deeper = absurd (let z : in_blocks (b ∷ bs) n x ≡ ALocal 0 t = simp (i) refl in let w : ALocal 0 t ≡ AFunction m r ps = sym z ∙ e in cc)

  pub meant_is : (s : R.Scope) → All (Declares p) (reverse s.items) → (x : Text) (m : Mode) (r : Ty) (ps : List Ty) → meant s x ≡ AFunction m r ps → item_named 0 p x ≡ AFunction m r ps
  meant_is s all x m r ps e = last_is (reverse s.items) all x m r ps (under_blocks s.blocks (in_items (reverse s.items) x) x m r ps e)

  -- with one more item
  pub declares_more : (before : Program) (i : Item) → All (Declares p) (reverse before) → Declares p i → All (Declares p) (reverse (before ++ i ∷ []))
  declares_more before i all this = subst (All (Declares p)) (sym (last_first before i)) (All-cons (Declares p) i (reverse before) this all)
