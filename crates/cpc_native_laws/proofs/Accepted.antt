-- Programs that are accepted have numbers, and texts that tell their names.
use Rattle.std.proofs.Common.{◌≡◌, ℕ, zero, suc, ◌<◌, ◌≤◌, Bool, true, false, ◌&&◌, cond, nat_lt, List, [], ◌∷◌, length, map, Option, Some, None, refl, sym, ap, subst, ◌∙◌, arith}
use Rattle.std.specs.Prelude.{slice_get, is_some, option_map, bytes_eq}
use Rattle.std.proofs.Math.Bool.{Bool-set}
use Rattle.std.proofs.Math.Logic.{∥∥₁_elim}
use Rattle.std.proofs.lemmas.Bool.Decides.{nat_tests}
use Rattle.std.proofs.lemmas.List.{get_or_past}
use Rattle.cpc_base.specs.Bytes.{Text}
use Rattle.cpc_base.specs.Texts.{AreDistinct}
use Rattle.cpc_base.specs.declared.names.Name.{Name}
use Rattle.cpc_base.specs.declared.stop.Dialect.{Dialect}
use Rattle.cpc_base.proofs.Truth.{and_both, true_not_false}
use Rattle.cpc_base.proofs.Lists.{none_not_some}
use Rattle.cpc_check_rules.specs.ItemRules.{items_breaks}
use Rattle.cpc_check_rules.specs.Rules.{breaks}
use Rattle.cpc_check_rules.specs.Apart.{Spells}
use Rattle.cpc_tree.specs.Erase.{Names, in_table, parameter_of, function_of, item_of, program_of}
use Rattle.cpc_tree.specs.Syntax as S
use Rattle.cpc_tree.specs.Typing.{function_named}
use Rattle.cpc_tree.specs.Locate.{ident, located, located_item, located_parameter, located_function}
use Rattle.cpc_tree.specs.Located.{LParameter, LFunctionItem, bare, bare_item}
use Rattle.cpc_tree.specs.ItemGrammar.{all_named}
use Rattle.cpc_tree.specs.declared.program.Function.{Function}
use Rattle.cpc_tree.specs.declared.program.Item as GItem
use Rattle.cpc_tree.specs.declared.program.Item.TheVariants as I
use Rattle.cpc_tree.specs.declared.program.Parameter.{Parameter}
use Rattle.cpc_tree.specs.declared.program.Program as GProgram
use Rattle.cpc_tree.specs.declared.program.Word.{Word}
use Rattle.cpc_tree.proofs.Places.{bare_items}
use Rattle.cpc_check.specs.Accepted.{IsRead, IsWithin}
use Rattle.cpc_eval.specs.Numbers.{ProgramNumbers}
use Rattle.cpc_native_laws.specs.Laws.{AcceptedHasNumbers, IsSpelling, AreSpellings}
use Rattle.cpc_check_laws.proofs.Sound.Unbroken.{split}
use Rattle.cpc_check.proofs.Spelled.{spelling, spells}
use Rattle.cpc_native_laws.proofs.Tokens.{row_fit}
use Rattle.cpc_native_laws.proofs.Literals.{FineItem, FineItems, items_fine}
use Rattle.cpc_native_laws.proofs.Sizes.{items_numbers}
use Rattle.cpc_native_laws.proofs.Props.{program_prop}
use Rattle.cpc_native_laws.proofs.Inside.{name_in, items_in}
use Rattle.cpc_native_laws.proofs.Alike.{two, items_same}
use Rattle.cpc_native_laws.proofs.There.{items_there}
use Rattle.cpc_native_laws.proofs.Others.{others, others_spell, are_others}

-- ---- numbers

pub accepted_has_numbers : AcceptedHasNumbers
accepted_has_numbers dialect text p a =
    let parses = a.parses in
    let fine = items_fine parses.0 p.items parses.2.1 parses.2.3 (row_fit parses.1.1) in
    items_numbers dialect (bare p) [] p.items refl fine (split (items_breaks dialect (bare p) [] p.items) _ a.unbroken).0

-- the same of a tree
pub read_has_numbers : (dialect : Dialect) (p : GProgram.Program) → ∥ IsRead dialect (located p) ∥₁ → breaks dialect (located p) ≡ [] → ProgramNumbers (program_of p)
read_has_numbers dialect p read unbroken =
    subst ProgramNumbers (bare_items (in_table p.names) p.items.items)
    (∥∥₁_elim read (program_prop (bare (located p))) (λ (r : IsRead dialect (located p)). accepted_has_numbers dialect r.text (located p) (record { parses = r.parses; unbroken = unbroken })))

-- ---- names that are there

full : (a : ℕ) (x : List ℕ) → a ∷ x ≡ [] → ⊥
full a x e = absurd cc

some_word : (names : Names) (o : Option Word) → is_some (option_map (ident names) o) ≡ true → o ≡ None → ⊥
some_word names None h e = true_not_false (sym h)
some_word names (Some w) h e = none_not_some w (sym e)

module _ (p : GProgram.Program) where
  abbrev table : Names
  table = in_table p.names

  -- another text for each name that the table does not have
  other : Names
  other n = cond (name_in (length p.names) n) (table n) (0 ∷ [])

  below : (n m : ℕ) → n < m → nat_lt n m ≡ true
  below n m h = grind (arith, nat_tests)

  not_below : (n m : ℕ) → nat_lt n m ≡ false → m ≤ n
  not_below n m h = grind (arith, nat_tests)

  under : (n m : ℕ) → nat_lt n m ≡ true → n < m
  under n m h = grind (arith, nat_tests)

  agrees : (n : Name) → n.0 < length p.names → other n ≡ table n
  unfolding other
  agrees n h = ap (λ b. cond b (table n) (0 ∷ [])) (below n.0 (length p.names) h)

  differs : (n : Name) → other n ≡ table n → name_in (length p.names) n ≡ true
  unfolding other
  differs n e = go (name_in (length p.names) n) refl e
    where
      go : (b : Bool) → name_in (length p.names) n ≡ b → cond b (table n) (0 ∷ []) ≡ table n → b ≡ true
      go true f e = refl
      go false f e = absurd (full 0 [] (e ∙ get_or_past p.names n.0 [] (not_below n.0 (length p.names) f)))

  all_in : IsWithin p → items_in (length p.names) p.items.items ≡ true
  all_in within =
      let e : map bare_item (map (located_item other) p.items.items) ≡ map bare_item (map (located_item table) p.items.items) = ap (map bare_item) (within.alike other agrees) in
      items_there (length p.names) other table differs p.items.items (sym (bare_items other p.items.items) ∙ e ∙ bare_items table p.items.items)

  same_by : (names : Names) → Spells p.names names → ∥ IsWithin p ∥₁ → map (item_of names) p.items.items ≡ program_of p
  same_by names s within = items_same (length p.names) names table (λ n h. s.inside n (under n.0 (length p.names) h)) p.items.items (∥∥₁_elim within (Bool-set _ _) all_in)

  -- ---- parameters that have names

  fine_at : (xs : List GItem.Item) (k : ℕ) (f : Function) → FineItems (map (located_item table) xs) → slice_get xs k ≡ Some (I.Function f) → FineItem (LFunctionItem (located_function table f))
  fine_at [] k f h e = absurd (none_not_some (I.Function f) e)
  fine_at (x ∷ xs) zero f h e = let g : x ≡ I.Function f = cc in subst (λ y. FineItem (located_item table y)) g h.0
  fine_at (x ∷ xs) (suc k) f h e = fine_at xs k f h.1 e

  all_have : (dialect : Dialect) → ∥ IsRead dialect (located p) ∥₁ → (k : ℕ) (f : Function) → slice_get p.items.items k ≡ Some (I.Function f) → all_named (λ (q : LParameter). q.called) (map (located_parameter table) f.parameters.items) ≡ true
  all_have dialect read k f e = ∥∥₁_elim read (Bool-set _ _) (λ (r : IsRead dialect (located p)).
      (fine_at p.items.items k f (items_fine r.parses.0 (located p).items r.parses.2.1 r.parses.2.3 (row_fit r.parses.1.1)) e).1)

  has_name : (ps : List Parameter) → all_named (λ (q : LParameter). q.called) (map (located_parameter table) ps) ≡ true → (k : ℕ) (q : Parameter) → slice_get ps k ≡ Some q → q.word ≡ None → ⊥
  has_name [] h k q e none = none_not_some q e
  has_name (x ∷ ps) h zero q e none =
      let k = and_both (is_some (option_map (ident table) x.word)) (all_named (λ (q : LParameter). q.called) (map (located_parameter table) ps)) h in
      let g : x ≡ q = cc in
      some_word table x.word k.0 (ap (λ (q : Parameter). q.word) g ∙ none)
  has_name (x ∷ ps) h (suc k) q e none = has_name ps (and_both (is_some (option_map (ident table) x.word)) (all_named (λ (q : LParameter). q.called) (map (located_parameter table) ps)) h).1 k q e none

  -- ---- the same by the names of functions

  word_again : (o : Option Word) → is_some (option_map (ident table) o) ≡ is_some (option_map (λ (w : Word). table w.name) o)
  word_again None = refl
  word_again (Some w) = refl

  named_again : (ps : List Parameter) → all_named (λ (q : LParameter). q.called) (map (located_parameter table) ps) ≡ all_named (λ (q : S.Parameter). q.called) (map (parameter_of table) ps)
  named_again [] = refl
  named_again (q ∷ ps) = two (λ a b. a && b) (word_again q.word) (named_again ps)

  found_named : (xs : List GItem.Item) (x : Text) (f : S.Function) → FineItems (map (located_item table) xs) → function_named (map (item_of table) xs) x ≡ Some f → all_named (λ (q : S.Parameter). q.called) f.parameters ≡ true
  found_named [] x f h e = absurd (none_not_some f e)
  found_named (I.Struct tag fields ∷ xs) x f h e = found_named xs x f h.1 e
  found_named (I.Global w t start ∷ xs) x f h e = found_named xs x f h.1 e
  found_named (I.Prototype q mode w r ps ∷ xs) x f h e = found_named xs x f h.1 e
  found_named (I.Function g ∷ xs) x f h e = go (bytes_eq (table g.word.name) x) e (found_named xs x f h.1)
    where
      go : (b : Bool) → cond b (Some (function_of table g)) (function_named (map (item_of table) xs) x) ≡ Some f → (function_named (map (item_of table) xs) x ≡ Some f → all_named (λ (q : S.Parameter). q.called) f.parameters ≡ true)
          → all_named (λ (q : S.Parameter). q.called) f.parameters ≡ true
      go true e rest = let i : function_of table g ≡ f = cc in subst (λ (f : S.Function). all_named (λ (q : S.Parameter). q.called) f.parameters ≡ true) i (sym (named_again g.parameters.items) ∙ h.0.1)
      go false e rest = rest e

  all_named_by : (dialect : Dialect) → ∥ IsRead dialect (located p) ∥₁ → (x : Text) (f : S.Function) → function_named (program_of p) x ≡ Some f → all_named (λ (q : S.Parameter). q.called) f.parameters ≡ true
  all_named_by dialect read x f e = ∥∥₁_elim read (Bool-set _ _) (λ (r : IsRead dialect (located p)).
      found_named p.items.items x f (items_fine r.parses.0 (located p).items r.parses.2.1 r.parses.2.3 (row_fit r.parses.1.1)) e)

  called_there : (ps : List S.Parameter) → all_named (λ (q : S.Parameter). q.called) ps ≡ true → (k : ℕ) (q : S.Parameter) → slice_get ps k ≡ Some q → q.called ≡ None → ⊥
  called_there [] h k q e none = none_not_some q e
  called_there (x ∷ ps) h zero q e none =
      let k = and_both (is_some x.called) (all_named (λ (q : S.Parameter). q.called) ps) h in
      let g : x ≡ q = cc in
      let n : x.called ≡ None = ap (λ (q : S.Parameter). q.called) g ∙ none in
      true_not_false (sym k.0 ∙ ap is_some n)
  called_there (x ∷ ps) h (suc k) q e none = called_there ps (and_both (is_some x.called) (all_named (λ (q : S.Parameter). q.called) ps) h).1 k q e none

  -- texts that tell names apart, and are those of the table for its names, tell the names of a program that is checked
  spelled_by : (dialect : Dialect) → ∥ IsRead dialect (located p) ∥₁ → ∥ IsWithin p ∥₁ → (names : Names) → Spells p.names names → IsSpelling names p
  spelled_by dialect read within names s =
      let all = all_have dialect read in
      record {
        spells = s;
        same = same_by names s within;
        unnamed = λ x f e k q i none n. absurd (called_there f.parameters (all_named_by dialect read x f e) k q i none);
        told = λ k f e. record { apart = s.apart; unnamed = λ j q i none x. absurd (has_name f.parameters.items (all k f e) j q i none) };
      }

  -- there are such texts
  pub spelled : (dialect : Dialect) → ∥ IsRead dialect (located p) ∥₁ → ∥ IsWithin p ∥₁ → AreDistinct p.names → (names : Names) × IsSpelling names p
  spelled dialect read within distinct = (spelling p.names, spelled_by dialect read within (spelling p.names) (spells p.names distinct))

  -- and two of them that differ at each other name
  pub spelled_twice : (dialect : Dialect) → ∥ IsRead dialect (located p) ∥₁ → ∥ IsWithin p ∥₁ → AreDistinct p.names → (names : Names) × (other : Names) × AreSpellings names other p
  spelled_twice dialect read within distinct =
      let names = spelling p.names in
      let other = others names p.names in
      let s : Spells p.names names = spells p.names distinct in (
        names,
        other,
        record {
          first = spelled_by dialect read within names s;
          second = spelled_by dialect read within other (others_spell names p.names s);
          others = are_others names p.names s;
        },
      )
