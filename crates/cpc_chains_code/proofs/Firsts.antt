-- The first function of a name, and whether it is `main`.
use Rattle.std.proofs.Common.{◌≡◌, ℕ, zero, suc, ◌+◌, ◌<◌, ◌≤◌, Bool, true, false, if◌then◌else◌, List, [], ◌∷◌, map, length, get_or, drop, bytes_eq, Option, Some, None, All, add-one, refl, sym, ap, ◌∙◌, arith}
use Rattle.std.specs.Prelude.{is_some}
use Rattle.std.proofs.lemmas.List.{drop_all}
use Rattle.std.proofs.Math.Seq.{drop-cons}
use Rattle.cpc_base.specs.Bytes.{Text}
use Rattle.cpc_tree.specs.Erase.{Names, Table, in_table}
use Rattle.cpc_tree.specs.Syntax.{Function, Program}
use Rattle.cpc_tree.specs.Typing.{function_named}
use Rattle.cpc_meaning.specs.Start.{main_name}
use Rattle.cpc_meaning.specs.Threads.{is_cps}
use Rattle.cpc_meaning.proofs.Functions.{same_text}
use Rattle.cpc_chains_event.specs.Converted.{main_if}
use Rattle.cpc_forms_code.specs.declared.lifted.LiftedFunction.{LiftedFunction}
use Rattle.cpc_convert_names.specs.Called.{name_in, IsNamed}
use Rattle.cpc_convert_names.specs.Book.{find}
use Rattle.cpc_convert_names.specs.declared.called.Called.{Called}
use Rattle.cpc_convert_names.specs.declared.book.Book.{Book}
use Rattle.cpc_convert_needs_laws.specs.Known.{IsAlike}
use Rattle.cpc_chains_code.specs.Given.{AreGiven}
use Rattle.cpc_chains_code.proofs.Standing.{one_of}

-- ---- the first for which a test holds

abbrev first_where : {X : Type 0} → (X → Bool) → List X → Option X
first_where test [] = None
first_where test (x ∷ xs) = if test x then Some x else first_where test xs

-- it stands there, and the test holds
first_is : {X : Type 0} (test : X → Bool) (xs : List X) (y : X) → first_where test xs ≡ Some y → (i : ℕ) × (i < length xs) × (y ≡ get_or xs i y) × (test y ≡ true)
first_is test [] y e = absurd (cc)
first_is {X} test (x ∷ xs) y e = go (test x) refl e (first_is test xs y)
  where
    go : (b : Bool) → test x ≡ b → (if b then Some x else first_where test xs) ≡ Some y → (first_where test xs ≡ Some y → (i : ℕ) × (i < length xs) × (y ≡ get_or xs i y) × (test y ≡ true))
        → (i : ℕ) × (i < length (x ∷ xs)) × (y ≡ get_or (x ∷ xs) i y) × (test y ≡ true)
    go true h e rest = let same : x ≡ y = cc in (0, omega arith, sym same, ap test (sym same) ∙ h)
    go false h e rest = let k = rest e in (suc k.0, omega (arith, k.1), k.2, k.3)

-- ---- the first function of a name

module _ (names : Names) (x : Text) where
  -- a function decides, or else those behind it
  find_here : (cs : List Called) (i : ℕ) (c : Called) → i < length cs → c ≡ get_or cs i c → find names (drop i cs) x ≡ (if bytes_eq (name_in names c.lifted.now) x then Some c else find names (drop (i + 1) cs) x)
  find_here cs i c lt is = rw add-one (ap (λ (l : List Called). find names l x) (drop-cons cs i c lt ∙ ap (λ (y : Called). y ∷ drop (suc i) cs) (sym is)))

  pub found_here : (cs : List Called) (i : ℕ) (c : Called) → i < length cs → c ≡ get_or cs i c → bytes_eq (name_in names c.lifted.now) x ≡ true → find names (drop i cs) x ≡ Some c
  found_here cs i c lt is e = find_here cs i c lt is ∙ ap (λ b. if b then Some c else find names (drop (i + 1) cs) x) e

  pub found_later : (cs : List Called) (i : ℕ) (c : Called) → i < length cs → c ≡ get_or cs i c → bytes_eq (name_in names c.lifted.now) x ≡ false → find names (drop i cs) x ≡ find names (drop (i + 1) cs) x
  found_later cs i c lt is e = find_here cs i c lt is ∙ ap (λ b. if b then Some c else find names (drop (i + 1) cs) x) e

  pub found_none : (cs : List Called) (i : ℕ) → length cs ≤ i → find names (drop i cs) x ≡ None
  found_none cs i past = ap (λ (l : List Called). find names l x) (drop_all i cs past)

  -- it is the first for which a test holds
  is_first : (cs : List Called) → find names cs x ≡ first_where (λ (c : Called). bytes_eq (name_in names c.lifted.now) x) cs
  is_first [] = refl
  is_first (c ∷ cs) = go (bytes_eq (name_in names c.lifted.now) x) (is_first cs)
    where
      go : (b : Bool) → find names cs x ≡ first_where (λ (d : Called). bytes_eq (name_in names d.lifted.now) x) cs
          → (if b then Some c else find names cs x) ≡ (if b then Some c else first_where (λ (d : Called). bytes_eq (name_in names d.lifted.now) x) cs)
      go true rest = refl
      go false rest = rest

  -- what is found stands there, and has the name
  pub found_is : (cs : List Called) (c : Called) → find names cs x ≡ Some c → (i : ℕ) × (i < length cs) × (c ≡ get_or cs i c) × (name_in names c.lifted.now ≡ x)
  found_is cs c e =
      let k = first_is (λ (d : Called). bytes_eq (name_in names d.lifted.now) x) cs c (sym (is_first cs) ∙ e) in
      (k.0, k.1, k.2, same_text (name_in names c.lifted.now) x k.3)

-- ---- the functions of a book

-- the table of the source and the texts that tell its names call a function alike
called_alike : (source : Table) (from to : Names) (l : LiftedFunction) → IsNamed source to l → IsAlike from to l → name_in (in_table source) l ≡ name_in from l
called_alike source from to l named alike = named.function ∙ sym (ap (λ (f : Function). f.called) alike.function)

-- what holds of the lifted functions holds of each function of the book
pub unmapped : (P : LiftedFunction → Type 0) (cs : List Called) → All P (map (λ (c : Called). c.lifted.now) cs) → All (λ (c : Called). P c.lifted.now) cs
unmapped P [] all i d lt = absurd (omega (arith, lt))
unmapped P (c ∷ cs) all zero d lt = all 0 c.lifted.now (omega arith)
unmapped P (c ∷ cs) all (suc i) d lt = unmapped P cs (λ j e h. all (suc j) e (omega (arith, h))) i d (omega (arith, lt))

-- the first function of a name is the same by the table and by these texts
find_alike : (one other : Names) (x : Text) (cs : List Called) → All (λ (c : Called). name_in one c.lifted.now ≡ name_in other c.lifted.now) cs → find one cs x ≡ find other cs x
find_alike one other x [] all = refl
find_alike one other x (c ∷ cs) all =
    let same : bytes_eq (name_in one c.lifted.now) x ≡ bytes_eq (name_in other c.lifted.now) x = ap (λ y. bytes_eq y x) (all 0 c (omega arith)) in
    let rest = find_alike one other x cs (λ i d lt. all (suc i) d (omega (arith, lt))) in
    λ j. if same j then Some c else rest j

module _ (source : Table) (from to : Names) (p : Program) (b : Book) (g : AreGiven source from to p b) where
  found_by_texts : find (in_table source) b.functions.items main_name ≡ find from b.functions.items main_name
  found_by_texts =
      find_alike (in_table source) from main_name b.functions.items
      (λ i d lt. called_alike source from to (get_or b.functions.items i d).lifted.now (unmapped (IsNamed source to) b.functions.items g.named i d lt) (unmapped (IsAlike from to) b.functions.items g.alike i d lt))

  -- whether there is a cps function `main` is whether one is found
  pub main_told : (o : Option Called) → find (in_table source) b.functions.items main_name ≡ o → main_if (is_cps (function_named p main_name)) ≡ main_if (is_some o)
  main_told o e = ap main_if (g.entries main_name ∙ ap (λ (x : Option Called). is_some x) (sym found_by_texts ∙ e))

  -- and then the function that is found is called so by the texts of the event program
  pub main_called : (i : ℕ) (c : Called) → i < length b.functions.items → c ≡ get_or b.functions.items i c → name_in (in_table source) c.lifted.now ≡ main_name → name_in to c.lifted.now ≡ main_name
  main_called i c lt is e =
      let named = one_of (λ (x : Called). IsNamed source to x.lifted.now) b.functions.items i c lt is (unmapped (IsNamed source to) b.functions.items g.named) in
      sym named.function ∙ e
