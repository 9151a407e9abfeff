-- Names of a row, and sets that hold their numbers.
use Rattle.std.proofs.Common.{◌≡◌, ℕ, ◌+◌, ◌<◌, Bool, true, false, cond, ◌||◌, eqb, List, [], ◌∷◌, ◌++◌, length, get_or, take, drop, map, refl, sym, ap, ◌∙◌, Option}
use Rattle.std.specs.Prelude.{bytes_eq}
use Rattle.std.proofs.lemmas.List.{take_more, map_push, drop_more}
use Rattle.cpc_base.specs.Bytes.{Text}
use Rattle.cpc_base.specs.declared.stop.Place.{Place}
use Rattle.cpc_tree.specs.declared.program.Word.{Word}
use Rattle.cpc_tree.specs.Located.{Ident, LStmt}
use Rattle.cpc_tree.specs.Erase.{Names}
use Rattle.cpc_tree.specs.Locate.{ident}
use Rattle.cpc_check_rules.specs.declared.rule.Rule.{Rule}
use Rattle.cpc_check_rules.specs.declared.rule.Rule.TheVariants.{LabelTwice}
use Rattle.cpc_check_rules.specs.Rule.{at_if}
use Rattle.cpc_check_rules.specs.FunctionRules.{among, repeated, missing, labels, gotos, label_breaks}
use Rattle.cpc_check_rules.specs.Noted.{noted}
use Rattle.cpc_check_rules.proofs.Firsts.{noted_both}
use Rattle.cpc_check_rules.specs.Apart.{AreApart}
use Rattle.cpc_check_names.specs.Held.{AreHeld}

or_swap : (p q r : Bool) → (p || (q || r)) ≡ (q || (p || r))
or_swap true true r = refl
or_swap true false r = refl
or_swap false q r = refl

among_push : (x : Text) (ys : List Ident) (y : Ident) → among x (ys ++ y ∷ []) ≡ (bytes_eq y.text x || among x ys)
among_push x [] y = refl
among_push x (z ∷ ys) y = ap (λ b. bytes_eq z.text x || b) (among_push x ys y) ∙ or_swap (bytes_eq z.text x) (bytes_eq y.text x) (among x ys)

-- the order of the names before does not matter
repeated_same : (rule : Rule) (b c : List Ident) (xs : List Ident) → ((x : Text) → among x b ≡ among x c) → repeated rule b xs ≡ repeated rule c xs
repeated_same rule b c [] e = refl
repeated_same rule b c (x ∷ xs) e =
    ap (λ t. at_if t x.place rule ++ repeated rule (x ∷ b) xs) (e x.text)
    ∙ ap (λ row. at_if (among x.text c) x.place rule ++ row) (repeated_same rule (x ∷ b) (x ∷ c) xs (λ y. ap (λ t. bytes_eq x.text y || t) (e y)))

abbrev pub so_far : Names → List Word → ℕ → List Ident
so_far names words i = map (ident names) (take i words)

abbrev pub left : Names → List Word → ℕ → List Ident
left names words i = map (ident names) (drop i words)

so_far_more : (names : Names) (words : List Word) (i : ℕ) (d : Word) → i < length words → so_far names words (i + 1) ≡ so_far names words i ++ ident names (get_or words i d) ∷ []
so_far_more names words i d h = ap (map (ident names)) (take_more words i d h) ∙ map_push (ident names) (take i words) (get_or words i d)

left_more : (names : Names) (words : List Word) (i : ℕ) (d : Word) → i < length words → left names words i ≡ ident names (get_or words i d) ∷ left names words (i + 1)
left_more names words i d h = ap (map (ident names)) (drop_more words i d h)

or_cond : (b c : Bool) → cond b true c ≡ (b || c)
or_cond true c = refl
or_cond false c = refl

-- one more name, and its number in the set
pub held_more : (names : Names) → AreApart names → (holds more : ℕ → Bool) (words : List Word) (i : ℕ) (d : Word) → i < length words
    → ((q : ℕ) → more q ≡ cond (eqb (get_or words i d).name.0 q) true (holds q)) → AreHeld names holds (so_far names words i) → AreHeld names more (so_far names words (i + 1))
held_more names apart holds more words i d h step before n =
    let row = so_far names words i in
    let w = get_or words i d in
    step n.0 ∙ (or_cond (eqb w.name.0 n.0) (holds n.0)
    ∙ (ap (λ t. eqb w.name.0 n.0 || t) (before n)
    ∙ (ap (λ t. t || among (names n) row) (sym (apart.told w.name n))
    ∙ (sym (among_push (names n) row (ident names w)) ∙ ap (among (names n)) (sym (so_far_more names words i d h))))))

abbrev Firsts : Type 0
Firsts = Option (Place × Rule)

-- the same name is noted where it is among those before
pub told_more : (names : Names) (rule : Rule) (o : Firsts) (t : Bool) (words : List Word) (i : ℕ) (d : Word) → i < length words
    → t ≡ among (names (get_or words i d).name) (so_far names words i)
    → noted (noted o (at_if t (get_or words i d).place rule)) (repeated rule (so_far names words (i + 1)) (left names words (i + 1))) ≡ noted o (repeated rule (so_far names words i) (left names words i))
told_more names rule o t words i d h k =
    let b = so_far names words i in
    let w = get_or words i d in
    let x = ident names w in
    let rest = left names words (i + 1) in
    ap (λ row. noted (noted o (at_if t w.place rule)) (repeated rule row rest)) (so_far_more names words i d h)
    ∙ (ap (λ row. noted (noted o (at_if t w.place rule)) row) (repeated_same rule (b ++ x ∷ []) (x ∷ b) rest (λ y. among_push y b x))
    ∙ (ap (λ s. noted (noted o (at_if s w.place rule)) (repeated rule (x ∷ b) rest)) k
    ∙ (sym (noted_both o (at_if (among (names w.name) b) w.place rule) (repeated rule (x ∷ b) rest))
    ∙ ap (λ row. noted o (repeated rule b row)) (sym (left_more names words i d h)))))

-- labels that come twice, and then those that are not there
pub labels_told : (o f g : Firsts) (body : LStmt) (ls js : List Ident) → ls ≡ labels body → js ≡ gotos body → f ≡ noted o (repeated LabelTwice [] ls) → g ≡ noted f (missing ls js)
    → g ≡ noted o (label_breaks body)
labels_told o f g body ls js l j t m =
    m ∙ (ap (λ h. noted h (missing ls js)) t
    ∙ (sym (noted_both o (repeated LabelTwice [] ls) (missing ls js))
    ∙ (ap (λ xs. noted o (repeated LabelTwice [] xs ++ missing xs js)) l
    ∙ ap (λ ys. noted o (repeated LabelTwice [] (labels body) ++ missing (labels body) ys)) j)))
