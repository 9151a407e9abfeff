-- The first function of a name, among those that are left to look at.
use Rattle.std.proofs.Common.{◌≡◌, ℕ, suc, ◌+◌, ◌<◌, ◌≤◌, ◌++◌, zero, All, subst, true, false, if◌then◌else◌, List, [], ◌∷◌, Some, None, get_or, drop, length, bytes_eq, add-one, arith, sym, ap, ◌∙◌}
use Rattle.std.proofs.lemmas.List.Elements.{All-append}
use Rattle.std.proofs.Math.ListN.{drop_of_length-le}
use Rattle.std.proofs.Math.Seq.{drop-cons}
use Rattle.cpc_base.specs.Bytes.{Text}
use Rattle.cpc_tree.specs.Erase.{Names}
use Rattle.cpc_convert_names.specs.Called.{name_in}
use Rattle.cpc_convert_names.specs.Book.{find}
use Rattle.cpc_convert_names.specs.declared.called.Called.{Called}

-- a function decides, or else those behind it
pub find_here : (names : Names) (cs : List Called) (i : ℕ) (c : Called) (x : Text) → i < length cs → c ≡ get_or cs i c
    → find names (drop i cs) x ≡ (if bytes_eq (name_in names c.lifted.now) x then Some c else find names (drop (i + 1) cs) x)
find_here names cs i c x lt is = rw add-one (ap (λ (l : List Called). find names l x) (drop-cons cs i c lt ∙ ap (λ (y : Called). y ∷ drop (suc i) cs) (sym is)))

pub found_here : (names : Names) (cs : List Called) (i : ℕ) (c : Called) (x : Text) → i < length cs → c ≡ get_or cs i c → bytes_eq (name_in names c.lifted.now) x ≡ true → find names (drop i cs) x ≡ Some c
found_here names cs i c x lt is e = find_here names cs i c x lt is ∙ ap (λ b. if b then Some c else find names (drop (i + 1) cs) x) e

pub found_later : (names : Names) (cs : List Called) (i : ℕ) (c : Called) (x : Text) → i < length cs → c ≡ get_or cs i c → bytes_eq (name_in names c.lifted.now) x ≡ false → find names (drop i cs) x ≡ find names (drop (i + 1) cs) x
found_later names cs i c x lt is e = find_here names cs i c x lt is ∙ ap (λ b. if b then Some c else find names (drop (i + 1) cs) x) e

pub found_none : (names : Names) (cs : List Called) (i : ℕ) (x : Text) → length cs ≤ i → find names (drop i cs) x ≡ None
found_none names cs i x le = ap (λ (l : List Called). find names l x) (drop_of_length-le cs le)

-- ---- all of them

one_all : (P : Called → Type 0) (x : Called) → P x → All P (x ∷ [])
one_all P x p zero d lt = p
one_all P x p (suc k) d lt = absurd (omega (arith, lt))

pub all_more : (P : Called → Type 0) (xs new : List Called) (x : Called) → new ≡ xs ++ x ∷ [] → All P xs → P x → All P new
all_more P xs new x is all one = subst (All P) (sym is) (All-append P xs (x ∷ []) all (one_all P x one))
