-- A step that leads to a node by two ways leads there once.
use Rattle.std.proofs.Common.{◌≡◌, ℕ, zero, suc, ◌+◌, ◌<◌, ◌≤◌, ◌==◌, ◌||◌, ◌&&◌, not, Bool, true, false, List, [], ◌∷◌, ◌++◌, length, slice_get, Option, Some, None, refl, sym, ◌∙◌, ap, arith}
use Rattle.cpc_base.proofs.Truth.{eq_means, eq_reflexive, or_by_first, or_by_second}
use Rattle.cpc_tree.specs.Lists.{holds_number}
use Rattle.cpc_tree.proofs.Holding.{holds_both}
use Rattle.cpc_forms.specs.Flow.{Start, At, Flow, as_list, Inside, goes_to}
use Rattle.cpc_forms.specs.Marks.{one_if, counted}
use Rattle.cpc_split.specs.declared.steps.Step.{Step}
use Rattle.cpc_split.specs.Steps.{step_leads, leads_of, flow_by, same_number}

-- whether a number that may be missing is in a list
abbrev has : List ℕ → Option ℕ → Bool
has xs None = false
has xs (Some m) = holds_number xs m

with_none : (xs : List ℕ) (k : ℕ) → holds_number (xs ++ []) k ≡ holds_number xs k
with_none [] k = refl
with_none (x ∷ xs) k = ap (λ b. (x == k) || b) (with_none xs k)

one_case : (h b : Bool) (g : Bool) → (b ≡ true → g ≡ h) → one_if h + one_if (not g && (b || false)) ≡ one_if (h || (b || false))
one_case true true g e = let x : g ≡ true = e refl in ap (λ z. one_if true + one_if (not z && true)) x
one_case false true g e = let x : g ≡ false = e refl in ap (λ z. one_if false + one_if (not z && true)) x
one_case true false true e = refl
one_case true false false e = refl
one_case false false true e = refl
one_case false false false e = refl

-- one more number, where it is new
once_more : (xs : List ℕ) (c : Option ℕ) (k : ℕ) → one_if (holds_number xs k) + one_if (not (has xs c) && holds_number (as_list c) k) ≡ one_if (holds_number (xs ++ as_list c) k)
once_more xs None k = (let e : one_if (holds_number xs k) + 0 ≡ one_if (holds_number xs k) = omega arith in e) ∙ ap one_if (sym (with_none xs k))
once_more xs (Some m) k =
    one_case (holds_number xs k) (m == k) (holds_number xs m) (λ e. ap (holds_number xs) (eq_means m k e))
    ∙ ap one_if (sym (holds_both xs (m ∷ []) k))

same_has : (y n : Option ℕ) → same_number y n ≡ has (as_list y) n
same_has None None = refl
same_has None (Some n) = refl
same_has (Some y) None = refl
same_has (Some y) (Some n) = go (y == n)
  where
    go : (b : Bool) → b ≡ (b || false)
    go true = refl
    go false = refl

not_or : (a b : Bool) → (not a && not b) ≡ not (a || b)
not_or true b = refl
not_or false b = refl

has_both : (xs ys : List ℕ) (c : Option ℕ) → has (xs ++ ys) c ≡ (has xs c || has ys c)
has_both xs ys None = refl
has_both xs ys (Some m) = holds_both xs ys m

append_later : (xs ys zs : List ℕ) → (xs ++ ys) ++ zs ≡ xs ++ (ys ++ zs)
append_later [] ys zs = refl
append_later (x ∷ xs) ys zs = ap (λ l. x ∷ l) (append_later xs ys zs)

new_call : (y n c : Option ℕ) → (not (same_number y c) && not (same_number n c)) ≡ not (has (as_list y ++ as_list n) c)
new_call y n c =
    ap (λ b. not b && not (same_number n c)) (same_has y c) ∙ ap (λ b. not (has (as_list y) c) && not b) (same_has n c)
    ∙ not_or (has (as_list y) c) (has (as_list n) c) ∙ ap not (sym (has_both (as_list y) (as_list n) c))

-- each of three numbers once
pub once : (y n c : Option ℕ) (k : ℕ)
    → one_if (holds_number (as_list y) k) + one_if (not (same_number y n) && holds_number (as_list n) k) + one_if ((not (same_number y c) && not (same_number n c)) && holds_number (as_list c) k)
    ≡ one_if (holds_number (as_list y ++ (as_list n ++ as_list c)) k)
once y n c k =
    ap (λ b. one_if (holds_number (as_list y) k) + one_if (not b && holds_number (as_list n) k) + one_if ((not (same_number y c) && not (same_number n c)) && holds_number (as_list c) k)) (same_has y n)
    ∙ ap (λ j. j + one_if ((not (same_number y c) && not (same_number n c)) && holds_number (as_list c) k)) (once_more (as_list y) n k)
    ∙ ap (λ b. one_if (holds_number (as_list y ++ as_list n) k) + one_if (b && holds_number (as_list c) k)) (new_call y n c)
    ∙ once_more (as_list y ++ as_list n) c k
    ∙ ap (λ l. one_if (holds_number l k)) (append_later (as_list y) (as_list n) (as_list c))

one_at_most : (b : Bool) → one_if b ≤ 1
one_at_most true = omega arith
one_at_most false = omega arith

-- no more places lead to a node than were looked at
pub counted_few : (flow : Flow) (n k : ℕ) → counted flow n k ≤ k + 1
counted_few flow n zero = let h = one_at_most (goes_to flow Start n) in omega arith
counted_few flow n (suc k) = let h = one_at_most (goes_to flow (At k) n) in let i = counted_few flow n k in omega arith

that_is : (o : Option ℕ) (m : ℕ) → o ≡ Some m → holds_number (as_list o) m ≡ true
that_is o m e = ap (λ x. holds_number (as_list x) m) e ∙ ap (λ b. b || false) (eq_reflexive m)

-- control goes from a step to nodes alone
pub record StepInside (steps : List Step) (s : Step) : Type 0 where
  pub yes : (m : ℕ) → s.yes ≡ Some m → m < length steps
  pub no : (m : ℕ) → s.no ≡ Some m → m < length steps
  pub call : (m : ℕ) → s.call ≡ Some m → m < length steps

pub step_inside : (entry : ℕ) (steps : List Step) → Inside (flow_by entry steps) → (n : ℕ) (s : Step) → slice_get steps n ≡ Some s → StepInside steps s
step_inside entry steps inside n s e =
    let go : (m : ℕ) → holds_number (step_leads s) m ≡ true → m < length steps = λ m h. inside.target (At n) m (ap (λ o. holds_number (leads_of o) m) e ∙ h) in
    let rest : (m : ℕ) → holds_number (as_list s.no ++ as_list s.call) m ≡ true → m < length steps = λ m h. go m (holds_both (as_list s.yes) (as_list s.no ++ as_list s.call) m ∙ or_by_second _ _ h) in
    record {
      yes = λ m h. go m (holds_both (as_list s.yes) (as_list s.no ++ as_list s.call) m ∙ or_by_first _ _ (that_is s.yes m h));
      no = λ m h. rest m (holds_both (as_list s.no) (as_list s.call) m ∙ or_by_first _ _ (that_is s.no m h));
      call = λ m h. rest m (holds_both (as_list s.no) (as_list s.call) m ∙ or_by_second _ _ (that_is s.call m h));
    }

pub entry_inside : (entry : ℕ) (steps : List Step) → Inside (flow_by entry steps) → (m : ℕ) → Some entry ≡ Some m → m < length steps
entry_inside entry steps inside m e = inside.target Start m (that_is (Some entry) m e)
