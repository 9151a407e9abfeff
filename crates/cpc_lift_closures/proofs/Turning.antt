-- A turn of the search in code is one of the definition.
use Rattle.std.proofs.Common.{◌≡◌, ◌==◌, ◌||◌, ◌+◌, ◌<◌, ◌≤◌, ℕ, zero, suc, Bool, true, false, List, [], ◌∷◌, ◌++◌, All, length, get_or, set, drop, Result, Ok, Err, refl, sym, ◌∙◌, ap, subst, arith}
use Rattle.std.specs.Result.{OnOk}
use Rattle.std.proofs.lemmas.List.{get_or-set_same, get_or-set_other, length-set, drop-append-le}
use Rattle.std.proofs.lemmas.List.Elements.{All-append, All-get_or}
use Rattle.std.proofs.Math.Seq.{drop-cons}
use Rattle.std.proofs.Math.ListN.{drop_of_length-le}
use Rattle.cpc_base.proofs.Truth.{eq_means, eq_not_means}
use Rattle.cpc_tree.specs.Lists.{holds_number}
use Rattle.cpc_lift_laws.specs.Search as S
use Rattle.cpc_lift_laws.proofs.Search.{at_first}
use Rattle.cpc_lift_closures.specs.Rows.{IsNumber, RowsAre, MarksAre}
use Rattle.cpc_lift_closures.specs.Turns.{queued, GoesOn, AreNumbers}

-- what two facts of a value give together
pub on_ok_both : {T E P Q R : Type 0} (r : Result T E) → (P → Q → R) → OnOk r P → OnOk r Q → OnOk r R
on_ok_both (Ok x) f p q = f p q
on_ok_both (Err e) f p q = tt

-- ---- marks

seen_there : (b : Bool) (k owner : ℕ) (seen : List ℕ) → ¬ (k ≡ owner) → holds_number seen k ≡ holds_number (S.seen_after b owner seen) k
seen_there true k owner seen h = refl
seen_there false k owner seen h = go (owner == k) refl
  where
    go : (c : Bool) → (owner == k) ≡ c → holds_number seen k ≡ (c || holds_number seen k)
    go true e = absurd (h (sym (eq_means owner k e)))
    go false e = refl

seen_here : (b : Bool) (owner : ℕ) (seen : List ℕ) → holds_number seen owner ≡ b → holds_number (S.seen_after b owner seen) owner ≡ true
seen_here true owner seen e = e
seen_here false owner seen e = at_first owner seen

marks_set : (count owner : ℕ) (seen : List ℕ) (marks : List Bool) → MarksAre count seen marks → owner < count → MarksAre count (S.seen_after (holds_number seen owner) owner seen) (set marks owner true)
marks_set count owner seen marks m lt = record { length = length-set marks owner true ∙ m.length; set = λ k below. go k below (k == owner) refl }
  where
    go : (k : ℕ) → k < count → (b : Bool) → (k == owner) ≡ b → get_or (set marks owner true) k false ≡ holds_number (S.seen_after (holds_number seen owner) owner seen) k
    go k below true e =
        let i = eq_means k owner e in
        subst (λ n. get_or (set marks owner true) n false ≡ holds_number (S.seen_after (holds_number seen owner) owner seen) n) (sym i)
        (get_or-set_same marks owner true false (omega (arith, lt, m.length)) ∙ sym (seen_here (holds_number seen owner) owner seen refl))
    go k below false e =
        get_or-set_other marks owner k true false (eq_not_means k owner e) ∙ m.set k below ∙ seen_there (holds_number seen owner) k owner seen (eq_not_means k owner e)

-- ---- the queue

queue_left : (b : Bool) (ways : List S.Link) (owner at : ℕ) (queue row : List ℕ) → at < length queue → row ≡ S.before ways owner
    → S.work_after b ways owner (drop (at + 1) queue) ≡ drop (at + 1) (queued b queue row)
queue_left true ways owner at queue row lt e = refl
queue_left false ways owner at queue row lt e = ap (λ r. drop (at + 1) queue ++ r) (sym e) ∙ sym (drop-append-le (at + 1) queue row (omega (arith, lt)))

none_left : (ways : List S.Link) (n : ℕ) (seen : List ℕ) → S.search ways n [] seen ≡ seen
none_left ways zero seen = refl
none_left ways (suc n) seen = refl

module _ (ways : List S.Link) (rows : List (List ℕ)) (are : RowsAre ways rows) (count : ℕ) (long : length rows ≡ count) (at n : ℕ) (queue seen : List ℕ) (marks : List Bool) (m : MarksAre count seen marks) where
  -- an owner is looked at
  pub looked_at : (owner : ℕ) → at < length queue → owner ≡ get_or queue at owner → owner < count
      → GoesOn ways count at n queue seen (queued (get_or marks owner false) queue (get_or rows owner [])) (set marks owner true)
  looked_at owner lt e below =
      let b = holds_number seen owner in
      let first : drop at queue ≡ owner ∷ drop (at + 1) queue =
      drop-cons queue at owner lt ∙ ap (λ x. x ∷ drop (suc at) queue) (sym e) ∙ (let i : suc at ≡ at + 1 = omega arith in ap (λ j. owner ∷ drop j queue) i) in
      record {
        next = S.seen_after b owner seen;
        marked = marks_set count owner seen marks m below;
        same =
            ap (λ work. S.search ways (suc n) work seen) first
            ∙ ap (λ work. S.search ways n work (S.seen_after b owner seen)) (queue_left b ways owner at queue (get_or rows owner []) lt (are owner (omega (arith, below, long))))
            ∙ ap (λ c. S.search ways n (drop (at + 1) (queued c queue (get_or rows owner []))) (S.seen_after b owner seen)) (sym (m.set owner below));
      }

  -- nothing is left
  pub passed : length queue ≤ at → GoesOn ways count at n queue seen queue marks
  passed le = record {
    next = seen;
    marked = m;
    same =
        ap (λ work. S.search ways (suc n) work seen) (drop_of_length-le queue le)
        ∙ sym (ap (λ work. S.search ways n work seen) (drop_of_length-le queue (omega (arith, le))) ∙ none_left ways n seen);
  }

-- numbers stay numbers
pub queued_numbers : (b : Bool) (count owner : ℕ) (queue : List ℕ) (rows : List (List ℕ)) → owner < length rows → All (IsNumber count) queue → AreNumbers count rows → All (IsNumber count) (queued b queue (get_or rows owner []))
queued_numbers true count owner queue rows lt h g = h
queued_numbers false count owner queue rows lt h g = All-append (IsNumber count) queue (get_or rows owner []) h (All-get_or (λ row. All (IsNumber count) row) rows owner [] lt g)
