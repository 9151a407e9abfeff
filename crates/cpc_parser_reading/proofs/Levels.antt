-- Exact readers of operators that group from left to right.
use Rattle.std.proofs.Common.{◌≡◌, ℕ, zero, suc, ◌+◌, ◌≤◌, ◌<◌, false, List, Option, Some, None, max, refl, arith, nat_lt}
use Rattle.cpc_parser_reading.specs.Reading.{Reader, below, headed, mapped}
use Rattle.cpc_parser_reading.specs.Phrase.{Mapped, Headed}
use Rattle.cpc_parser_reading.specs.Chain.{Chained, first, further, Joint}
use Rattle.cpc_parser_reading.specs.Operators.{level, Level, single, applied}
use Rattle.cpc_parser_reading.specs.Exact.{Exact}
use Rattle.cpc_parser_reading.proofs.Chains.{exact_chain}
use Rattle.cpc_parser_reading.proofs.Choice.{headed_branch}
use Rattle.cpc_parser_reading.proofs.Values.{exact_as, exact_mapped}

-- no condition
abbrev pub Always : {A O : Type 0} → A → O → Type 0
Always v o = Unit {0}

-- there is room inside for a node above a value of nesting h and a part
pub fits_below : (d h least : ℕ) → 0 < h → least ≤ h → nat_lt (below d) h ≡ false → (h + 1 ≤ d) × (least + 1 ≤ d)
fits_below zero h least pos le e = absurd (grind arith)
fits_below (suc d) h least pos le e = let k : h ≤ d = grind arith in (omega arith, omega arith)

-- where there is such room the test says so
pub free_below : (d h : ℕ) → h + 1 ≤ d → nat_lt (below d) h ≡ false
free_below zero h e = absurd (omega arith)
free_below (suc d) h e = grind arith

module _ {T K O A B : Type 0} (kind : T → K) (op : K → Option O) (node : O → T → A → B → A) (R : List T → A → ℕ → Type 0) (S : List T → B → ℕ → Type 0) where
  abbrev Operand : O → List T → T × B → ℕ → Type 0
  Operand o = Headed kind (λ k. op k ≡ Some o) (λ t. Mapped (λ w. (t, w)) S)

  abbrev Operated : List T → A → ℕ → Type 0
  Operated = Chained kind (λ v k. op k) Always (λ o v w. node o w.0 v w.1) (λ o h j. max h j + 1) R Operand

  to_level : (f : List T) (v : A) (h : ℕ) → Operated f v h → Level kind op node R S f v h
  to_level f v h (first g u i r) = single g u i r
  to_level f v h (further g g' t o u w i j r e ok (t', g'', e', p, (w', k, q))) = rw (e', k) (applied g g'' t' o u w' i j (to_level g u i r) p q)

  of_level : (f : List T) (v : A) (h : ℕ) → Level kind op node R S f v h → Operated f v h
  of_level f v h (single g u i r) = first g u i r
  of_level f v h (applied g g' t o u w i j r e q) = further g g' t o u (t, w) i j (of_level g u i r) e tt (t, g', refl, e, (w, refl, q))

level_joint : {T K O A B : Type 0} (op : K → Option O) (node : O → T → A → B → A) (n low least : ℕ) (kind : T → K) (Q : K → Type 0) → 0 < low → least ≤ low → ((k : K) (o : O) → op k ≡ Some o → Q k)
    → Joint kind n low (λ (v : A) k. op k) (λ d o h. nat_lt (below d) h) (λ o v (w : T × B). node o w.0 v w.1) (λ o h j. max h j + 1) Always (λ o k. op k ≡ Some o) (λ v. Q) (λ o w. Q) (λ o. 1) (λ o. 1) (λ o. least)
level_joint op node n low least kind Q pos le clear = record {
  begins = λ v k o e. e;
  clear = λ v k o e ok. clear k o e;
  suits = λ v k o e q. tt;
  to = λ o v w k q. q;
  of = λ o v w k q. q;
  grows = λ o h j. omega arith;
  fits = λ d o h lo hi l e. fits_below d h least (omega arith) (omega arith) e;
  free = λ d o h a b. free_below d h a;
}

-- Operands of one kind stand between the operators; they may stop before each of them.
pub exact_level : {T K O A B : Type 0} {kind : T → K} {n m low least : ℕ} {F : ℕ → Reader T A} {R : List T → A → ℕ → Type 0} {G : ℕ → Reader T B} {S : List T → B → ℕ → Type 0} {Q : K → Type 0}
    (op : K → Option O) (node : O → T → A → B → A) → Exact kind n low F R (λ v. Q) → Exact kind m least G S (λ w. Q) → n ≤ m + 1 → 0 < low → least ≤ low
    → ((k : K) (o : O) → op k ≡ Some o → Q k)
    → Exact kind n low (λ d. level (λ t. op (kind t)) node (below d) (F d) (G (below d))) (Level kind op node R S) (λ v k. Q k × (op k ≡ None))
exact_level {kind = kind} {n = n} {low = low} {least = least} {R = R} {G = G} {S = S} {Q = Q} op node x y nm pos le clear =
    exact_as (exact_chain (level_joint op node n low least kind Q pos le clear)
    (λ o. headed_branch {F = λ t d. mapped (λ w. (t, w)) (G d)} {S = λ t. Mapped (λ w. (t, w)) S} {Q = λ w. Q} (λ t e. exact_mapped (λ w. (t, w)) (λ w. Q) y (λ w k q. q) (λ w k q. q)))
    (λ o. nm) (λ d o. headed (λ t. mapped (λ w. (t, w)) (G (below d)))) (λ d o t rest fit l b. refl) x)
    (λ d ts a b. refl) (to_level kind op node R S) (of_level kind op node R S)
