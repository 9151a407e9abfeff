-- How often a block is owned by the items of an agenda, and where one of its round is taken.
use Rattle.std.proofs.Common.{◌≡◌, ℕ, List, [], ◌∷◌, ◌++◌, refl, arith, ◌+◌, ap}
use Rattle.cpc_meaning.specs.Agenda.{Due, OnCondition, OnDescriptor, Timer, OnSection, Agenda}
use Rattle.cpc_convert_flat_laws.specs.Blocks.{count}
use Rattle.cpc_convert_flat_laws.proofs.Blocks.{count_append}
use Rattle.cpc_lifted_laws.specs.Related.Sums.{sum, total, joined, all_joined}
use Rattle.cpc_lifted_laws.specs.Related.Cut.{Tagged, owned_in}

-- ---- how often a block is owned

-- how often it stands in lists that are put one behind the other
count_joined : {X : Type 0} (f : X → List ℕ) (b : ℕ) (xs : List X) → count b (joined f xs) ≡ sum (λ (x : X). count b (f x)) xs
count_joined f b [] = refl
count_joined f b (x ∷ xs) = let h = count_joined f b xs in let g = count_append b (f x) (joined f xs) in omega (arith, h, g)

-- in the lists of all items of an agenda it stands as often as in those of each together
pub count_all : {T : Type 0} (f : T → List ℕ) (b : ℕ) (a : Agenda T) → count b (all_joined f a) ≡ total (λ (t : T). count b (f t)) a
count_all {T = T} f b a =
    let r = joined (λ (d : Due T). f d.item) a.ready in
    let u = joined (λ (d : Due T). f d.item) a.round in
    let w = joined (λ (o : OnCondition T). f o.item) a.waiters in
    let d = joined (λ (o : OnDescriptor T). f o.item) a.descriptors in
    let t = joined (λ (t : Timer T). f t.item) a.timers in
    let s = joined (λ (o : OnSection T). f o.item) a.sections in
    let e1 = count_append b r (u ++ (w ++ (d ++ (t ++ s)))) in
    let e2 = count_append b u (w ++ (d ++ (t ++ s))) in
    let e3 = count_append b w (d ++ (t ++ s)) in
    let e4 = count_append b d (t ++ s) in
    let e5 = count_append b t s in
    let f1 = count_joined (λ (d : Due T). f d.item) b a.ready in
    let f2 = count_joined (λ (d : Due T). f d.item) b a.round in
    let f3 = count_joined (λ (o : OnCondition T). f o.item) b a.waiters in
    let f4 = count_joined (λ (o : OnDescriptor T). f o.item) b a.descriptors in
    let f5 = count_joined (λ (t : Timer T). f t.item) b a.timers in
    let f6 = count_joined (λ (o : OnSection T). f o.item) b a.sections in
    omega (arith, e1, e2, e3, e4, e5, f1, f2, f3, f4, f5, f6)

-- a block is owned as often as the items own it together
pub count_owned : (b : ℕ) (a : Agenda Tagged) → count b (owned_in a) ≡ total (λ (t : Tagged). count b t.owned) a
count_owned b a = count_all (λ (t : Tagged). t.owned) b a

-- ---- the agenda without the first of its round

abbrev pub with_rest : {T : Type 0} → Agenda T → List (Due T) → Agenda T
with_rest a ds = record a { round = ds }

pub total_rest : {T : Type 0} (w : T → ℕ) (a : Agenda T) (d : Due T) (ds : List (Due T)) → a.round ≡ d ∷ ds → total w a ≡ w d.item + total w (with_rest a ds)
total_rest w a d ds e = let h : sum (λ (d : Due _). w d.item) a.round ≡ w d.item + sum (λ (d : Due _). w d.item) ds = ap (sum (λ (d : Due _). w d.item)) e in omega (arith, h)

-- what is owned apart from the first item of the round
pub owned_rest : (tags : Agenda Tagged) (d : Due Tagged) (ds : List (Due Tagged)) → tags.round ≡ d ∷ ds → (n : ℕ) → count n (owned_in tags) ≡ count n (d.item.owned ++ owned_in (with_rest tags ds))
owned_rest tags d ds e n =
    let f = count_owned n tags in
    let g = count_owned n (with_rest tags ds) in
    let h = total_rest (λ (t : Tagged). count n t.owned) tags d ds e in
    let i = count_append n d.item.owned (owned_in (with_rest tags ds)) in
    omega (arith, f, g, h, i)
