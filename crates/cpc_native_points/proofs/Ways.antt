-- Ways to the statements of a table stay where more statements come.
use Rattle.std.proofs.Common.{◌≡◌, ℕ, suc, ◌+◌, ◌-◌, ◌<◌, ◌≤◌, List, [], ◌∷◌, ◌++◌, length, length-append, slice_get, Option, Some, None, refl, sym, subst, ap, ◌∙◌, append_assoc, arith}
use Rattle.std.proofs.Props.{props}
use Rattle.std.proofs.Math.Logic.{∥∥₁_elim, ∥∥₁_map}
use Rattle.cpc_base.proofs.Lists.{item_within, item_in_front, get_last}
use Rattle.cpc_check_rules.specs.Apart.{AreApart}
use Rattle.cpc_native_points.specs.declared.parts.Part.{Part}
use Rattle.cpc_native_points.specs.declared.table.Node.{Node}
use Rattle.cpc_native_points.specs.Depth.{numbers}
use Rattle.cpc_native_points.specs.Tabled.{IsBefore, IsWay, AtBody, AtNode, HasWay}

pub way_more : (ns ms : List Node) (at : Option ℕ) (way : List Part) → IsWay ns at way → IsWay (ns ++ ms) at way
way_more ns ms at way AtBody = AtBody
way_more ns ms at way (AtNode k n front g b w) = AtNode k n front (item_in_front ns ms k n g) b (way_more ns ms n.above front w)

way_before : (ns : List Node) (at : Option ℕ) (way : List Part) → IsWay ns at way → IsBefore at (length ns)
way_before ns at way AtBody = tt
way_before ns at way (AtNode k n front g b w) = item_within ns k n g

-- to one more statement
pub way_added : (ns : List Node) (n : Node) (k : ℕ) (way : List Part) → k ≡ length ns → IsWay ns n.above way → IsWay (ns ++ n ∷ []) (Some k) (way ++ n.part ∷ [])
way_added ns n k way e w =
    let P : ℕ → Type 0 = IsBefore n.above in
    AtNode k n way (get_last ns k n e) (subst P (sym e) (way_before ns n.above way w)) (way_more ns (n ∷ []) n.above way w)

-- ---- back up

-- the way to the body
pub way_there : (ns : List Node) (way : List Part) → IsWay ns None way → way ≡ []
way_there ns way AtBody = refl

-- the way to another statement
pub record Up (ns : List Node) (k : ℕ) (way : List Part) : Type 0 where
  pub node : Node
  pub front : List Part
  pub found : slice_get ns k ≡ Some node
  pub before : IsBefore node.above k
  pub is : IsWay ns node.above front
  pub whole : way ≡ front ++ node.part ∷ []

pub way_up : (ns : List Node) (k : ℕ) (way : List Part) → IsWay ns (Some k) way → Up ns k way
way_up ns _ _ (AtNode k n front g b w) = record { node = n; front = front; found = g; before = b; is = w; whole = refl }

pub within_up : (ns : List Node) (k : ℕ) (way : List Part) → Up ns k way → k < length ns
within_up ns k way u = item_within ns k u.node u.found

-- ---- how far a statement is from the first

abbrev pub above_all : Option ℕ → ℕ
above_all None = 0
above_all (Some k) = suc k

pub nearer : (at : Option ℕ) (k : ℕ) → IsBefore at k → above_all at < suc k
nearer None k b = omega arith
nearer (Some j) k b = omega arith

-- a statement that was found is the one that comes before it on the way
pub same_node : (ns : List Node) (k : ℕ) (way : List Part) (n : Node) (u : Up ns k way) → slice_get ns k ≡ Some n → n ≡ u.node
same_node ns k way n u e = let h : Some n ≡ Some u.node = sym e ∙ u.found in cc

pub climbed : (ns : List Node) (k : ℕ) (way : List Part) (n : Node) (old mid new : List Part) (u : Up ns k way) → slice_get ns k ≡ Some n → new ≡ mid ++ n.part ∷ [] → ((front : List Part) → IsWay ns n.above front → mid ≡ old ++ front) → new ≡ old ++ way
climbed ns k way n old mid new u e pushed below =
    let P : Node → Type 0 = λ m. IsWay ns m.above u.front in
    let same = same_node ns k way n u e in
    pushed
    ∙ ap (λ xs. xs ++ n.part ∷ []) (below u.front (subst P (sym same) u.is))
    ∙ append_assoc old u.front (n.part ∷ [])
    ∙ ap (λ (m : Node). old ++ (u.front ++ m.part ∷ [])) same
    ∙ ap (λ front. old ++ front) (sym u.whole)

-- ---- what is only told to be there

pub at_most_prop : (m n : ℕ) → IsProp (m ≤ n)
at_most_prop m n = hlevel props

less_prop : (m n : ℕ) → IsProp (m < n)
less_prop m n = hlevel props

up_from : (ns : List Node) (at : Option ℕ) (k room : ℕ) → at ≡ Some k → (h : HasWay ns at room) → Up ns k h.way
up_from ns at k room e h = let P : Option ℕ → Type 0 = λ o. IsWay ns o h.way in way_up ns k h.way (subst P e h.is)

pub within : (ns : List Node) (at : Option ℕ) (k room : ℕ) → at ≡ Some k → ∥ HasWay ns at room ∥₁ → k < length ns
within ns at k room e h = ∥∥₁_elim h (less_prop k (length ns)) (λ w. within_up ns k w.way (up_from ns at k room e w))

longer : (ns : List Node) (k : ℕ) (way : List Part) (u : Up ns k way) → length way ≡ suc (length u.front)
longer ns k way u = let e : length way ≡ length u.front + 1 = ap length u.whole ∙ length-append u.front (u.node.part ∷ []) in omega (arith, e)

pub above_has : (ns : List Node) (at : Option ℕ) (k room : ℕ) (n : Node) → at ≡ Some k → slice_get ns k ≡ Some n → ∥ HasWay ns at room ∥₁ → ∥ HasWay ns n.above room ∥₁
above_has ns at k room n e f h = ∥∥₁_map h (λ w.
    let u = up_from ns at k room e w in
    let P : Node → Type 0 = λ m. HasWay ns m.above room in
    let long = longer ns k w.way u in
    let fits = w.fits in
    subst P (sym (same_node ns k w.way n u f)) (record { way = u.front; is = u.is; fits = omega (arith, long, fits) }))

pub above_less : (ns : List Node) (at : Option ℕ) (k room : ℕ) (n : Node) → at ≡ Some k → slice_get ns k ≡ Some n → ∥ HasWay ns at room ∥₁ → above_all n.above < above_all at
above_less ns at k room n e f h = ∥∥₁_elim h (less_prop (above_all n.above) (above_all at)) (λ w.
    let u = up_from ns at k room e w in
    let P : Node → Type 0 = λ m. above_all m.above < above_all at in
    let Q : Option ℕ → Type 0 = λ o. above_all u.node.above < above_all o in
    subst P (sym (same_node ns k w.way n u f)) (subst Q (sym e) (nearer u.node.above k u.before)))

-- behind the way to the statement above, there is room for one part more
pub above_room : (ns : List Node) (at : Option ℕ) (k capacity : ℕ) (n : Node) (old mid : List Part) → at ≡ Some k → slice_get ns k ≡ Some n → ∥ HasWay ns at (capacity - length old) ∥₁
    → ((front : List Part) → IsWay ns n.above front → mid ≡ old ++ front) → length mid < capacity
above_room ns at k capacity n old mid e f h below = ∥∥₁_elim h (less_prop (length mid) capacity) (λ w.
    let u = up_from ns at k (capacity - length old) e w in
    let P : Node → Type 0 = λ m. IsWay ns m.above u.front in
    let all : length mid ≡ length old + length u.front = ap length (below u.front (subst P (sym (same_node ns k w.way n u f)) u.is)) ∙ length-append old u.front in
    let long = longer ns k w.way u in
    let fits = w.fits in
    omega (arith, all, long, fits))

-- ---- texts by which names are told

pub numbers_apart : AreApart numbers
numbers_apart = record { told = λ a b. grind arith }
