-- What is gathered is between owners of the function, and to its variables.
use Rattle.std.proofs.Common.{◌≡◌, ℕ, zero, suc, ◌+◌, ◌<◌, ◌≤◌, Bool, true, false, List, [], ◌∷◌, ◌++◌, cond, map, length, slice_get, bytes_eq, All, Option, Some, None, refl, sym, ap, ◌∙◌, subst, arith}
use Rattle.std.specs.List.{AllByRecursion}
use Rattle.std.proofs.lemmas.List.Elements.{All-from_recursion}
use Rattle.std.proofs.lemmas.Option.{slice_get_within}
use Rattle.cpc_base.specs.Bytes.{Text}
use Rattle.cpc_tree.specs.Erase.{Names}
use Rattle.cpc_tree.specs.Lists.{holds_number}
use Rattle.cpc_tree.specs.Syntax.{Function, Program}
use Rattle.cpc_tree.specs.Typing.{Scope}
use Rattle.cpc_tree.specs.Registers.{slot_of}
use Rattle.cpc_forms.specs.Graph.{Node, graph_of}
use Rattle.cpc_forms.specs.Flow.{Place, Start, At, Flow, flow_of, is_owner, owner_of}
use Rattle.cpc_forms.specs.Split.{owners_from, owner_or}
use Rattle.cpc_graph_laws.proofs.MoreFacts.{owners_lead}
use Rattle.cpc_lift_laws.specs.Search as S
use Rattle.cpc_lift_laws.specs.Nodes.{links_to}
use Rattle.cpc_lift_laws.specs.Used.{used_at, is_left}
use Rattle.cpc_lift_laws.proofs.Below.{used_are_below}
use Rattle.cpc_lift_laws.proofs.Search.{one_more, at_first, further}
use Rattle.cpc_lift_closures.specs.declared.links.Link.{Link}
use Rattle.cpc_lift_closures.specs.Rows.{links_of, IsBelow, IsFrom}
use Rattle.cpc_forms_code.specs.declared.boxed.Variable.{Variable}
use Rattle.cpc_forms_code.specs.declared.graph.Node as C
use Rattle.cpc_forms_code.specs.Points.{Marked}
use Rattle.cpc_forms_code.specs.Seen.{scope_seen, scope_within, scope_behind}
use Rattle.cpc_forms_code.specs.Graphs.{node_seen}
use Rattle.cpc_forms_code.specs.Lifts.{owner_number, unless, boxes_among}
use Rattle.cpc_lift.specs.Ways.{way_of}
use Rattle.cpc_lift.specs.Gathered.{node_ways, node_uses, ways_along, uses_along}

-- a link from a number below the one to a number below the other
pub record Within (a b : ℕ) (w : S.Link) : Type 0 where
  pub from : w.from < a
  pub to : w.to < b

abbrev pub AllWithin : (a b : ℕ) → List S.Link → Type 0
AllWithin a b ws = AllByRecursion (Within a b) ws

within_both : (a b : ℕ) (xs ys : List S.Link) → AllWithin a b xs → AllWithin a b ys → AllWithin a b (xs ++ ys)
within_both a b [] ys h g = g
within_both a b (x ∷ xs) ys h g = (h.0, within_both a b xs ys h.1 g)

-- so it is of the links of the code
from_within : (a b : ℕ) (ws : List Link) → AllWithin a b (links_of ws) → AllByRecursion (IsFrom a) ws
from_within a b [] h = tt
from_within a b (w ∷ ws) h = (h.0.from, from_within a b ws h.1)

to_within : (a b : ℕ) (ws : List Link) → AllWithin a b (links_of ws) → AllByRecursion (IsBelow b) ws
to_within a b [] h = tt
to_within a b (w ∷ ws) h = (h.0.to, to_within a b ws h.1)

pub all_from : (a b : ℕ) (ws : List Link) → AllWithin a b (links_of ws) → All (IsFrom a) ws
all_from a b ws h = All-from_recursion (IsFrom a) ws (from_within a b ws h)

pub all_to : (a b : ℕ) (ws : List Link) → AllWithin a b (links_of ws) → All (IsBelow b) ws
all_to a b ws h = All-from_recursion (IsBelow b) ws (to_within a b ws h)

-- ---- owners

owner_at : (flow : Flow) (n k m : ℕ) (l : Place) → slice_get (owners_from flow n k) m ≡ Some (Some l) → owner_of flow (n + m) ≡ Some l
owner_at flow n zero m l e = absurd (cc)
owner_at flow n (suc k) zero l e = (let z : n + 0 ≡ n = omega arith in ap (owner_of flow) z) ∙ (cc)
owner_at flow n (suc k) (suc m) l e = (let z : n + suc m ≡ suc n + m = omega arith in ap (owner_of flow) z) ∙ owner_at flow (suc n) k m l e

-- each owner of these has a number below this one
abbrev pub OwnersBelow : ℕ → List (Option Place) → Type 0
OwnersBelow a os = (n : ℕ) (l : Place) → slice_get os n ≡ Some (Some l) → owner_number l < a

owner_below : (p : Program) (f : Function) (l : Place) → is_owner (flow_of (graph_of p f)) l ≡ true → owner_number l < suc (length (graph_of p f).nodes)
owner_below p f Start e = omega arith
owner_below p f (At n) e = let h = ((owners_lead p f).1 n e).0 in omega (arith, h)

pub owners_below : (p : Program) (f : Function) → OwnersBelow (suc (length (graph_of p f).nodes)) (owners_from (flow_of (graph_of p f)) 0 (length (graph_of p f).nodes))
owners_below p f n l e = owner_below p f l ((owners_lead p f).0 (0 + n) l (owner_at (flow_of (graph_of p f)) 0 (length (graph_of p f).nodes) n l e))

-- ---- ways

module _ (a : ℕ) (all : List (Option Place)) (are : OwnersBelow a all) where
  or_below : (l : Place) (n : ℕ) (o : Option (Option Place)) → slice_get all n ≡ o → owner_number l < a → owner_number (owner_or l o) < a
  or_below l n None e h = h
  or_below l n (Some None) e h = h
  or_below l n (Some (Some k)) e h = are n k e

  way_within : (l : Place) → owner_number l < a → (o : Option ℕ) → AllWithin a a (way_of l all o)
  way_within l h None = tt
  way_within l h (Some m) = (record { from = h; to = or_below l m (slice_get all m) refl h }, tt)

  node_ways_within : (o : Option Place) → ((l : Place) → o ≡ Some l → owner_number l < a) → (node : Node) → AllWithin a a (node_ways all o node)
  node_ways_within None h node = tt
  node_ways_within (Some l) h node =
      within_both a a (way_of l all node.yes) (way_of l all node.no ++ way_of l all node.arrival) (way_within l (h l refl) node.yes)
      (within_both a a (way_of l all node.no) (way_of l all node.arrival) (way_within l (h l refl) node.no) (way_within l (h l refl) node.arrival))

  pub ways_within : (nodes : List Node) (os : List (Option Place)) → OwnersBelow a os → AllWithin a a (ways_along all nodes os)
  ways_within [] os h = tt
  ways_within (node ∷ nodes) [] h = tt
  ways_within (node ∷ nodes) (o ∷ os) h =
      within_both a a (node_ways all o node) (ways_along all nodes os) (node_ways_within o (λ l e. h 0 l (ap (λ x. Some x) e)) node) (ways_within nodes os (λ n. h (suc n)))

-- ---- variables

abbrev NumbersBelow : ℕ → List ℕ → Type 0
NumbersBelow b ks = AllByRecursion (λ k. k < b) ks

numbers_both : (b : ℕ) (xs ys : List ℕ) → NumbersBelow b xs → NumbersBelow b ys → NumbersBelow b (xs ++ ys)
numbers_both b [] ys h g = g
numbers_both b (x ∷ xs) ys h g = (h.0, numbers_both b xs ys h.1 g)

held_below : (b : ℕ) (ks : List ℕ) → ((k : ℕ) → holds_number ks k ≡ true → k < b) → NumbersBelow b ks
held_below b [] h = tt
held_below b (k ∷ ks) h = (h k (at_first k ks), held_below b ks (λ j e. h j (further k j ks e)))

-- names in scope are variables
module _ (names : Names) (vs : List Variable) where
  abbrev Named : Scope → Type 0
  Named scope = (x : Text) (k : ℕ) → holds_number (slot_of scope x) k ≡ true → k < length vs

  behind_named : (outer : Option ℕ → Scope) → ((o : Option ℕ) → Named (outer o)) → (n : ℕ) (v : Option Variable) → slice_get vs n ≡ v → Named (scope_behind names outer n v)
  behind_named outer h n None e x k i = absurd (cc)
  behind_named outer h n (Some v) e x k i = go (bytes_eq _ x) i
    where
      go : (b : Bool) → holds_number (cond b (n ∷ []) (slot_of (outer v.outer) x)) k ≡ true → k < length vs
      go true i = one_more n k [] (k < length vs) (λ q. subst (λ j. j < length vs) q (slice_get_within vs n v e)) (λ g. absurd (cc)) i
      go false i = h v.outer x k i

  within_named : (depth : ℕ) (o : Option ℕ) → Named (scope_within names vs depth o)
  within_named depth None x k i = absurd (cc)
  within_named zero (Some n) x k i = absurd (cc)
  within_named (suc depth) (Some n) x k i = behind_named (scope_within names vs depth) (within_named depth) n (slice_get vs n) refl x k i

  seen_named : (o : Option ℕ) → Named (scope_seen names vs o)
  seen_named o = within_named (length vs) o

-- ---- boxes

unless_below : (b : ℕ) (register : Bool) (k : ℕ) (ks : List ℕ) → k < b → NumbersBelow b ks → NumbersBelow b (unless register k ks)
unless_below b true k ks h g = g
unless_below b false k ks h g = (h, g)

among_below : (b k : ℕ) (vs : List Marked) → k + length vs ≤ b → NumbersBelow b (boxes_among k vs)
among_below b k [] h = tt
among_below b k (v ∷ vs) h = unless_below b v.register k (boxes_among (suc k) vs) (omega (arith, h)) (among_below b (suc k) vs (omega (arith, h)))

-- ---- uses

links_within : (a b l : ℕ) → l < a → (ks : List ℕ) → NumbersBelow b ks → AllWithin a b (links_to l ks)
links_within a b l h [] g = tt
links_within a b l h (k ∷ ks) g = (record { from = h; to = g.0 }, links_within a b l h ks g.1)

module _ (a : ℕ) (names : Names) (vs : List Variable) (boxes : List ℕ) (are : NumbersBelow (length vs) boxes) where
  left_below : (b : Bool) → NumbersBelow (length vs) (cond b boxes [])
  left_below true = are
  left_below false = tt

  node_uses_within : (o : Option Place) → ((l : Place) → o ≡ Some l → owner_number l < a) → (node : C.Node) → AllWithin a (length vs) (node_uses boxes o (node_seen names vs node))
  node_uses_within None h node = tt
  node_uses_within (Some l) h node =
      let seen = node_seen names vs node in
      links_within a (length vs) (owner_number l) (h l refl) (used_at seen.scope seen.stood ++ cond (is_left seen.stood) boxes [])
      (numbers_both (length vs) (used_at seen.scope seen.stood) (cond (is_left seen.stood) boxes [])
      (held_below (length vs) (used_at seen.scope seen.stood) (used_are_below seen.scope (length vs) (seen_named names vs node.scope) seen.stood))
      (left_below (is_left seen.stood)))

  uses_within : (nodes : List C.Node) (os : List (Option Place)) → OwnersBelow a os → AllWithin a (length vs) (uses_along boxes (map (node_seen names vs) nodes) os)
  uses_within [] os h = tt
  uses_within (node ∷ nodes) [] h = tt
  uses_within (node ∷ nodes) (o ∷ os) h =
      within_both a (length vs) (node_uses boxes o (node_seen names vs node)) (uses_along boxes (map (node_seen names vs) nodes) os)
      (node_uses_within o (λ l e. h 0 l (ap (λ x. Some x) e)) node) (uses_within nodes os (λ n. h (suc n)))

-- with the boxes of the variables
pub all_uses_within : (a : ℕ) (names : Names) (vs : List Variable) (boxes : List ℕ) (ms : List Marked) → boxes ≡ boxes_among 0 ms → length ms ≡ length vs
    → (nodes : List C.Node) (os : List (Option Place)) → OwnersBelow a os → AllWithin a (length vs) (uses_along boxes (map (node_seen names vs) nodes) os)
all_uses_within a names vs boxes ms e long =
    let few : 0 + length ms ≤ length vs = omega (arith, long) in
    uses_within a names vs boxes (subst (NumbersBelow (length vs)) (sym e) (among_below (length vs) 0 ms few))
