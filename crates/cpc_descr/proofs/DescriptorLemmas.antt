-- Queues by descriptor and direction, and what contracts see of them.
use Rattle.std.proofs.Common.{◌≡◌, ◌+◌, true, List, [], ◌∷◌, map, refl, ap, ◌∙◌}
use Rattle.std.specs.Prelude.{ℤ, ◌&&◌}
use Rattle.std.specs.Option.{option_map}
use Rattle.std.specs.List.{list_any}
use Rattle.std.specs.BTreeMap.{is_at}
use Rattle.std.specs.Cmp.{int_eq_equiv}
use Rattle.std.specs.Ordering.{int_cmp, int_eq, is_eq, ordering_then}
use Rattle.std.specs.declared.cmp.Ordering.{Ordering}
use Rattle.std.specs.declared.cmp.Ordering.TheVariants.{Less, Equal, Greater}
use Rattle.std.proofs.lemmas.List.{map-append}
use Rattle.cpc_base.specs.declared.poll.Direction.{Direction}
use Rattle.cpc_base.specs.declared.poll.Direction.TheVariants.{Read, Write}
use Rattle.cpc_base.specs.contracts.poll.DirectionOrd.TheImpl as D
use Rattle.cpc_base.specs.Waiting.{OnDescriptor, waits_for, same_way}
use Rattle.cpc_agenda_queues.specs.Queued as Q
use Rattle.cpc_agenda_queues.specs.Queued.{Queued, first_of, put_key}
use Rattle.cpc_agenda_queues.proofs.SeenLemmas.{first_map, without_map}
use Rattle.cpc_descr.specs.Descriptors as M
use Rattle.cpc_descr.specs.Descriptors.{waiter_of, descriptors_of}

-- the order of the keys
abbrev pub place_cmp : ℤ × Direction → ℤ × Direction → Ordering
place_cmp p q = ordering_then (int_cmp p.0 q.0) ((D.ghosts).cmp p.1 q.1)

both_equal : (o d : Ordering) → is_eq (ordering_then o d) ≡ (is_eq o && is_eq d)
both_equal Less d = refl
both_equal Equal d = refl
both_equal Greater d = refl

same_direction : (way q : Direction) → is_eq ((D.ghosts).cmp way q) ≡ same_way q way
same_direction Read Read = refl
same_direction Read Write = refl
same_direction Write Read = refl
same_direction Write Write = refl

-- the tests of the map and of the definitions
pub same_place : (fd : ℤ) (way : Direction) (q : ℤ × Direction) → is_at (place_cmp (fd, way)) q ≡ (int_eq q.0 fd && same_way q.1 way)
same_place fd way q =
    both_equal (int_cmp fd q.0) ((D.ghosts).cmp way q.1) ∙ ap (λ b. b && is_eq ((D.ghosts).cmp way q.1)) (int_eq_equiv.symm fd q.0) ∙ ap (λ b. int_eq q.0 fd && b) (same_direction way q.1)

pub item_is : {T : Type 0} (fd : ℤ) (way : Direction) (q : Queued (ℤ × Direction) T) → option_map Q.item_of (first_of (Q.first_in place_cmp (fd, way) q)) ≡ option_map M.item_of (first_of (M.first_waiter fd way (descriptors_of q)))
item_is {T} fd way q =
    go (Q.first_in place_cmp (fd, way) q) ∙ ap (λ ws. option_map M.item_of (first_of ws)) (first_map waiter_of (Q.waits_in place_cmp (fd, way)) (waits_for fd way) (λ w. same_place fd way w.0) q.waiting)
  where
    go : (ws : List ((ℤ × Direction) × T)) → option_map Q.item_of (first_of ws) ≡ option_map M.item_of (first_of (map waiter_of ws))
    go [] = refl
    go (w ∷ ws) = refl

pub taken_is : {T : Type 0} (fd : ℤ) (way : Direction) (q : Queued (ℤ × Direction) T) → descriptors_of (Q.take_first place_cmp (fd, way) q) ≡ M.take_first fd way (descriptors_of q)
taken_is {T} fd way q =
    let see : List (OnDescriptor T) → M.Descriptors T = λ ws. record { waiters = ws; arrived = q.arrived } in
    ap see (without_map waiter_of (Q.waits_in place_cmp (fd, way)) (waits_for fd way) (λ w. same_place fd way w.0) q.waiting)

pub added_is : {T : Type 0} (fd : ℤ) (way : Direction) (x : T) (q : Queued (ℤ × Direction) T) → descriptors_of (Q.wait (fd, way) x q) ≡ M.add fd way x (descriptors_of q)
added_is {T} fd way x q =
    let see : List (OnDescriptor T) → M.Descriptors T = λ ws. record { waiters = ws; arrived = q.arrived + 1 } in
    ap see (map-append waiter_of q.waiting (((fd, way), x) ∷ []))

pub places_are : {T : Type 0} (ws : List ((ℤ × Direction) × T)) → map Q.key_of ws ≡ map M.place_of (map waiter_of ws)
places_are [] = refl
places_are (w ∷ ws) = ap (λ ps. w.0 ∷ ps) (places_are ws)

-- a key has a queue once it is put among the keys
pub put_there : {K : Type 0} (cmp : K → K → Ordering) (k : K) → is_at (cmp k) k ≡ true → (ks : List K) → list_any (is_at (cmp k)) (put_key cmp k ks) ≡ true
put_there cmp k e [] = rw e refl
put_there {K} cmp k e (x ∷ xs) = go (cmp k x) refl (put_there cmp k e xs)
  where
    go : (o : Ordering) → cmp k x ≡ o → list_any (is_at (cmp k)) (put_key cmp k xs) ≡ true → list_any (is_at (cmp k)) (put_key cmp k (x ∷ xs)) ≡ true
    go Less h i = rw h (rw e refl)
    go Equal h i = rw h (rw h refl)
    go Greater h i = rw h (rw h i)

pub itself : (fd : ℤ) (way : Direction) → is_at (place_cmp (fd, way)) (fd, way) ≡ true
itself fd way = same_place fd way (fd, way) ∙ ap (λ b. b && same_way way way) (int_eq_equiv.refl fd) ∙ go way
  where
    go : (w : Direction) → same_way w w ≡ true
    go Read = refl
    go Write = refl
