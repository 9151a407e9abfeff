-- Points are a set: any two proofs of one equation are equal.
use Rattle.std.proofs.Common.{◌≡◌, ℕ, zero, suc, Bool, true, false, List, Option, Some, None, refl}
use Rattle.std.specs.Prelude.{IfSome}
use Rattle.std.proofs.Math.Nat.{ℕ_set}
use Rattle.std.proofs.Props.{props}
use Rattle.cpc_base.proofs.Sets.{retract_set}
use Rattle.cpc_tree.specs.Points.{Part, Nth, TheTest, TheYes, TheNo, TheStep, TheBody, Path, Point, Here, Arrival, End}

-- ---- parts

abbrev part_to : Part → ℕ × ℕ
part_to (Nth n) = (0, n)
part_to TheTest = (1, 0)
part_to TheYes = (2, 0)
part_to TheNo = (3, 0)
part_to TheStep = (4, 0)
part_to TheBody = (5, 0)

abbrev part_kind : ℕ → ℕ → Part
part_kind zero n = Nth n
part_kind (suc zero) n = TheTest
part_kind (suc (suc zero)) n = TheYes
part_kind (suc (suc (suc zero))) n = TheNo
part_kind (suc (suc (suc (suc zero)))) n = TheStep
part_kind (suc (suc (suc (suc (suc k))))) n = TheBody

part_again : (p : Part) → part_kind (part_to p).0 (part_to p).1 ≡ p
part_again (Nth n) = refl
part_again TheTest = refl
part_again TheYes = refl
part_again TheNo = refl
part_again TheStep = refl
part_again TheBody = refl

pair_set : IsSet (ℕ × ℕ)
pair_set = hlevel (props, ℕ_set)

part_set : IsSet Part
part_set = retract_set part_to (λ c. part_kind c.0 c.1) part_again pair_set

-- ---- points

abbrev point_to : Point → Option (Bool × Path)
point_to (Here p) = Some (true, p)
point_to (Arrival p) = Some (false, p)
point_to End = None

abbrev point_kind : Bool → Path → Point
point_kind true p = Here p
point_kind false p = Arrival p

abbrev point_from : Option (Bool × Path) → Point
point_from (Some c) = point_kind c.0 c.1
point_from None = End

point_again : (p : Point) → point_from (point_to p) ≡ p
point_again (Here p) = refl
point_again (Arrival p) = refl
point_again End = refl

paths_set : IsSet (Option (Bool × List Part))
paths_set = hlevel (props, part_set)

pub point_set : IsSet Point
point_set = retract_set point_to point_from point_again paths_set

-- that a point is the one to which control goes, if it goes to one
pub leads_prop : (o : Option Point) (to : Point) → IsProp (IfSome o (λ q. to ≡ q))
leads_prop None to = λ x y. refl
leads_prop (Some q) to = point_set to q

path_set : IsSet Path
path_set = hlevel (props, part_set)

pub path_prop : (o : Option Path) (to : Path) → IsProp (IfSome o (λ q. to ≡ q))
path_prop None to = λ x y. refl
path_prop (Some q) to = path_set to q
