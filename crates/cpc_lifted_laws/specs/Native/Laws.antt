-- The laws of native and detached functions, as statements.
use Rattle.std.specs.Prelude.{◌≡◌, ℕ, true, List, ◌∷◌, Option, Some}
use Rattle.cpc_store.specs.Store.{Value}
use Rattle.cpc_tree.specs.Syntax.{Program}
use Rattle.cpc_meaning.specs.History.{History}
use Rattle.cpc_meaning.specs.Plain.{Frame}
use Rattle.cpc_forms.specs.Split.{Position}
use Rattle.cpc_lifted_laws.specs.Accepted.Accepted.{OfAccepted}
use Rattle.cpc_lifted_laws.specs.Accepted.Lifted.{lifted_after}
use Rattle.cpc_lifted_laws.specs.Native.Convertible.{DetachedCloses, Convertible}
use Rattle.cpc_lifted_laws.specs.Native.Instance.{may_be}

-- in each state of the lifted run of a program, the frame that runs stands where it may
abbrev pub FramesMayBe : Type 0
FramesMayBe =
    (p : Program) (h : History) (n : ℕ) (frame : Frame Position) (below : List (Frame Position)) (o : Option Value) → (lifted_after p h n).running ≡ Some (record { frames = frame ∷ below; arriving = o })
    → may_be p frame.function frame.point ≡ true

-- detached functions of an accepted program name no other functions
abbrev pub AcceptedCloses : Type 0
AcceptedCloses = OfAccepted DetachedCloses

-- an accepted program has all that is asked of a program
abbrev pub AcceptedIsConvertible : Type 0
AcceptedIsConvertible = OfAccepted Convertible
