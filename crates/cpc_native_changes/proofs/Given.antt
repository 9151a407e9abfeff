-- What is told of a plan is told of what it stands for.
use Rattle.std.proofs.Common.{◌≡◌, Bool, false, Ok, Err, refl, subst}
use Rattle.cpc_num.specs.declared.kinds.Fault.{Fault}
use Rattle.cpc_num.specs.declared.kinds.Fault.TheVariants as F
use Rattle.cpc_tree.specs.Erase.{Names}
use Rattle.cpc_meaning.specs.Answer.{Answer, Gives, Faults, NoAnswer}
use Rattle.cpc_meaning.specs.Eval as E
use Rattle.cpc_meaning.specs.Act as M
use Rattle.cpc_eval_values.specs.Meets.{Meets}
use Rattle.cpc_native_plans.specs.Stops.{IsGiven}
use Rattle.cpc_native_plans.specs.Parts.{Stands}
use Rattle.cpc_native_changes.specs.Foreseen.{Foresees}
use Rattle.cpc_native_changes.specs.declared.changes.Change.{Change}
use Rattle.cpc_native_changes.specs.declared.changes.Change.TheVariants as C

module _ (names : Names) (c : E.Context) (stood : M.Stood) where
  pub foresees_stands : (change : Change) (p a : Answer M.Act) → Stands p a → Foresees names c stood change p → Foresees names c stood change a
  foresees_stands change (Gives x) (Gives y) s h = let is : x ≡ y = go (s (Ok x) refl) in let P : M.Act → Type 0 = λ z. Foresees names c stood change (Gives z) in subst P is h
    where
      go : Meets (Ok x) (Gives y) → x ≡ y
      go e = cc
  foresees_stands change (Gives x) (Faults f) s h = absurd (go (s (Ok x) refl))
    where
      go : Meets (Ok x) (Faults f) → ⊥
      go e = cc
  foresees_stands change p NoAnswer s h = tt
  foresees_stands change (Faults f) (Gives y) s h = absurd (go (s (Err f) refl))
    where
      go : Meets {A = M.Act} (Err f) (Gives y) → ⊥
      go e = cc
  foresees_stands change (Faults f) (Faults g) s h = h
  foresees_stands change NoAnswer (Gives y) s h = absurd (go (s (Err F.Kind) tt))
    where
      go : Meets {A = M.Act} (Err F.Kind) (Gives y) → ⊥
      go e = cc
  foresees_stands change NoAnswer (Faults f) s h = absurd (go (s (Err F.Kind) tt) (s (Err F.Code) tt))
    where
      go : Meets {A = M.Act} (Err F.Kind) (Faults f) → Meets {A = M.Act} (Err F.Code) (Faults f) → ⊥
      go e d = cc

  pub foresees_fault : (fault : Fault) (a : Answer M.Act) → Meets {A = M.Act} (Err fault) a → Foresees names c stood C.Stays a
  foresees_fault fault (Gives x) h = let no : ⊥ = cc in absurd no
  foresees_fault fault (Faults f) h = refl
  foresees_fault fault NoAnswer h = tt

-- whether something is given, where another answer stands for it
pub given_stands : {A : Type 0} (b : Bool) (p a : Answer A) → Stands p a → IsGiven b p → IsGiven b a
given_stands b (Gives y) (Gives z) s h = h
given_stands {A = A} b (Gives y) (Faults f) s h = absurd (go (s (Ok y) refl))
  where
    go : Meets {A = A} (Ok y) (Faults f) → ⊥
    go e = cc
given_stands b p NoAnswer s h = tt
given_stands {A = A} b (Faults f) (Gives z) s h = absurd (go (s (Err f) refl))
  where
    go : Meets {A = A} (Err f) (Gives z) → ⊥
    go e = cc
given_stands b (Faults f) (Faults g) s h = h
given_stands {A = A} b NoAnswer (Gives z) s h = absurd (go (s (Err F.Kind) tt))
  where
    go : Meets {A = A} (Err F.Kind) (Gives z) → ⊥
    go e = cc
given_stands {A = A} b NoAnswer (Faults f) s h = absurd (go (s (Err F.Kind) tt) (s (Err F.Code) tt))
  where
    go : Meets {A = A} (Err F.Kind) (Faults f) → Meets {A = A} (Err F.Code) (Faults f) → ⊥
    go e d = cc

pub given_fault : {A : Type 0} (fault : Fault) (a : Answer A) → Meets {A = A} (Err fault) a → IsGiven {A = A} false a
given_fault fault (Gives x) h = let no : ⊥ = cc in absurd no
given_fault fault (Faults f) h = refl
given_fault fault NoAnswer h = tt
