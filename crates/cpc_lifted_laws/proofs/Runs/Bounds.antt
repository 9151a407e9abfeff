-- The parts of a row are within the cost of a program.
use Rattle.std.proofs.Common.{◌≡◌, ◌+◌, ◌*◌, ◌<◌, ◌≤◌, true, [], ◌∷◌, length, refl, arith}
use Rattle.std.proofs.Math.Nat.{le-max_left, le-max_right}
use Rattle.cpc_tree.specs.Registers.{variables}
use Rattle.cpc_tree.specs.Syntax.{Function, StructItem, GlobalItem, PrototypeItem, FunctionItem, Program}
use Rattle.cpc_tree.specs.declared.program.Mode.{Mode}
use Rattle.cpc_tree.specs.declared.program.Mode.TheVariants.{Extern, Native, Cps, Detached}
use Rattle.cpc_meaning.specs.Runs.{cps_variables, most_variables, cost}
use Rattle.cpc_meaning.specs.Threads.{is_cps_mode}
use Rattle.cpc_convert_common.specs.Members.{Has, OnTop, Below}
use Rattle.cpc_convert_routines.specs.Named.{IsCps}
use Rattle.cpc_lifted_laws.specs.Related.Bounds.{Enough}
use Rattle.cpc_lifted_laws.specs.Runs.Bounds.{bounds_of}

counted : (m : Mode) (f : Function) → is_cps_mode m ≡ true → cps_variables m f ≡ length (variables f)
counted Cps f e = refl
counted Extern f e = absurd (cc)
counted Native f e = absurd (cc)
counted Detached f e = absurd (cc)

-- a cps function has no more variables than the one that has most
most_has : (p : Program) (f : Function) → Has (FunctionItem f) p → is_cps_mode f.mode ≡ true → length (variables f) ≤ most_variables p
most_has [] f has cps = elim has [ ]
most_has (StructItem tag fs ∷ p) f (Below _ _ _ has) cps = most_has p f has cps
most_has (GlobalItem x t start ∷ p) f (Below _ _ _ has) cps = most_has p f has cps
most_has (PrototypeItem m g r ps ∷ p) f (Below _ _ _ has) cps = most_has p f has cps
most_has (FunctionItem _ ∷ p) f (OnTop _ _) cps = let e = counted f.mode f cps in let h = le-max_left (cps_variables f.mode f) (most_variables p) in omega (arith, e, h)
most_has (FunctionItem g ∷ p) f (Below _ _ _ has) cps = let i = most_has p f has cps in let h = le-max_right (cps_variables g.mode g) (most_variables p) in omega (arith, i, h)

pub most_within : (p : Program) (f : Function) → IsCps p f → length (variables f) ≤ most_variables p
most_within p f cps = most_has p f cps.has cps.mode

-- what is asked of the bounds
pub bounds_enough : (p : Program) → Enough (bounds_of p) (cost p)
bounds_enough p = record {
  goes = omega arith;
  calls = omega arith;
  begins = omega arith;
  less = omega arith;
  in_place = omega arith;
  paused = omega arith;
  spawned = omega arith;
  ended = omega arith;
  called = omega arith;
  begun = omega arith;
  taken = omega arith;
}

module _ (p : Program) (f : Function) (cps : IsCps p f) where
  pub onward_enough : 5 + length (variables f) ≤ (bounds_of p).onward
  onward_enough = let h = most_within p f cps in omega (arith, h)

  pub leads_enough : 16 + 3 * length (variables f) ≤ (bounds_of p).leads
  leads_enough = let h = most_within p f cps in omega (arith, h)

  pub spawns_enough : 7 + 2 * length (variables f) < (bounds_of p).leads
  spawns_enough = let h = most_within p f cps in omega (arith, h)

  pub resumes_enough : 8 + 2 * length (variables f) ≤ (bounds_of p).resumes
  resumes_enough = let h = most_within p f cps in omega (arith, h)

  pub takes_enough : 10 + 2 * length (variables f) ≤ (bounds_of p).takes
  takes_enough = let h = most_within p f cps in omega (arith, h)

  pub opens_enough : 21 + 4 * length (variables f) ≤ (bounds_of p).opens
  opens_enough = let h = most_within p f cps in omega (arith, h)

  pub begins_enough : 24 + 5 * length (variables f) ≤ (bounds_of p).begins
  begins_enough = let h = most_within p f cps in omega (arith, h)
