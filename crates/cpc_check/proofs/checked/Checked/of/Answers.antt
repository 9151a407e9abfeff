use Rattle.cpc_check.proofs.checked.Checked.of.Goals as goal

pub invariant_of-result : goal.invariant_of-result
invariant_of-result c = record {
  read = ∣ c.requires.read ∣₁;
  within = ∣ c.requires.within ∣₁;
  unbroken = c.requires.unbroken;
  tabled = ∣ c.in-Ok-of.ensures ∣₁;
}

pub of-requires : goal.of-requires
of-requires c = c.in-Ok.ensures.declares
