use Rattle.cpc_native_acts.proofs.act.planned.Goals as goal

pub invariant_of-around : goal.invariant_of-around
invariant_of-around c = record { own = ∣ c.requires.well.own ∣₁ }
