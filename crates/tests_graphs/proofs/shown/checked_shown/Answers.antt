use Rattle.tests_graphs.proofs.shown.checked_shown.Goals as goal

pub boxed-requires-clause-speakable : goal.boxed-requires-clause-speakable
boxed-requires-clause-speakable c =
    let texts = c.is_spelled.ensures in
    ∣ (texts.0, record { spells = texts.1.spells; told = texts.1.told }) ∣₁
