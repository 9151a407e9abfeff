use Rattle.std.proofs.Common.{◌≡◌, ◌-◌, ◌++◌, ◌∙◌, ℕ, List, Option, Some, sym, ap, subst, arith}
use Rattle.std.proofs.Math.Logic.{∥∥₁_elim, ∥∥₁_prop}
use Rattle.cpc_tree.specs.Erase.{stmt_of}
use Rattle.cpc_tree.specs.Points.{enter, labelled}
use Rattle.cpc_native_points.specs.Bodies.{body_of}
use Rattle.cpc_native_points.specs.Depth.{deep, numbers}
use Rattle.cpc_native_points.specs.declared.parts.Part.{Part}
use Rattle.cpc_native_points.specs.declared.table.Node.{Node}
use Rattle.cpc_native_points.specs.Parts.{statement_at}
use Rattle.cpc_native_points.specs.Seen.{path_of}
use Rattle.cpc_native_points.specs.Tabled.{HasWay, IsLed, IsWay, LeadsTo}
use Rattle.cpc_native_points.proofs.Fitting.{led_within, led_room}
use Rattle.cpc_native_points.proofs.Gathering.{led_to, led_nowhere}
use Rattle.cpc_native_points.proofs.Pointing.{path_prop}
use Rattle.cpc_native_points.proofs.Ways.{numbers_apart, at_most_prop}
use Rattle.cpc_native_points.proofs.Within.{labelled_fits}
use Rattle.cpc_native_points.proofs.labels.Labels.find.Goals as goal

pub climb-requires : goal.climb-requires
climb-requires c = ∥∥₁_elim c.args.self.now.tabled ∥∥₁_prop (λ t.
    let nodes = c.args.self.now.table.now.table.nodes.items in
    let body = stmt_of numbers (body_of c.args.self.now) in
    let x = numbers c.args.label in
    let path = c.clear.new.self in
    let P : Option ℕ → Type 0 = λ place. LeadsTo body nodes place (labelled x body) in
    let H : List Node → Type 0 = λ ns. HasWay ns (Some c.in-Some.number) (path.cap - path.len) in
    let led : IsLed body nodes c.in-Some.number (labelled x body) = subst P (sym c.in-Some.ensures) (t.labels.each numbers numbers_apart c.args.label) in
    let all = led_within body nodes c.in-Some.number (labelled x body) (deep (body_of c.args.self.now)) (labelled_fits x body) led in
    let r = c.requires.room in
    let l = c.clear.ensures.len in
    let k = c.clear.ensures.capacity in
    ∣ subst H (sym c.deref.ensures.value) (record { way = led.way; is = led.is; fits = omega (arith, all, r, l, k) }) ∣₁)

pub enter_at-requires : goal.enter_at-requires
enter_at-requires c = record {
  room = λ s there. ∥∥₁_elim c.args.self.now.tabled (at_most_prop _ _) (λ t.
      let nodes = c.args.self.now.table.now.table.nodes.items in
      let body = stmt_of numbers (body_of c.args.self.now) in
      let x = numbers c.args.label in
      let path = c.climb.new.path in
      let P : Option ℕ → Type 0 = λ place. LeadsTo body nodes place (labelled x body) in
      let led : IsLed body nodes c.in-Some.number (labelled x body) = subst P (sym c.in-Some.ensures) (t.labels.each numbers numbers_apart c.args.label) in
      let way = c.climb.ensures.items led.way (subst (λ ns. IsWay ns (Some c.in-Some.number) led.way) (sym c.deref.ensures.value) led.is) in
      let put : path.items ≡ led.way = way ∙ ap (λ (xs : List Part). xs ++ led.way) c.clear.ensures.items in
      let all = led_room body nodes c.in-Some.number (labelled x body) (deep (body_of c.args.self.now)) path.items s (labelled_fits x body) led put there in
      let long = path.ok.0 in
      let r = c.requires.room in
      let k = c.clear.ensures.capacity in
      let m = c.climb.ensures.capacity in
      omega (arith, all, long, r, k, m));
}

pub returns-in-Some-clause-path : goal.returns-in-Some-clause-path
returns-in-Some-clause-path c = λ names apart. ∥∥₁_elim c.args.self.now.tabled (path_prop _ _) (λ t.
    let nodes = c.args.self.now.table.now.table.nodes.items in
    let body = stmt_of names (body_of c.args.self.now) in
    let o = labelled (names c.args.label) body in
    let path = c.climb.new.path in
    let P : Option ℕ → Type 0 = λ place. LeadsTo body nodes place o in
    led_to body nodes c.in-Some.number o (path_of c.enter_at.new.path.items) (subst P (sym c.in-Some.ensures) (t.labels.each names apart c.args.label))
    (λ way inner w there.
    let put : path.items ≡ way = c.climb.ensures.items way (subst (λ ns. IsWay ns (Some c.in-Some.number) way) (sym c.deref.ensures.value) w) ∙ ap (λ (xs : List Part). xs ++ way) c.clear.ensures.items in
    c.enter_at.ensures.items names inner (ap (λ p. statement_at body (path_of p)) put ∙ there) ∙ ap (λ p. path_of p ++ enter inner) put))

pub returns-in-None-clause-path : goal.returns-in-None-clause-path
returns-in-None-clause-path c = λ names apart. ∥∥₁_elim c.args.self.now.tabled (path_prop _ _) (λ t.
    let body = stmt_of names (body_of c.args.self.now) in
    let o = labelled (names c.args.label) body in
    let P : Option ℕ → Type 0 = λ place. LeadsTo body c.args.self.now.table.now.table.nodes.items place o in
    led_nowhere o (path_of c.clear.new.self.items) (subst P (sym c.in-None.ensures) (t.labels.each names apart c.args.label)))
