use Rattle.std.proofs.Common.{◌≡◌, ◌∙◌, ℕ, ◌<◌, List, [], ◌∷◌, ◌++◌, length, Option, Some, None, subst, sym, ap}
use Rattle.cpc_base.specs.declared.names.Name.{Name}
use Rattle.cpc_types_structs.specs.Indexed.{IsIndex}
use Rattle.cpc_shapes.specs.Indexed.{AreLinked, last_below}
use Rattle.cpc_types_structs.specs.declared.index.Index.{Index}
use Rattle.cpc_shapes.proofs.Indexes.{pushed}
use Rattle.cpc_types_structs.proofs.index.Index.push.Goals.{in-Some+in_ok-admit-in-Some, in-None}
use Rattle.cpc_types_structs.proofs.index.Index.push.Goals as goal

-- an index has room for a name, and what the name stands for before it
record IsReady (i : Index) (name : Option Name) (before : Option ℕ) : Type 0 where
  linked : IsIndex i
  all : i.count ≡ length i.names.items
  new : (x : Name) → name ≡ Some x → (x.0 < length i.last.items) × (before ≡ last_below i.count i.names.items x.0)

ready_name : (i : Index) (name : Option Name) (before : Option ℕ) (x : Name) → IsIndex i → i.count ≡ length i.names.items → name ≡ Some x → x.0 < length i.last.items → before ≡ last_below i.count i.names.items x.0 → IsReady i name before
ready_name i name before x linked all is room e = record {
  linked = linked;
  all = all;
  new = λ y h.
      let d : x ≡ y = cc in
      let P : Name → Type 0 = λ z. (z.0 < length i.last.items) × (before ≡ last_below i.count i.names.items z.0) in
      subst P d (room, e);
}

ready_none : (i : Index) (name : Option Name) (before : Option ℕ) → IsIndex i → i.count ≡ length i.names.items → name ≡ None → IsReady i name before
ready_none i name before linked all is = record { linked = linked; all = all; new = λ y h. cc }

added : (i : Index) (name : Option Name) (before : Option ℕ) (ks : List (Option Name)) (bs : List (Option ℕ)) → IsReady i name before → ks ≡ i.names.items ++ name ∷ [] → bs ≡ i.before.items ++ before ∷ [] → AreLinked ks bs i.last.items i.count
added i name before ks bs ready e f =
    let P : List (Option Name) → Type 0 = λ k. AreLinked k bs i.last.items i.count in
    let Q : List (Option ℕ) → Type 0 = λ b. AreLinked (i.names.items ++ name ∷ []) b i.last.items i.count in
    subst P (sym e) (subst Q (sym f) (pushed i.names.items i.before.items i.last.items i.count name before ready.linked ready.all ready.new))

pub forward-requires-clause-index : goal.forward-requires-clause-index
forward-requires-clause-index c =
    let P : Index → Type 0 = λ i. IsReady i c.match-name.name c.match-name.before in
    let ready : IsReady c.match-name.self c.match-name.name c.match-name.before = elim c.match-name.branch [
      | in-Some+in_ok-admit-in-Some w ↦
          let i = w.admit.new.self in
          let a = w.in_ok-admit-in-Some.ensures in
          subst P (sym w.self-is) (ready_name i _ _ w.in-Some.name a.index (a.count ∙ c.requires.all ∙ ap length (sym a.names)) w.name-is a.room (w.before-is ∙ w.place-before.ensures))
      | in-None w ↦ subst P (sym w.self-is) (ready_none c.args.self.now _ _ c.requires.index c.requires.all (w.name-is ∙ w.in-None.is))
    ] in
    added c.match-name.self _ _ _ _ ready c.in_ok-push-2.ensures.items c.in_ok-push.ensures.items
