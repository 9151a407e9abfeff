use Rattle.std.proofs.Common.{◌∙◌, sym}
use Rattle.cpc_types.specs.Scoped.{items_of}
use Rattle.cpc_types.proofs.Scopes.{meant_scope}
use Rattle.cpc_types.proofs.scope.Scope.meant.Goals as goal

pub returns-in-Some-named : goal.returns-in-Some-named
returns-in-Some-named c = λ names apart.
    c.meaning.ensures names
    ∙ meant_scope names apart c.args.self.now c.args.name _ _ c.deref.ensures.value c.in-Some-named.ensures
    ∙ sym (c.in-None.ensures names apart (items_of names c.args.self.now))

pub returns-in-None-named : goal.returns-in-None-named
returns-in-None-named c = λ names apart.
    meant_scope names apart c.args.self.now c.args.name _ _ c.deref.ensures.value c.in-None-named.ensures
    ∙ sym (c.in-None.ensures names apart (items_of names c.args.self.now))
