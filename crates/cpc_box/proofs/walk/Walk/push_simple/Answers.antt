use Rattle.std.proofs.Common.{refl, ap, sym, subst, ◌∙◌, List}
use Rattle.std.proofs.lemmas.Result.{on_ok_weaker}
use Rattle.cpc_tree.specs.Points as P
use Rattle.cpc_tree.specs.Erase.{stmt_of}
use Rattle.cpc_meaning.specs.Ways.{manner_of}
use Rattle.cpc_eval_index.specs.Indexed.{items_of}
use Rattle.cpc_forms_code.specs.declared.boxed.Variable.{Variable}
use Rattle.cpc_forms_code.specs.Seen.{AreNamed, scope_seen}
use Rattle.cpc_box.specs.Outline.{here}
use Rattle.cpc_box.proofs.Scopes.{chain_seen}
use Rattle.cpc_box.proofs.walk.Walk.push_simple.Goals as goal

pub returns : goal.returns
returns c = on_ok_weaker c.push.result (λ h names sc stands.
    let items = items_of names c.args.known.around.index.now in
    let s = P.Simple (stmt_of names c.args.s.now) in
    let same = c.deref.ensures.value in
    let Q : List Variable → Type 0 = AreNamed names in
    h names c.args.known.kept.now (here items sc s) (record {
      stood = refl;
      scope = stands.scope;
      manner = c.manner-manner.ensures names stands.spells (subst Q (sym same) stands.named)
          ∙ ap (λ d. manner_of items d s) (ap (λ vs. scope_seen names vs c.args.scope) same ∙ chain_seen names c.args.self.now.variables.items c.args.scope sc stands.scope);
    })) c.push.ensures
