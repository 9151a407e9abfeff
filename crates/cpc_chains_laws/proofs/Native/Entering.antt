-- A native or detached function is entered alike in both programs.
use Rattle.std.proofs.Common.{◌≡◌, ◌++◌, length, not, ◌&&◌, false, map, option_map, Some, None, refl, sym, ◌∙◌, ap, subst}
use Rattle.cpc_base.specs.Bytes.{Text}
use Rattle.cpc_tree.specs.Points.{Point, begin, Here}
use Rattle.cpc_tree.specs.Registers.{as_variable, outer_scope}
use Rattle.cpc_tree.specs.Syntax.{Function, Program}
use Rattle.cpc_tree.specs.Typing.{is_scalar, function_named}
use Rattle.cpc_meaning.specs.Threads.{is_cps_mode}
use Rattle.cpc_meaning.specs.Trees.{trees, first_point}
use Rattle.cpc_convert_common.proofs.Respawn.{enters, same_locals, takes}
use Rattle.cpc_forms.specs.Graph.{graph_where, graph_if}
use Rattle.cpc_forms.specs.Split.{split_of, splits, Position, InTree, first_position, split_form}
use Rattle.cpc_convert_image_laws.specs.Stacks.{EntersAlike}
use Rattle.cpc_convert_routines.specs.Kept.{kept_function}
use Rattle.cpc_chains_event.specs.Converted.{converted}
use Rattle.cpc_lifted_laws.specs.Accepted.Names.{HasNames}
use Rattle.cpc_convert_routines.specs.Named.{IsNamed, IsKept}
use Rattle.cpc_chains_laws.proofs.Native.Wholes.{kept_named}

-- no graph is of a function that is not cps
pub no_graph : (p : Program) (x : Text) (f : Function) → function_named p x ≡ Some f → is_cps_mode f.mode ≡ false → splits p x ≡ None
no_graph p x f e c = ap (λ o. option_map split_of (graph_where p o)) e ∙ ap (λ b. option_map split_of (graph_if b p f)) c

module _ (p : Program) (names : HasNames p) (ok : IsNamed p) (f : Function) (kept : IsKept p f) where
  is_found : function_named p f.called ≡ Some f
  is_found = ok.found f kept.has

  -- where it begins
  begins_in : (split_form p).code.first f.called ≡ InTree (begin f.body)
  begins_in = ap (λ o. first_position o (first_point (function_named p f.called))) (no_graph p f.called f is_found kept.mode) ∙ ap (λ o. InTree (first_point o)) is_found

  begins_at : (trees (converted p)).code.first f.called ≡ begin f.body
  begins_at = ap first_point (kept_named p names ok f.called f is_found kept.mode) ∙ ap (λ q. Here q) (enters f.body)

  pub entered_alike : (Pos : Text → Position → Point → Type 0) → ((b : Point) → Pos f.called (InTree b) b) → EntersAlike Pos (split_form p) (trees (converted p)) f (kept_function f)
  entered_alike Pos pos = record {
    called = refl;
    variables = ap (λ xs. map as_variable f.parameters ++ xs) (sym (same_locals f.body));
    marks = λ n x. ap (λ b. is_scalar x.type && not b) (takes (outer_scope f) (length f.parameters) n f.body);
    first = subst (λ a. Pos f.called a ((trees (converted p)).code.first f.called)) (sym begins_in) (subst (λ b. Pos f.called (InTree (begin f.body)) b) (sym begins_at) (pos (begin f.body)));
  }
