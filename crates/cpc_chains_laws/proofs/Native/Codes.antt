-- A name that stays finds a function in both programs, the one that stands for it, or none in either.
use Rattle.std.proofs.Common.{◌≡◌, Bool, true, false, cond, List, [], ◌∷◌, ◌++◌, map, Option, Some, None, bytes_eq, refl, sym, ◌∙◌, ap, subst}
use Rattle.cpc_base.specs.Bytes.{Text}
use Rattle.cpc_base.proofs.Lists.{append_empty}
use Rattle.cpc_tree.specs.Syntax.{Ty, Function, Item, StructItem, GlobalItem, PrototypeItem, FunctionItem, Program}
use Rattle.cpc_tree.specs.Typing.{AFunction, item_named, function_named}
use Rattle.cpc_tree.specs.declared.program.Mode.{Mode}
use Rattle.cpc_tree.specs.declared.program.Mode.TheVariants.{Extern, Native, Cps, Detached}
use Rattle.cpc_meaning.specs.Start.{main_name}
use Rattle.cpc_meaning.specs.Threads.{is_cps_mode, is_cps}
use Rattle.cpc_meaning.proofs.Functions.{texts_differ}
use Rattle.cpc_convert_common.specs.Marks.{has_marks}
use Rattle.cpc_convert_common.specs.Converted.{prototype}
use Rattle.cpc_convert_common.specs.Members.{Has}
use Rattle.cpc_convert_common.proofs.Listed.{skip_prototypes, pass_functions}
use Rattle.cpc_chains_store_laws.specs.Driver.{drive_name, drive_function}
use Rattle.cpc_convert_image_laws.specs.InPlace as I
use Rattle.cpc_convert_image_laws.specs.Relations.{Found, BothFound, NoneFound}
use Rattle.cpc_convert_routines.specs.Kept.{kept_function, item_unless, kept_items, routines}
use Rattle.cpc_chains_event.specs.Converted.{all_structs, all_boxes, all_made, main_function, main_if, converted_with, converted}
use Rattle.cpc_convert_routines.specs.Named.{IsNamed}
use Rattle.cpc_convert_routines.specs.Routines.{Routine}
use Rattle.cpc_chains_event.proofs.Apart.{unlike_driver}
use Rattle.cpc_chains_event.proofs.Made.{made_marked}
use Rattle.cpc_chains_event.proofs.Structs.{skip_functions, all_structs_are, all_boxes_are}
use Rattle.cpc_chains_event.proofs.StructsThere.{behind_boxes}
use Rattle.cpc_chains_event.proofs.Lookups.{behind_driver}
use Rattle.cpc_lifted_laws.specs.Accepted.Known.{Stays}
use Rattle.cpc_lifted_laws.specs.Accepted.Names.{HasNames}
use Rattle.cpc_lifted_laws.specs.Native.Instance.{StaysAs}
use Rattle.cpc_chains_laws.proofs.Native.Wholes.{kept_there, kept_named}

-- ---- names that no function has

-- what stays has no function of a name that none has
pass_none : (its items : List Item) (x : Text) → function_named its x ≡ None → function_named (kept_items its ++ items) x ≡ function_named items x
pass_none [] items x e = refl
pass_none (StructItem t fs ∷ its) items x e = pass_none its items x e
pass_none (GlobalItem y t s ∷ its) items x e = pass_none its items x e
pass_none (PrototypeItem m f r ps ∷ its) items x e = go (is_cps_mode m) (pass_none its items x e)
  where
    go : (b : Bool) → function_named (kept_items its ++ items) x ≡ function_named items x → function_named (item_unless b (PrototypeItem m f r ps) (kept_items its) ++ items) x ≡ function_named items x
    go true k = k
    go false k = k
pass_none (FunctionItem f ∷ its) items x e = go (bytes_eq f.called x) refl (is_cps_mode f.mode) e (λ k. pass_none its items x k)
  where
    go : (b : Bool) → bytes_eq f.called x ≡ b → (d : Bool) → cond b (Some f) (function_named its x) ≡ None → (function_named its x ≡ None → function_named (kept_items its ++ items) x ≡ function_named items x)
        → function_named (item_unless d (FunctionItem (kept_function f)) (kept_items its) ++ items) x ≡ function_named items x
    go true i d k rest = absurd (cc)
    go false i true k rest = rest k
    go false i false k rest = ap (λ c. cond c (Some (kept_function f)) (function_named (kept_items its ++ items) x)) i ∙ rest k

no_function : {A : Type 0} (f : Function) → Some f ≡ None → A
no_function f e = absurd (cc)

module _ (p : Program) (x : Text) (none : function_named p x ≡ None) where
  -- `main` is called so, where it is cps
  no_main : function_named (main_if (is_cps (function_named p main_name))) x ≡ None
  no_main = go (function_named p main_name) refl
    where
      by_mode : (f : Function) → function_named p main_name ≡ Some f → (b : Bool) → function_named (main_if b) x ≡ None
      by_mode f e true = ap (λ d. cond d (Some main_function) None) (texts_differ main_name x (λ (k : main_name ≡ x). no_function f (sym e ∙ ap (function_named p) k ∙ none)))
      by_mode f e false = refl

      go : (o : Option Function) → function_named p main_name ≡ o → function_named (main_if (is_cps o)) x ≡ None
      go None e = refl
      go (Some f) e = by_mode f e (is_cps_mode f.mode)

  -- nothing that is made is called so
  no_driver : bytes_eq drive_name x ≡ false → (items : List Item) → cond (bytes_eq drive_name x) (Some drive_function) (function_named items x) ≡ function_named items x
  no_driver e items = ap (λ b. cond b (Some drive_function) (function_named items x)) e

  none_among : (rs : List Routine) → ((g : Function) → Has g (all_made p rs) → bytes_eq g.called x ≡ false) → bytes_eq drive_name x ≡ false → function_named (converted_with p rs) x ≡ None
  none_among [] made e = ap (λ ys. function_named ys x) (sym (append_empty (kept_items p))) ∙ pass_none p [] x none
  none_among (r ∷ rs) made e =
      skip_functions (all_structs p (r ∷ rs)) (map prototype (all_made p (r ∷ rs)) ++ FunctionItem drive_function ∷ behind_driver p (r ∷ rs)) x (all_structs_are p (r ∷ rs))
      ∙ (skip_prototypes (all_made p (r ∷ rs)) (FunctionItem drive_function ∷ behind_driver p (r ∷ rs)) x
      ∙ (no_driver e (behind_driver p (r ∷ rs))
      ∙ (pass_none p (all_boxes (r ∷ rs) ++ behind_boxes p (r ∷ rs)) x none
      ∙ (skip_functions (all_boxes (r ∷ rs)) (behind_boxes p (r ∷ rs)) x (all_boxes_are (r ∷ rs))
      ∙ (pass_functions (all_made p (r ∷ rs)) (main_if (is_cps (function_named p main_name))) x made
      ∙ no_main)))))

  none_made : IsNamed p → has_marks x ≡ false → function_named (converted p) x ≡ None
  none_made ok h = none_among (routines p) (made_marked p ok x h) (unlike_driver x h)

-- ---- names that stay

no_cps : (mode : Mode) (r : Ty) (ps : List Ty) → I.is_cps (AFunction mode r ps) ≡ false → is_cps_mode mode ≡ false
no_cps Extern r ps e = refl
no_cps Native r ps e = refl
no_cps Detached r ps e = refl
no_cps Cps r ps e = absurd (cc)

pub codes_found : (p : Program) → HasNames p → IsNamed p → (x : Text) → Stays p x → Found (StaysAs p) (function_named p x) (function_named (converted p) x)
codes_found p names ok x s = go (function_named p x) refl
  where
    go : (o : Option Function) → function_named p x ≡ o → Found (StaysAs p) o (function_named (converted p) x)
    go None e = subst (λ u. Found (StaysAs p) None u) (sym (none_made p x e ok s.unmarked)) NoneFound
    go (Some f) e =
        let there = names.there x f e in
        let meant = ap (item_named 0 p) (sym there.1) ∙ (names.functions f there.0).meant in
        let c = no_cps f.mode f.result _ (sym (ap I.is_cps meant) ∙ s.not_cps) in
        subst (λ u. Found (StaysAs p) (Some f) u) (sym (kept_named p names ok x f e c))
        (BothFound f (kept_function f) (record { kept = kept_there p names x f e c; same = refl }) (record { result = refl; parameters = refl }))
