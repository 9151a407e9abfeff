-- A section that returned, with the cells of its copy.
use Rattle.std.proofs.Common.{◌≡◌, false, List, [], ◌∷◌, Option, Some, None, refl, sym, ap, subst, ◌∙◌}
use Rattle.std.specs.Prelude.{if◌then◌else◌}
use Rattle.std.specs.Global.{Vec}
use Rattle.std.specs.Option.{option_map}
use Rattle.std.proofs.lemmas.Simd.{map-map}
use Rattle.cpc_base.specs.declared.names.Name.{Name}
use Rattle.cpc_num.specs.declared.kinds.Fault.TheVariants as F
use Rattle.cpc_tree.specs.Erase.{Names}
use Rattle.cpc_store.specs.declared.values.Class.TheVariants.{Static}
use Rattle.cpc_store.specs.declared.values.Value as V
use Rattle.cpc_store.specs.Store.{ValueOf, Unset, Whole, Null, At, Code, Cond, StoreOf, cells_of}
use Rattle.cpc_store.specs.Seen.{seen}
use Rattle.cpc_store.specs.Codes.{map_value, map_cells}
use Rattle.cpc_store.proofs.CodeLemmas.{cells_of-map}
use Rattle.cpc_meaning.specs.Section as M
use Rattle.cpc_eval_values.specs.Shown.{value_of, values_of, store_of}
use Rattle.cpc_sections.specs.Jobs.{EndsAs}
use Rattle.cpc_sections.specs.Reads.{are_integers, ReadsAs}
use Rattle.cpc_sections.specs.declared.job.SectionEnd.TheVariants as E

all_map : (names : Names) (cells : List (ValueOf Name)) → M.all_integers (map_cells names cells) ≡ are_integers cells
all_map names [] = refl
all_map names (Unset ∷ vs) = all_map names vs
all_map names (Whole kind z ∷ vs) = all_map names vs
all_map names (Null ∷ vs) = refl
all_map names (At c n k ∷ vs) = refl
all_map names (Code f ∷ vs) = refl
all_map names (Cond n ∷ vs) = refl

module _ (names : Names) (s : StoreOf Name) (function : Name) (value : V.Value) where
  -- what the section came to, by the cells of its copy
  abbrev gave : Option (List (ValueOf Name)) → M.SectionEnd
  gave o = M.section_gave (names function) (value_of names value) (option_map (map_cells names) o)

  seen_so : M.section_gave (names function) (value_of names value) (M.copy_left false (store_of names s)) ≡ gave (cells_of Static 0 s)
  seen_so = ap (M.section_gave (names function) (value_of names value)) (cells_of-map names Static 0 s)

  integers : (read : Vec V.Value) (o : Option (List (ValueOf Name))) → ((cells : List (ValueOf Name)) → o ≡ Some cells → ReadsAs (Some read) cells) → EndsAs names (E.Gave value read) (gave o)
  integers read None h = tt
  integers read (Some cells) h =
      let r = h cells refl in
      let row : values_of names read.items ≡ map_cells names cells = sym (map-map (map_value names) seen read.items) ∙ ap (map_cells names) r.0 in
      subst (λ b. EndsAs names (E.Gave value read) (if b then M.Gave (value_of names value) (map_cells names cells) else M.Broke F.Kind (names function))) (sym (all_map names cells ∙ r.1)) (ap (M.Gave (value_of names value)) row)

  other : (o : Option (List (ValueOf Name))) → ((cells : List (ValueOf Name)) → o ≡ Some cells → ReadsAs None cells) → EndsAs names (E.Faulted F.Kind function) (gave o)
  other None h = tt
  other (Some cells) h = subst (λ b. EndsAs names (E.Faulted F.Kind function) (if b then M.Gave (value_of names value) (map_cells names cells) else M.Broke F.Kind (names function))) (sym (all_map names cells ∙ h cells refl)) refl

  pub read_end : (read : Vec V.Value) → ((cells : List (ValueOf Name)) → cells_of Static 0 s ≡ Some cells → ReadsAs (Some read) cells)
      → EndsAs names (E.Gave value read) (M.section_gave (names function) (value_of names value) (M.copy_left false (store_of names s)))
  read_end read h = subst (EndsAs names (E.Gave value read)) (sym seen_so) (integers read (cells_of Static 0 s) h)

  pub unread_end : ((cells : List (ValueOf Name)) → cells_of Static 0 s ≡ Some cells → ReadsAs None cells)
      → EndsAs names (E.Faulted F.Kind function) (M.section_gave (names function) (value_of names value) (M.copy_left false (store_of names s)))
  unread_end h = subst (EndsAs names (E.Faulted F.Kind function)) (sym seen_so) (other (cells_of Static 0 s) h)
