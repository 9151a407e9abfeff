-- What stands for what a definition collects, wherever that is clear.
use Rattle.std.proofs.Common.{◌≡◌, List, [], ◌∷◌, ◌++◌, refl, sym, ap, subst, ◌∙◌}
use Rattle.cpc_base.specs.Bytes.{Text}
use Rattle.cpc_num.specs.declared.kinds.Fault.{Fault}
use Rattle.cpc_tree.specs.Erase.{Names}
use Rattle.cpc_store.specs.Store.{Store, Value}
use Rattle.cpc_meaning.specs.Copies as C
use Rattle.cpc_meaning.specs.Section as M
use Rattle.cpc_sections.specs.Backs.{CollectsAs}
use Rattle.cpc_sections.specs.Jobs.{end_of, EndsAs}
use Rattle.cpc_sections.specs.declared.job.SectionEnd.{SectionEnd}
use Rattle.cpc_sections.proofs.Telling.{and_told}
use Rattle.cpc_run_jobs.specs.Telling.{behind}

-- what is the same stands for it
pub same_collects : (c d : C.Collected) → c ≡ d → CollectsAs c d
same_collects c (C.AllGave vs s) h = h
same_collects c (C.OneFailed fault f) h = h
same_collects c C.NotClear h = tt

pub collects_through : (c d e : C.Collected) → CollectsAs c d → CollectsAs d e → CollectsAs c e
collects_through c d (C.AllGave vs s) h k = subst (CollectsAs c) k h
collects_through c d (C.OneFailed fault f) h k = subst (CollectsAs c) k h
collects_through c d C.NotClear h k = tt

-- behind the same values
pub behind_both : (vs : List Value) (c d : C.Collected) → CollectsAs c d → CollectsAs (behind vs c) (behind vs d)
behind_both [] c d h = h
behind_both (v ∷ vs) c d h = and_told v (behind vs c) (behind vs d) (behind_both vs c d h)

pub behind_more : (vs : List Value) (v : Value) (c : C.Collected) → behind (vs ++ v ∷ []) c ≡ behind vs (C.and_value v c)
behind_more [] v c = refl
behind_more (w ∷ vs) v c = ap (C.and_value w) (behind_more vs v c)

pub behind_all : (vs : List Value) (s : Store) → behind vs (C.AllGave [] s) ≡ C.AllGave vs s
behind_all [] s = refl
behind_all (v ∷ vs) s = ap (C.and_value v) (behind_all vs s)

pub behind_failed : (vs : List Value) (fault : Fault) (f : Text) → behind vs (C.OneFailed fault f) ≡ C.OneFailed fault f
behind_failed [] fault f = refl
behind_failed (v ∷ vs) fault f = ap (C.and_value v) (behind_failed vs fault f)

-- what a section with the end of the code comes to stands for what it comes to with the end of the definition
pub ended_so : (names : Names) (rest : Store → C.Collected) (job : M.Job) (s : Store) (end : SectionEnd) (e : M.SectionEnd) (c : C.Collected)
    → EndsAs names end e → C.collected rest job s (end_of names end) ≡ c → CollectsAs c (C.collected rest job s e)
ended_so names rest job s end (M.Gave v cells) c h k = same_collects c (C.collected rest job s (M.Gave v cells)) (sym k ∙ ap (C.collected rest job s) h)
ended_so names rest job s end (M.Broke fault f) c h k = sym k ∙ ap (C.collected rest job s) h
ended_so names rest job s end M.NoEnd c h k = tt
