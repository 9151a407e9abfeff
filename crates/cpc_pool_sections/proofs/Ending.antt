-- The ends of sections: sections that are the same have the same, and a runner gives those of what was assigned.
use Rattle.std.proofs.Common.{◌≡◌, ℕ, List, Option, Some, None, Result, Ok, Err, subst, sym, map}
use Rattle.std.specs.Prelude.{IfOk}
use Rattle.cpc_base.specs.declared.names.Name.{Name}
use Rattle.cpc_base.specs.declared.stop.NoMemory.{NoMemory}
use Rattle.cpc_tree.specs.Erase.{Names, item_of}
use Rattle.cpc_tree.specs.declared.program.Program.{Program}
use Rattle.cpc_store.specs.declared.values.Value.{Value}
use Rattle.cpc_meaning.specs.Section as M
use Rattle.cpc_meaning.specs.Trees.{trees}
use Rattle.cpc_eval_values.specs.Shown.{value_of, values_of}
use Rattle.cpc_sections.specs.Jobs.{job_of, EndsAs}
use Rattle.cpc_sections.specs.declared.job.Job.{Job}
use Rattle.cpc_sections.specs.declared.job.SectionEnd.{SectionEnd}
use Rattle.cpc_run_sections.specs.NativeSectionsEnds.{IsEndOf}
use Rattle.cpc_run_sections.specs.Ends.{MayEnd}
use Rattle.cpc_pool_sections.specs.Same.{IsSameJob}

-- a job by its parts
told : Names → ℕ → Name → List Value → List Value → Value → M.Job
told names n f args cells p = record { number = n; function = names f; arguments = values_of names args; cells = values_of names cells; pointer = value_of names p }

same_parts : (names : Names) (P : M.Job → Type 0) (n m : ℕ) (f g : Name) (a b : List Value) (c d : List Value) (p q : Value) → n ≡ m → f ≡ g → a ≡ b → c ≡ d → p ≡ q → P (told names n f a c p) → P (told names m g b d q)
same_parts names P n m f g a b c d p q en ef ea ec ep h =
    subst (λ x. P (told names m g b d x)) ep (subst (λ x. P (told names m g b x p)) ec (subst (λ x. P (told names m g x c p)) ea (subst (λ x. P (told names m x a c p)) ef (subst (λ x. P (told names x f a c p)) en h))))

carried : (names : Names) (P : M.Job → Type 0) (j k : Job) → IsSameJob j k → P (job_of names j) → P (job_of names k)
unfolding told
carried names P j k s h = same_parts names P j.number k.number j.function k.function j.args.items k.args.items j.cells.items k.cells.items j.pointer k.pointer s.number s.function s.args s.cells s.pointer h

same_end : (p : Program) (bound : ℕ) (j k : Job) → IsSameJob j k → (e : SectionEnd) → IsEndOf p bound j e → IsEndOf p bound k e
same_end p bound j k s e h = record {
  told = λ names runs. carried names (λ x. EndsAs names e (M.section_end (trees (map (item_of names) p.items.items)) x bound)) j k s (h.told names runs);
  lawful = h.lawful;
}

-- an end that the first may have, the second may have
pub same_ends : (p : Option Program) (bound : ℕ) (j k : Job) → IsSameJob j k → (r : Result SectionEnd NoMemory) → MayEnd p bound j r → MayEnd p bound k r
same_ends None bound j k s r h = h
same_ends (Some p) bound j k s (Ok e) h = same_end p bound j k s e h
same_ends (Some p) bound j k s (Err w) h = h

-- from the program and the bound that a runner holds to those that were assigned
pub may_end : (p : Program) (assigned : Option Program) (bound most : ℕ) (j : Job) (r : Result SectionEnd NoMemory) → assigned ≡ Some p → most ≡ bound → IfOk r (IsEndOf p bound j) → MayEnd assigned most j r
may_end p assigned bound most j r program_is bound_is end = subst (λ (o : Option Program). MayEnd o most j r) (sym program_is) (subst (λ (n : ℕ). IfOk r (IsEndOf p n j)) (sym bound_is) end)
