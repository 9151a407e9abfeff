-- Tables that grow, and what names mean in them.
use Rattle.std.proofs.Common.{◌≡◌, ℕ, ◌<◌, ◌≤◌, inl, inr, [], ◌∷◌, ◌++◌, length, get_or, true, false, cond, refl, sym, ap, ◌∙◌, arith, append_assoc, length-append}
use Rattle.std.specs.Prelude.{bytes_eq}
use Rattle.std.specs.List.{list_any}
use Rattle.std.proofs.lemmas.List.{append-nil, get_or_past}
use Rattle.std.proofs.Math.ListN.{get_or-append}
use Rattle.std.proofs.lemmas.Bool.{cases_lt}
use Rattle.cpc_convert_common.specs.Converted.{marked}
use Rattle.cpc_base.specs.Bytes.{Text}
use Rattle.cpc_base.specs.Texts.{with_text}
use Rattle.cpc_base.specs.declared.names.Name.{Name}
use Rattle.cpc_tree.specs.Erase.{Names, Table, in_table}
use Rattle.cpc_convert_names.specs.Tables.{HasGrown, Spells}

pub grown_none : (a : Table) → HasGrown a a
grown_none a = record { more = []; is = sym (append-nil a) }

pub grown_more : (a b c : Table) → HasGrown a b → HasGrown b c → HasGrown a c
grown_more a b c g h = record { more = g.more ++ h.more; is = h.is ∙ (ap (λ u. u ++ h.more) g.is ∙ append_assoc a g.more h.more) }

pub text_grows : (a : Table) (text : Text) → HasGrown a (with_text a text)
text_grows a text = elim (list_any (bytes_eq text) a) as (λ p. HasGrown a (cond p a (a ++ text ∷ []))) [ true ↦ grown_none a | false ↦ record { more = text ∷ []; is = refl } ]

-- a name of the first table means the same in one that has grown
pub same_below : (a b : Table) → HasGrown a b → (n : Name) → n.0 < length a → in_table b n ≡ in_table a n
same_below a b g n lt = ap (λ u. get_or u n.0 []) g.is ∙ get_or-append a g.more [] n.0 lt

length_grown : (a b : Table) → HasGrown a b → length a ≤ length b
length_grown a b g = omega (arith, ap length g.is, length-append a g.more)

pub spells_before : (a b : Table) (to : Names) → HasGrown a b → Spells b to → Spells a to
spells_before a b to g s = record { spelled = λ n lt. s.spelled n (omega (arith, length_grown a b g)) ∙ same_below a b g n lt }

-- a name that the source's table and the spelling read alike is read alike in each table between
pub read_there : (source now later : Table) (to : Names) → HasGrown source now → HasGrown now later → Spells later to → (n : Name) → in_table source n ≡ to n → in_table now n ≡ to n
read_there source now later to g h s n e = elim (cases_lt n.0 (length now)) [
  | inl lt ↦ sym ((spells_before now later to h s).spelled n lt)
  | inr le ↦ get_or_past now n.0 [] le ∙ (sym (get_or_past source n.0 [] (omega (arith, length_grown source now g))) ∙ e)
]

-- ---- names that are made of others

pub marked_is : (source now later : Table) (to : Names) (of made : Name) (rest text : Text) → HasGrown source now → HasGrown now later → Spells later to → in_table source of ≡ to of
    → text ≡ (in_table now of ++ 95 ∷ 95 ∷ []) ++ rest → to made ≡ text → to made ≡ marked (to of) rest
marked_is source now later to of made rest text g h s e is m =
    m ∙ (is ∙ (append_assoc (in_table now of) (95 ∷ 95 ∷ []) rest ∙ ap (λ u. u ++ 95 ∷ 95 ∷ rest) (read_there source now later to g h s of e)))
