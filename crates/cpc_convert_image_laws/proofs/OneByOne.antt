-- Arguments come to the same where each is converted before the next is evaluated, if all can be converted.
use Rattle.std.proofs.Common.{◌≡◌, List, [], ◌∷◌, refl, sym, ◌∙◌, ap, subst}
use Rattle.cpc_tree.specs.Syntax.{Ty, Exprs, NoExpr, AndExpr}
use Rattle.cpc_store.specs.Store.{Value}
use Rattle.cpc_meaning.specs.Answer.{Answer, Gives, Faults, NoAnswer, ◌>>=◌}
use Rattle.cpc_meaning.specs.Eval.{Context, value, values, assigned}
use Rattle.cpc_meaning.specs.Requests.{arguments}
use Rattle.cpc_convert_image_laws.specs.OneByOne.{AllConvert, OneByOne, NoneLeft, OneFaults, OneMore}

-- the first argument is converted before the others are evaluated
first_before : (c : Context) (t : Ty) (ts : List Ty) (es : Exprs) (v w : Value) → assigned t v ≡ Gives w → (b : Answer (List Value))
    → ((b >>= λ vs. Gives (v ∷ vs)) >>= arguments (t ∷ ts)) ≡ ((b >>= arguments ts) >>= λ ws. Gives (w ∷ ws))
first_before c t ts es v w e (Gives vs) = ap (λ a. a >>= λ w. arguments ts vs >>= λ ws. Gives (w ∷ ws)) e
first_before c t ts es v w e (Faults fault) = refl
first_before c t ts es v w e NoAnswer = refl

more_answers : (a : Answer (List Value)) (w : Value) → ¬ ((a >>= λ ws. Gives (w ∷ ws)) ≡ NoAnswer) → ¬ (a ≡ NoAnswer)
more_answers a w h e = h (ap (λ b. b >>= λ ws. Gives (w ∷ ws)) e)

pub one_by_one : (c : Context) (ts : List Ty) (es : Exprs) → AllConvert c ts es → ¬ ((values c es >>= arguments ts) ≡ NoAnswer) → OneByOne c ts es (values c es >>= arguments ts)
one_by_one c [] NoExpr h k = NoneLeft
one_by_one c (t ∷ ts) (AndExpr e es) h k = go (λ i. one_by_one c ts es h.1 i) (value c e) refl k
  where
    go : (¬ ((values c es >>= arguments ts) ≡ NoAnswer) → OneByOne c ts es (values c es >>= arguments ts)) → (a : Answer Value) → value c e ≡ a
        → ¬ (((a >>= λ v. values c es >>= λ vs. Gives (v ∷ vs)) >>= arguments (t ∷ ts)) ≡ NoAnswer) → OneByOne c (t ∷ ts) (AndExpr e es) ((a >>= λ v. values c es >>= λ vs. Gives (v ∷ vs)) >>= arguments (t ∷ ts))
    go rest (Faults fault) i k = OneFaults t ts e es fault i
    go rest NoAnswer i k = absurd (k refl)
    go rest (Gives v) i k =
        let w = h.0 v i in
        let same = first_before c t ts es v w.0 w.1 (values c es) in
        subst (OneByOne c (t ∷ ts) (AndExpr e es)) (sym same)
        (OneMore t ts e es v w.0 (values c es >>= arguments ts) i w.1 (rest (more_answers (values c es >>= arguments ts) w.0 (λ j. k (same ∙ j)))))
one_by_one c [] (AndExpr e es) h k = absurd (cc)
one_by_one c (t ∷ ts) NoExpr h k = absurd (cc)
