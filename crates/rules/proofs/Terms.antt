-- Terms: their types are one, and go along to a finer environment by the core's law.
use Rattle.std.proofs.Common.{◌≡◌, ℕ, List, [], ◌∷◌, sym, refl, subst, ap₂}
use Rattle.types.specs.Types.{at, Ty}
use Rattle.cores.specs.Meaning.{Outcome, Stable}
use Rattle.cores.specs.declared.interface.Operation.{Operation}
use Rattle.cores.specs.declared.interface.Operation.TheVariants.{Literal, Function, Operator}
use Rattle.rules.specs.Signatures.{a_value, value}
use Rattle.rules.specs.Lookup.{Env, Has, Normal}
use Rattle.rules.specs.Syntax.{Term, Terms}
use Rattle.rules.specs.Rules.{TermHas, of_variable, of_component, of_integer, of_operation, of_lambda, TermsHave, none_have, more_have}
use Rattle.rules.proofs.Algebra.{path_id, type_id}
use Rattle.rules.proofs.Finding.{has_unique, normal_unique}
use Rattle.rules.proofs.Along.{value_along}
use Rattle.rules.proofs.Transitive.{Knows, knows_laws}
use Rattle.rules.proofs.Knowing.{Along, normal_finer}
use Rattle.rules.proofs.Leaves.{Normals, no_normals, more_normals, rule_along}

module _ {C : Type 0} (n : ℕ) (rule : Operation → List Ty → Outcome C) (law : Stable n rule) where
  mutual
    pub term_finer :
        {Γ' : Env} {Δ : List Ty} {t : Term} {u : Ty} → TermHas rule Γ' Δ t u → (Γ : Env) → Along at Γ' Γ →
        (m : Ty) × TermHas rule Γ Δ t m × Normal Γ u m
    term_finer (of_variable t e a) Γ k = let w = normal_finer k a in (w.0, of_variable t e w.1, w.2)
    term_finer (of_component {p = p} {x = x} t h a) Γ k =
        let w = normal_finer k a in
        let v = value_along Knows knows_laws h at Γ k w.0 (subst (λ z. Normal Γ z w.0) (sym (type_id t)) w.1) in
        (w.0, of_component v.0 (subst (λ q. Has Γ q a_value x (value v.0)) (path_id p) v.1) v.2, w.2)
    term_finer (of_integer {n = u} e) Γ k =
        let w = rule_along n rule law {Γ = Γ} no_normals Literal u e in (w.0, of_integer w.1, w.2)
    term_finer (of_operation {k = o} {n = u} ns hs e) Γ k =
        let v = terms_finer hs Γ k in
        let w = rule_along n rule law v.2 (Operator o) u e in
        (w.0, of_operation v.0 v.1 w.1, w.2)
    term_finer (of_lambda {n = u} a r b h e) Γ k =
        let v = normal_finer k b in
        let y = term_finer h Γ k in
        let w = rule_along n rule law (more_normals v.2 (more_normals y.2 no_normals)) Function u e in
        (w.0, of_lambda v.0 y.0 v.1 y.1 w.1, w.2)

    terms_finer :
        {Γ' : Env} {Δ : List Ty} {ts : Terms} {us : List Ty} → TermsHave rule Γ' Δ ts us → (Γ : Env) → Along at Γ' Γ →
        (ms : List Ty) × TermsHave rule Γ Δ ts ms × Normals Γ us ms
    terms_finer none_have Γ k = ([], none_have, no_normals)
    terms_finer (more_have h hs) Γ k =
        let w = term_finer h Γ k in
        let v = terms_finer hs Γ k in
        (w.0 ∷ v.0, more_have w.1 v.1, more_normals w.2 v.2)

-- one type
module _ {C : Type 0} (rule : Operation → List Ty → Outcome C) where
  mutual
    pub term_unique : {Γ : Env} {Δ : List Ty} {t : Term} {u u' : Ty} → TermHas rule Γ Δ t u → TermHas rule Γ Δ t u' → u ≡ u'
    term_unique {Γ} {u' = u'} (of_variable t e a) (of_variable t' e' a') =
        let q : t' ≡ t = cc in normal_unique a (subst (λ z. Normal Γ z u') q a')
    term_unique {Γ} {u' = u'} (of_component t h a) (of_component t' h' a') =
        let i = has_unique h' h in
        let q : t' ≡ t = cc in
        normal_unique a (subst (λ z. Normal Γ z u') q a')
    term_unique (of_integer e) (of_integer e') = cc
    term_unique (of_operation ns hs e) (of_operation ns' hs' e') = let q = terms_unique hs hs' in cc
    term_unique (of_lambda a r b h e) (of_lambda a' r' b' h' e') =
        let q = normal_unique b b' in
        let i = term_unique h h' in
        cc

    pub terms_unique : {Γ : Env} {Δ : List Ty} {ts : Terms} {us us' : List Ty} → TermsHave rule Γ Δ ts us → TermsHave rule Γ Δ ts us' → us ≡ us'
    terms_unique none_have none_have = refl
    terms_unique (more_have h hs) (more_have h' hs') = ap₂ (λ a b. a ∷ b) (term_unique h h') (terms_unique hs hs')
