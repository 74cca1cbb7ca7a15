-- Written types and terms: what is answered stands for what the rules say, and a fault that is not size means that the rules say nothing.
use Rattle.std.proofs.Common.{◌≡◌, ℕ, zero, suc, Bool, true, false, cond, List, [], ◌∷◌, map, Some, None, Option, sym, refl, ap, ◌∙◌, subst, ap₂}
use Rattle.types.specs.Types.{Name, ModulePath, Leaf, named, numbered, Ty, leaf, label0, label1, label2, replace}
use Rattle.cores.specs.Meaning.{Outcome, gives, refuses, Stable}
use Rattle.cores.specs.declared.interface.Operation.{Operation}
use Rattle.cores.specs.declared.interface.Operation.TheVariants.{Literal, Function, Operator}
use Rattle.cores.specs.Rules.{map_same}
use Rattle.rules.specs.Lookup.{Env, Normal, bare, part, parts}
use Rattle.rules.specs.Soundness.{Leads}
use Rattle.rules.specs.Syntax.{TypeText, path_text, label_text0, label_text1, label_text2, type_of, Term, variable, component, integer, operation, lambda, Terms, no_terms, more_terms}
use Rattle.rules.specs.Rules.{pick, TermHas, of_variable, of_component, of_integer, of_operation, of_lambda, TermsHave, none_have, more_have}
use Rattle.rules.proofs.Finding.{normal_unique, normal_normal}
use Rattle.rules.proofs.Leaves.{Normals, no_normals, more_normals, rule_along, leaf_law, gives_is}
use Rattle.rules.proofs.Terms.{term_unique, terms_unique}
use Rattle.rules.proofs.Wording.{typed_leads}
use Rattle.checker.specs.Meanings.{Meaning, meant}
use Rattle.checker.specs.Scope.{Scope, type_at, value_at}
use Rattle.checker.specs.Numbered.{small_type}
use Rattle.checker.specs.Faults.{Fault, too_large, Answer, ok, fault, and_then, leads_to, ask_type}
use Rattle.checker.specs.Texts.{check_type}
use Rattle.checker.specs.Terms.{judged, check_term, check_terms}
use Rattle.checker.specs.Standing.{NoPaths, StandsFor, ScopeStands, Reached}
use Rattle.checker.specs.Statements.{NotSize, Good, TypeLeads, ValueLeads}
use Rattle.checker.proofs.Carrying.{part_of_lem, parts_of}
use Rattle.checker.proofs.Looking.{look_type, look_value}

-- a written type is answered rightly
abbrev pub TypeRight : {C : Type 0} → Answer C Ty → Ty → Env → Meaning → Type 0
TypeRight (ok n) t Γ ρ = StandsFor n t Γ ρ
TypeRight (fault e) t Γ ρ = NotSize e → Leads Γ t → ⊥

ask_type_right : (C : Type 0) (place : ℕ) (n t : Ty) (Γ : Env) (ρ : Meaning) → StandsFor n t Γ ρ → TypeRight {C = C} (ask_type place n) t Γ ρ
ask_type_right C place n t Γ ρ s = go (small_type n)
  where
    go : (b : Bool) → TypeRight {C = C} (cond b (ok n) (fault (too_large place))) t Γ ρ
    go true = s
    go false = λ q l. q refl

path_right : (C : Type 0) (place : ℕ) (o : Option Ty) (p : ModulePath) (x : Name) (Γ : Env) (ρ : Meaning) → TypeLeads o p x Γ ρ → TypeRight {C = C} (leads_to place o) (leaf (named p x)) Γ ρ
path_right C place None p x Γ ρ k = λ q l. k l.0 l.1
path_right C place (Some t) p x Γ ρ k = k

pub type_right : (C : Type 0) (G : Scope) (Γ : Env) (ρ : Meaning) → ScopeStands G Γ ρ → (t : TypeText) → TypeRight {C = C} (check_type G t) (type_of t) Γ ρ
type_right C G Γ ρ k (path_text place p x) = path_right C place (type_at G p x) p x Γ ρ (look_type G Γ ρ k p x)
type_right C G Γ ρ k (label_text0 place l) = ask_type_right C place (label0 l) (label0 l) Γ ρ (tt, bare)
type_right C G Γ ρ k (label_text1 place l t) = go (check_type G t) (type_right C G Γ ρ k t)
  where
    go : (a : Answer C Ty) → TypeRight {C = C} a (type_of t) Γ ρ → TypeRight {C = C} (and_then a (λ n. ask_type place (label1 l n))) (label1 l (type_of t)) Γ ρ
    go (ok n) s = ask_type_right C place (label1 l n) (label1 l (type_of t)) Γ ρ (s.0, part s.1)
    go (fault e) f = f
type_right C G Γ ρ k (label_text2 place l t u) = go (check_type G t) (type_right C G Γ ρ k t) (check_type G u) (type_right C G Γ ρ k u)
  where
    go :
        (a : Answer C Ty) → TypeRight {C = C} a (type_of t) Γ ρ → (b : Answer C Ty) → TypeRight {C = C} b (type_of u) Γ ρ →
        TypeRight {C = C} (and_then a (λ n. and_then b (λ m. ask_type place (label2 l n m)))) (label2 l (type_of t) (type_of u)) Γ ρ
    go (ok n) s (ok m) r = ask_type_right C place (label2 l n m) (label2 l (type_of t) (type_of u)) Γ ρ ((s.0, r.0), parts s.1 r.1)
    go (ok n) s (fault e) f = λ q i. f q i.1
    go (fault e) f b r = λ q i. f q i.0

-- calling is a replacement of leaves
naming : Meaning → Leaf → Ty
naming ρ (named p x) = leaf (named p x)
naming ρ (numbered n) = ρ n

meant_is : (ρ : Meaning) (t : Ty) → replace (naming ρ) t ≡ meant ρ t
unfolding naming
meant_is ρ (leaf (named p x)) = refl
meant_is ρ (leaf (numbered n)) = refl
meant_is ρ (label0 l) = refl
meant_is ρ (label1 l t) = ap (label1 l) (meant_is ρ t)
meant_is ρ (label2 l t u) = ap₂ (label2 l) (meant_is ρ t) (meant_is ρ u)

-- paths replaced by a label
forgetting : Leaf → Ty
forgetting (named p x) = label0 0
forgetting (numbered n) = leaf (numbered n)

abbrev pub NoPathsAll : List Ty → Type 0
NoPathsAll [] = Unit {0}
NoPathsAll (t ∷ ts) = NoPaths t × NoPathsAll ts

forget_none : (t : Ty) → NoPaths t → replace forgetting t ≡ t
unfolding forgetting
forget_none (leaf (named p x)) i = absurd i
forget_none (leaf (numbered n)) i = refl
forget_none (label0 l) i = refl
forget_none (label1 l t) i = ap (label1 l) (forget_none t i)
forget_none (label2 l t u) i = ap₂ (label2 l) (forget_none t i.0) (forget_none u i.1)

forget_all : (ts : List Ty) → NoPathsAll ts → map (replace forgetting) ts ≡ ts
forget_all [] i = refl
forget_all (t ∷ ts) i = ap₂ (λ a b. a ∷ b) (forget_none t i.0) (forget_all ts i.1)

forgotten : (t : Ty) → replace forgetting t ≡ t → NoPaths t
unfolding forgetting
forgotten (leaf (named p x)) e = cc
forgotten (leaf (numbered n)) e = tt
forgotten (label0 l) e = tt
forgotten (label1 l t) e = forgotten t (cc)
forgotten (label2 l t u) e = (forgotten t (cc), forgotten u (cc))

-- paths replaced by what the scope has there
abbrev pub or_label : Option Ty → Ty
or_label (Some t) = t
or_label None = label0 0

abbrev pub back : Scope → Leaf → Ty
back G (named p x) = or_label (type_at G p x)
back G (numbered n) = leaf (numbered n)

back_meant :
    (G : Scope) (Γ : Env) (ρ : Meaning) → Reached G Γ ρ → (t : Ty) → NoPaths t → Normal Γ (meant ρ t) (meant ρ t) → replace (back G) (meant ρ t) ≡ t
back_meant G Γ ρ r (leaf (named p x)) i m = absurd i
back_meant G Γ ρ r (leaf (numbered n)) i m =
    let w = r n m in ap (replace (back G)) w.2 ∙ ap or_label w.3
back_meant G Γ ρ r (label0 l) i m = refl
back_meant G Γ ρ r (label1 l t) i m = ap (label1 l) (back_meant G Γ ρ r t i (part_of_lem m l (meant ρ t) refl refl))
back_meant G Γ ρ r (label2 l t u) i m =
    let w = parts_of m l (meant ρ t) (meant ρ u) refl refl in
    ap₂ (label2 l) (back_meant G Γ ρ r t i.0 w.0) (back_meant G Γ ρ r u i.1 w.1)

good_none : (Γ : Env) (ρ : Meaning) (ts : List Ty) → Good Γ ρ ts → NoPathsAll ts
good_none Γ ρ [] g = tt
good_none Γ ρ (t ∷ ts) g = (g.0, good_none Γ ρ ts g.2)

good_normals : (Γ : Env) (ρ : Meaning) (ts : List Ty) → Good Γ ρ ts → Normals Γ (map (meant ρ) ts) (map (meant ρ) ts)
good_normals Γ ρ [] g = no_normals
good_normals Γ ρ (t ∷ ts) g = more_normals g.1 (good_normals Γ ρ ts g.2)

back_all : (G : Scope) (Γ : Env) (ρ : Meaning) → Reached G Γ ρ → (ts : List Ty) → Good Γ ρ ts → map (replace (back G)) (map (meant ρ) ts) ≡ ts
back_all G Γ ρ r [] g = refl
back_all G Γ ρ r (t ∷ ts) g = ap₂ (λ a b. a ∷ b) (back_meant G Γ ρ r t g.0 g.1) (back_all G Γ ρ r ts g.2)

never : {C : Type 0} (o : Outcome C) (c : C) (t : Ty) → o ≡ refuses c → o ≡ gives t → ⊥
never o c t e f = cc

-- the types of variables
abbrev pub Variables : List Ty → List Ty → Env → Meaning → Type 0
Variables [] [] Γ ρ = Unit {0}
Variables [] (u ∷ us) Γ ρ = ⊥
Variables (t ∷ ts) [] Γ ρ = ⊥
Variables (t ∷ ts) (u ∷ us) Γ ρ = StandsFor t u Γ ρ × Variables ts us Γ ρ

abbrev Picked : Option Ty → Option Ty → Env → Meaning → Type 0
Picked None None Γ ρ = Unit {0}
Picked None (Some u) Γ ρ = ⊥
Picked (Some t) None Γ ρ = ⊥
Picked (Some t) (Some u) Γ ρ = StandsFor t u Γ ρ

picked : (ts us : List Ty) (Γ : Env) (ρ : Meaning) → Variables ts us Γ ρ → (k : ℕ) → Picked (pick ts k) (pick us k) Γ ρ
picked [] [] Γ ρ v k = tt
picked [] (u ∷ us) Γ ρ v k = absurd v
picked (t ∷ ts) [] Γ ρ v k = absurd v
picked (t ∷ ts) (u ∷ us) Γ ρ v zero = v.0
picked (t ∷ ts) (u ∷ us) Γ ρ v (suc k) = picked ts us Γ ρ v.1 k

module _ {C : Type 0} (w : ℕ) (rule : Operation → List Ty → Outcome C) (law : Stable w rule) (G : Scope) (Γ : Env) (ρ : Meaning) (k : ScopeStands G Γ ρ) (r : Reached G Γ ρ) where
  -- what the rule gives for numbered types it gives for their names, and what it gives for these it gives for the numbered ones
  pub rule_named : (o : Operation) (ts : List Ty) (t : Ty) → Good Γ ρ ts → rule o ts ≡ gives t → (rule o (map (meant ρ) ts) ≡ gives (meant ρ t)) × Good Γ ρ (t ∷ [])
  rule_named o ts t g e =
      let named : rule o (map (meant ρ) ts) ≡ gives (meant ρ t) =
      ap (rule o) (sym (map_same (replace (naming ρ)) (meant ρ) (meant_is ρ) ts)) ∙ (leaf_law w rule law (naming ρ) o ts t e ∙ ap gives (meant_is ρ t)) in
      let forget : replace forgetting t ≡ t =
      gives_is {C = C} (replace forgetting t) t
      (sym (leaf_law w rule law forgetting o ts t e) ∙ (ap (rule o) (forget_all ts (good_none Γ ρ ts g)) ∙ e)) in
      let again = rule_along w rule law (good_normals Γ ρ ts g) o (meant ρ t) named in
      let one : again.0 ≡ meant ρ t = gives_is {C = C} again.0 (meant ρ t) (sym again.1 ∙ named) in
      (named, (forgotten t forget, subst (Normal Γ (meant ρ t)) one again.2, tt))

  pub rule_refused : (o : Operation) (ts : List Ty) (c : C) (u : Ty) → Good Γ ρ ts → rule o ts ≡ refuses c → rule o (map (meant ρ) ts) ≡ gives u → ⊥
  rule_refused o ts c u g e f =
      never (rule o ts) c (replace (back G) u) e
      (ap (rule o) (sym (back_all G Γ ρ r ts g)) ∙ leaf_law w rule law (back G) o (map (meant ρ) ts) u f)

  -- a term is answered rightly
  abbrev pub TermRight : Answer C Ty → List Ty → Term → Type 0
  TermRight (ok n) Δ t = TermHas rule Γ Δ t (meant ρ n) × Good Γ ρ (n ∷ [])
  TermRight (fault e) Δ t = NotSize e → (u : Ty) → TermHas rule Γ Δ t u → ⊥

  abbrev TermsRight : Answer C (List Ty) → List Ty → Terms → Type 0
  TermsRight (ok ns) Δ ts = TermsHave rule Γ Δ ts (map (meant ρ) ns) × Good Γ ρ ns
  TermsRight (fault e) Δ ts = NotSize e → (us : List Ty) → TermsHave rule Γ Δ ts us → ⊥

  -- what the rule says of arguments whose types are known
  judged_right :
      (place : ℕ) (o : Operation) (ns : List Ty) (Δ : List Ty) (t : Term) → Good Γ ρ ns →
      ((u : Ty) → rule o (map (meant ρ) ns) ≡ gives u → TermHas rule Γ Δ t u) →
      ((u : Ty) → TermHas rule Γ Δ t u → rule o (map (meant ρ) ns) ≡ gives u) →
      TermRight (judged place (rule o ns)) Δ t
  judged_right place o ns Δ t g f h = go (rule o ns) refl
    where
      small : (n : Ty) → TermHas rule Γ Δ t (meant ρ n) → Good Γ ρ (n ∷ []) → (b : Bool) → TermRight (cond b (ok n) (fault (too_large place))) Δ t
      small n a d true = (a, d)
      small n a d false = λ q. absurd (q refl)

      go : (x : Outcome C) → rule o ns ≡ x → TermRight (judged place x) Δ t
      go (gives n) e = let v = rule_named o ns n g e in small n (f (meant ρ n) v.0) v.1 (small_type n)
      go (refuses c) e = λ q u a. rule_refused o ns c u g e (h u a)

  variable_right : (place j : ℕ) (o o' : Option Ty) (Δ : List Ty) → pick Δ j ≡ o' → Picked o o' Γ ρ → TermRight (leads_to place o) Δ (variable place j)
  variable_right place j None None Δ e p = λ q u a. nothing u a
    where
      nothing : (u : Ty) → TermHas rule Γ Δ (variable place j) u → ⊥
      nothing u (of_variable t f m) = cc
  variable_right place j None (Some u) Δ e p = absurd p
  variable_right place j (Some t) None Δ e p = absurd p
  variable_right place j (Some t) (Some u) Δ e p = (of_variable u e p.1, (p.0, normal_normal p.1, tt))

  component_right : (place : ℕ) (o : Option Ty) (p : ModulePath) (x : Name) (Δ : List Ty) → ValueLeads o p x Γ ρ → TermRight (leads_to place o) Δ (component place p x)
  component_right place None p x Δ v = λ q u a. nothing u a
    where
      nothing : (u : Ty) → TermHas rule Γ Δ (component place p x) u → ⊥
      nothing u (of_component t h m) = v t h
  component_right place (Some t) p x Δ v = (of_component v.0 v.1 v.2.1, (v.2.0, normal_normal v.2.1, tt))

  integer_of : (place : ℕ) (Δ : List Ty) (u : Ty) → TermHas rule Γ Δ (integer place) u → rule Literal [] ≡ gives u
  integer_of place Δ u (of_integer e) = e

  operation_of :
      (place j : ℕ) (ts : Terms) (Δ ns : List Ty) → TermsHave rule Γ Δ ts ns → (u : Ty) → TermHas rule Γ Δ (operation place j ts) u → rule (Operator j) ns ≡ gives u
  operation_of place j ts Δ ns h u (of_operation ms h' e) = ap (rule (Operator j)) (terms_unique rule h h') ∙ e

  operation_right : (place j : ℕ) (ts : Terms) (Δ : List Ty) (a : Answer C (List Ty)) → TermsRight a Δ ts → TermRight (and_then a (λ ns. judged place (rule (Operator j) ns))) Δ (operation place j ts)
  operation_right place j ts Δ (ok ns) h =
      judged_right place (Operator j) ns Δ (operation place j ts) h.1 (λ u e. of_operation (map (meant ρ) ns) h.0 e) (operation_of place j ts Δ (map (meant ρ) ns) h.0)
  operation_right place j ts Δ (fault e) h = λ q u a. nothing q u a
    where
      nothing : NotSize e → (u : Ty) → TermHas rule Γ Δ (operation place j ts) u → ⊥
      nothing q u (of_operation ms h' e') = h q ms h'

  lambda_right :
      (place : ℕ) (t : TypeText) (b : Term) (Δ' Δ : List Ty) (a : Answer C Ty) → TypeRight {C = C} a (type_of t) Γ ρ →
      ((n : Ty) → StandsFor n (type_of t) Γ ρ → TermRight (check_term rule G (n ∷ Δ') b) (type_of t ∷ Δ) b) →
      TermRight (and_then a (λ n. and_then (check_term rule G (n ∷ Δ') b) (λ m. judged place (rule Function (n ∷ m ∷ []))))) Δ (lambda place t b)
  lambda_right place t b Δ' Δ (fault e) h ih = λ q u a. nothing q u a
    where
      nothing : NotSize e → (u : Ty) → TermHas rule Γ Δ (lambda place t b) u → ⊥
      nothing q u (of_lambda n m i j e') = h q (typed_leads i)
  lambda_right place t b Δ' Δ (ok n) h ih = go (check_term rule G (n ∷ Δ') b) (ih n h)
    where
      inverse : (m : Ty) → TermHas rule Γ (type_of t ∷ Δ) b (meant ρ m) → (u : Ty) → TermHas rule Γ Δ (lambda place t b) u → rule Function (meant ρ n ∷ meant ρ m ∷ []) ≡ gives u
      inverse m d u (of_lambda n' m' i j e) =
          ap₂ (λ a c. rule Function (a ∷ c ∷ [])) (normal_unique h.1 i) (term_unique rule d j) ∙ e

      nothing : (e : Fault C) → (NotSize e → (u : Ty) → TermHas rule Γ (type_of t ∷ Δ) b u → ⊥) → NotSize e → (u : Ty) → TermHas rule Γ Δ (lambda place t b) u → ⊥
      nothing e d q u (of_lambda n' m' i j e') = d q m' j

      go : (a : Answer C Ty) → TermRight a (type_of t ∷ Δ) b → TermRight (and_then a (λ m. judged place (rule Function (n ∷ m ∷ [])))) Δ (lambda place t b)
      go (ok m) d =
          judged_right place Function (n ∷ m ∷ []) Δ (lambda place t b) (h.0, normal_normal h.1, d.1)
          (λ u e. of_lambda (meant ρ n) (meant ρ m) h.1 d.0 e) (inverse m d.0)
      go (fault e) d = nothing e d

  more_terms_right :
      (t : Term) (ts : Terms) (Δ : List Ty) (a : Answer C Ty) → TermRight a Δ t → (b : Answer C (List Ty)) → TermsRight b Δ ts →
      TermsRight (and_then a (λ n. and_then b (λ ns. ok (n ∷ ns)))) Δ (more_terms t ts)
  more_terms_right t ts Δ (ok n) h (ok ns) i = (more_have h.0 i.0, (h.1.0, h.1.1, i.1))
  more_terms_right t ts Δ (ok n) h (fault e) i = λ q us a. nothing q us a
    where
      nothing : NotSize e → (us : List Ty) → TermsHave rule Γ Δ (more_terms t ts) us → ⊥
      nothing q us (more_have {ns = ns} a as') = i q ns as'
  more_terms_right t ts Δ (fault e) h b i = λ q us a. nothing q us a
    where
      nothing : NotSize e → (us : List Ty) → TermsHave rule Γ Δ (more_terms t ts) us → ⊥
      nothing q us (more_have {n = n} a as') = h q n a

  mutual
    pub term_right : (t : Term) (Δ' Δ : List Ty) → Variables Δ' Δ Γ ρ → TermRight (check_term rule G Δ' t) Δ t
    term_right (variable place j) Δ' Δ v = variable_right place j (pick Δ' j) (pick Δ j) Δ refl (picked Δ' Δ Γ ρ v j)
    term_right (component place p x) Δ' Δ v = component_right place (value_at G p x) p x Δ (look_value G Γ ρ k p x)
    term_right (integer place) Δ' Δ v = judged_right place Literal [] Δ (integer place) tt (λ u e. of_integer e) (integer_of place Δ)
    term_right (operation place j ts) Δ' Δ v = operation_right place j ts Δ (check_terms rule G Δ' ts) (terms_right ts Δ' Δ v)
    term_right (lambda place t b) Δ' Δ v =
        lambda_right place t b Δ' Δ (check_type G t) (type_right C G Γ ρ k t) (λ n s. term_right b (n ∷ Δ') (type_of t ∷ Δ) (s, v))

    terms_right : (ts : Terms) (Δ' Δ : List Ty) → Variables Δ' Δ Γ ρ → TermsRight (check_terms rule G Δ' ts) Δ ts
    terms_right no_terms Δ' Δ v = (none_have, tt)
    terms_right (more_terms t ts) Δ' Δ v =
        more_terms_right t ts Δ (check_term rule G Δ' t) (term_right t Δ' Δ v) (check_terms rule G Δ' ts) (terms_right ts Δ' Δ v)
