-- A fault tells a question that the text asks and that is answered no.
use Rattle.std.proofs.Common.{◌≡◌, ℕ, zero, suc, ◌+◌, Bool, true, false, List, [], ◌∷◌, map, Some, None, Ok, Err, Option, Result, sym, refl, ap, ◌∙◌, subst, le_refl, arith}
use Rattle.std.specs.Option.{is_none}
use Rattle.types.specs.Types.{Name, Head, ModulePath, named, Ty, leaf, label0, label1, label2}
use Rattle.cores.specs.Meaning.{Outcome, gives, refuses, Stable}
use Rattle.cores.specs.declared.interface.Operation.{Operation}
use Rattle.cores.specs.declared.interface.Operation.TheVariants.{Literal, Function, Operator}
use Rattle.rules.specs.Signatures.{a_type, a_value, Signature, structure, functor, Components, more, Declaration, abstract, defined, value, nested, sort_of, find, extent}
use Rattle.rules.specs.Substitution.{under, reading, on_signature}
use Rattle.rules.specs.Lookup.{Env, extend, At, Normal}
use Rattle.rules.specs.Strengthening.{strengthen}
use Rattle.rules.specs.Syntax.{TypeText, path_text, label_text0, label_text1, label_text2, type_of, SignatureText, sig_text, functor_text, SpecTexts, no_specs, more_specs, SpecText, abstract_spec, defined_spec, value_spec, module_spec, signature_of, components_of, declaration_of, Term, variable, component, integer, operation, lambda, Terms, no_terms, more_terms, Module, module_path, struct, functor_of, applied, ascribed, Items, no_items, more_items, Item, type_item, let_item, module_item}
use Rattle.rules.specs.Rules.{pick, item_sort}
use Rattle.rules.specs.Checker.{and_then, declared, lookup, put, normal_type, normal_value, normalize}
use Rattle.rules.specs.Sizes.{signature_size, components_size, small_type, small_signature, in_numbers, Laid, AllNormal, none_normal, more_normal}
use Rattle.rules.specs.Rules.{TermHas, TermsHave, none_have, more_have}
use Rattle.rules.specs.Faults.{Mismatch, Fault, no_way, refused_types, no_functor, no_match, too_large, twice, next, must, must_not, within, run_type, run_signature, run_specs, run_spec, mismatch, matched, told, ask, run_term, run_terms, run_path, run_apply, run_module, run_items, run_item}
use Rattle.rules.specs.Refusals.{Question, to_type, to_value, to_module, to_variable, of_core, of_functor, of_match, of_type, of_signature, of_name, No, no_type, no_value, no_module, no_variable, core_refuses, applied_structure, fails_first, type_over, signature_over, declared_before, TypeAsks, path, path_size, plain_size, part, part_size, first, second, parts_size, SignatureAsks, specs, specs_size, parameter, result, functor_text_size, SpecsAsk, spec_before, spec_new, spec_last, SpecAsks, in_defined, in_value, in_module, TermAsks, ask_variable, ask_value, ask_literal, literal_size, in_arguments, ask_operator, operator_size, in_parameter, in_body, ask_function, function_size, TermsAsk, in_first, in_later, PathAsks, ask_module, module_size, ModuleAsks, of_path, in_items, struct_size, in_parameter_signature, in_functor_body, functor_size, in_applied, in_argument, ask_functor, argument_matches, result_size, in_ascribed, in_signature, module_matches, ItemsAsk, item_before, item_new, item_last, ItemAsks, in_type_item, in_let_item, in_module_item}
use Rattle.rules.proofs.Inner.{Fits, Gives, Proper}
use Rattle.rules.proofs.Transitive.{knows_gives, fits_trans}
use Rattle.rules.proofs.Knowing.{reading_along, id_along}
use Rattle.rules.proofs.Terms.{term_finer, term_unique}
use Rattle.rules.proofs.Properness.{proper_at, proper_along}
use Rattle.rules.proofs.Strengthened.{proper_strengthen, strengthened_gives}
use Rattle.rules.proofs.Settling.{Settled, SettledEnv, settled_proper, settled_env_proper, settled_extend, settled_has, lookup_at, at_lookup, has_declared, normal_type_lem, type_normal, then_some, then_is}
use Rattle.rules.proofs.Normalizing.{NormalOf, normalize_is, normalize_proper, normalize_all_is}
use Rattle.rules.proofs.Deciding.{match_tells}
use Rattle.rules.proofs.Checking.{check_checks, check_all_checks, type_has, types_have}
use Rattle.rules.proofs.Mirror.{mismatch_is, type_agrees, signature_agrees, specs_agree, module_agrees, items_agree, term_agrees, terms_agree, ok_some}
use Rattle.rules.proofs.Failing.{failure_first}
use Rattle.rules.proofs.Numbering.{numbers_give, laid_later, laid_extend}

-- where a step is refused
next_err :
    {A B E : Type 0} (r : Result A E) (f : A → Result B E) (e : E) → next r f ≡ Err e → (P : Type 0) →
    (r ≡ Err e → P) → ((a : A) → r ≡ Ok a → f a ≡ Err e → P) → P
next_err (Ok a) f e q P l k = k a refl q
next_err (Err x) f e q P l k = let i : x ≡ e = cc in l (ap Err i)

must_err : {A E : Type 0} (x : E) (o : Option A) (e : E) → must x o ≡ Err e → (o ≡ None) × (x ≡ e)
must_err x None e q = (refl, cc)
must_err x (Some a) e q = cc

within_err : {A E : Type 0} (b : Bool) (x : E) (a : A) (e : E) → within b x a ≡ Err e → (b ≡ false) × (x ≡ e)
within_err true x a e q = cc
within_err false x a e q = (refl, cc)

must_not_err :
    {A B E : Type 0} (x : E) (o : Option A) (r : Result B E) (e : E) → must_not x o r ≡ Err e → (P : Type 0) →
    ((a : A) → o ≡ Some a → x ≡ e → P) → (r ≡ Err e → P) → P
must_not_err x None r e q P l k = k q
must_not_err x (Some a) r e q P l k = l a refl (cc)

matched_err :
    {A C : Type 0} (place : ℕ) (o : Option Mismatch) (r : Result A (Fault C)) (e : Fault C) → matched place o r ≡ Err e → (P : Type 0) →
    ((m : Mismatch) → o ≡ Some m → no_match place m ≡ e → P) → (o ≡ None → r ≡ Err e → P) → P
matched_err place None r e q P l k = k refl q
matched_err place (Some m) r e q P l k = l m refl (cc)

-- a normal form that is missing
put_none : (p : ModulePath) (x : Name) (o : Option Declaration) → put p x o ≡ None → (d : Declaration) → o ≡ Some d → sort_of d ≡ a_type → ⊥
put_none p x o q abstract e s = cc
put_none p x o q (defined t) e s = cc
put_none p x o q (value t) e s = cc
put_none p x o q (nested t) e s = cc

module _ {C : Type 0} (n : ℕ) (rule : Operation → List Ty → Outcome C) (law : Stable n rule) where
  -- the answer for a kind of text
  abbrev Told : (Question → Type 0) → Fault C → Type 0
  Told A f = (q : Question) × A q × No rule q f

  type_size : {A : Question → Type 0} (place : ℕ) (t : Ty) (f : Fault C) → A (of_type place t) → within (small_type t) (too_large place) t ≡ Err f → Told A f
  type_size {A} place t f a q =
      let w = within_err (small_type t) (too_large place) t f q in
      (of_type place t, a, subst (No rule (of_type place t)) w.1 (type_over w.0))

  signature_size_lem : {A : Question → Type 0} (place : ℕ) (s : Signature) (f : Fault C) → A (of_signature place s) → within (small_signature s) (too_large place) s ≡ Err f → Told A f
  signature_size_lem {A} place s f a q =
      let w = within_err (small_signature s) (too_large place) s f q in
      (of_signature place s, a, subst (No rule (of_signature place s)) w.1 (signature_over w.0))

  map_told : {A B : Question → Type 0} {f : Fault C} → ((q : Question) → A q → B q) → Told A f → Told B f
  map_told k w = (w.0, k w.0 w.1, w.2)

  type_told : (t : TypeText) (Γ : Env) (f : Fault C) → SettledEnv Γ → run_type Γ t ≡ Err f → Told (TypeAsks C Γ t) f
  type_told (path_text place p x) Γ f e q =
      next_err (must (no_way place) (normal_type Γ (leaf (named p x)))) (λ n. within (small_type n) (too_large place) n) f q (Told (TypeAsks C Γ (path_text place p x)) f)
      (λ r.
      let w = must_err (no_way place) (normal_type Γ (leaf (named p x))) f r in (
        to_type Γ place p x,
        path,
        subst (No rule (to_type Γ place p x)) w.1
            (no_type (λ d h. put_none p x (declared p a_type x (lookup Γ p)) w.0 d (has_declared h) (Rattle.rules.proofs.Properness.has_sort h))),
      ))
      (λ a r s. type_size place a f (path_size a (some_of place (normal_type Γ (leaf (named p x))) a r)) s)
    where
      some_of : (place : ℕ) (o : Option Ty) (a : Ty) → must {E = Fault C} (no_way place) o ≡ Ok a → o ≡ Some a
      some_of place None a r = cc
      some_of place (Some b) a r = cc
  type_told (label_text0 place l) Γ f e q = type_size place (label0 l) f plain_size q
  type_told (label_text1 place l t) Γ f e q =
      next_err (run_type Γ t) (λ n. within (small_type (label1 l n)) (too_large place) (label1 l n)) f q (Told (TypeAsks C Γ (label_text1 place l t)) f)
      (λ r. map_told (λ q. part) (type_told t Γ f e r))
      (λ a r s. type_size place (label1 l a) f (part_size a r) s)
  type_told (label_text2 place l t u) Γ f e q =
      next_err (run_type Γ t) (λ n. next (run_type Γ u) (λ m. within (small_type (label2 l n m)) (too_large place) (label2 l n m))) f q (Told (TypeAsks C Γ (label_text2 place l t u)) f)
      (λ r. map_told (λ q. first) (type_told t Γ f e r))
      (λ a r s.
      next_err (run_type Γ u) (λ m. within (small_type (label2 l a m)) (too_large place) (label2 l a m)) f s (Told (TypeAsks C Γ (label_text2 place l t u)) f)
      (λ r'. map_told (λ q. second a r) (type_told u Γ f e r'))
      (λ b r' s'. type_size place (label2 l a b) f (parts_size a b r r') s'))

  -- what is accepted is in normal form
  signature_settled : (s : SignatureText) (Γ : Env) (a : Signature) → SettledEnv Γ → run_signature {C = C} Γ s ≡ Ok a → NormalOf Γ (signature_of s) a
  signature_settled s Γ a e r = normalize_is (signature_of s) Γ a e (ok_some (signature_agrees s Γ) a r)

  specs_settled : (c : SpecTexts) (Γ : Env) (b : Components) → SettledEnv Γ → run_specs {C = C} Γ c ≡ Ok b → SettledEnv (extend Γ (structure b))
  specs_settled c Γ b e r = settled_extend Γ (structure b) e (normalize_all_is (components_of c) Γ b e (ok_some (specs_agree c Γ) b r)).settled

  mutual
    signature_told : (s : SignatureText) (Γ : Env) (f : Fault C) → SettledEnv Γ → run_signature Γ s ≡ Err f → Told (SignatureAsks C Γ s) f
    signature_told (sig_text place c) Γ f e q =
        next_err (run_specs Γ c) (λ b. within (small_signature (structure b)) (too_large place) (structure b)) f q (Told (SignatureAsks C Γ (sig_text place c)) f)
        (λ r. map_told (λ q. specs) (specs_told c Γ f e r))
        (λ b r s. signature_size_lem place (structure b) f (specs_size b r) s)
    signature_told (functor_text place s t) Γ f e q =
        next_err (run_signature Γ s) (λ a. next (run_signature (extend Γ a) t) (λ b. within (small_signature (functor a b)) (too_large place) (functor a b))) f q
        (Told (SignatureAsks C Γ (functor_text place s t)) f)
        (λ r. map_told (λ q. parameter) (signature_told s Γ f e r))
        (λ a r u.
        next_err (run_signature (extend Γ a) t) (λ b. within (small_signature (functor a b)) (too_large place) (functor a b)) f u
        (Told (SignatureAsks C Γ (functor_text place s t)) f)
        (λ r'. map_told (λ q. result a r) (signature_told t (extend Γ a) f (settled_extend Γ a e (signature_settled s Γ a e r).settled) r'))
        (λ b r' u'. signature_size_lem place (functor a b) f (functor_text_size a b r r') u'))

    specs_told : (c : SpecTexts) (Γ : Env) (f : Fault C) → SettledEnv Γ → run_specs Γ c ≡ Err f → Told (SpecsAsk C Γ c) f
    specs_told no_specs Γ f e q = cc
    specs_told (more_specs c x d) Γ f e q =
        next_err (run_specs Γ c)
        (λ b. must_not (twice x) (find (sort_of (declaration_of d)) x (components_of c)) (next (run_spec (extend Γ (structure b)) d) (λ y. Ok (more b x y)))) f q
        (Told (SpecsAsk C Γ (more_specs c x d)) f)
        (λ r. map_told (λ q. spec_before) (specs_told c Γ f e r))
        (λ b r s.
        must_not_err (twice x) (find (sort_of (declaration_of d)) x (components_of c)) (next (run_spec (extend Γ (structure b)) d) (λ y. Ok (more b x y))) f s
        (Told (SpecsAsk C Γ (more_specs c x d)) f)
        (λ y i j. (
          of_name (sort_of (declaration_of d)) x (components_of c),
          spec_new b r,
          subst (No rule (of_name (sort_of (declaration_of d)) x (components_of c))) j (declared_before y i),
        ))
        (λ s'.
        next_err (run_spec (extend Γ (structure b)) d) (λ y. Ok (more b x y)) f s' (Told (SpecsAsk C Γ (more_specs c x d)) f)
        (λ r'. map_told (λ q. spec_last b r) (spec_told d (extend Γ (structure b)) f (specs_settled c Γ b e r) r'))
        (λ y r' s''. cc)))

    spec_told : (d : SpecText) (Γ : Env) (f : Fault C) → SettledEnv Γ → run_spec Γ d ≡ Err f → Told (SpecAsks C Γ d) f
    spec_told abstract_spec Γ f e q = cc
    spec_told (defined_spec t) Γ f e q =
        next_err (run_type Γ t) (λ n. Ok (defined n)) f q (Told (SpecAsks C Γ (defined_spec t)) f) (λ r. map_told (λ q. in_defined) (type_told t Γ f e r)) (λ a r s. cc)
    spec_told (value_spec t) Γ f e q =
        next_err (run_type Γ t) (λ n. Ok (value n)) f q (Told (SpecAsks C Γ (value_spec t)) f) (λ r. map_told (λ q. in_value) (type_told t Γ f e r)) (λ a r s. cc)
    spec_told (module_spec s) Γ f e q =
        next_err (run_signature Γ s) (λ a. Ok (nested a)) f q (Told (SpecAsks C Γ (module_spec s)) f) (λ r. map_told (λ q. in_module) (signature_told s Γ f e r)) (λ a r s. cc)

  -- the type of a term is its own normal form
  has_normal : (Γ : Env) (Δ : List Ty) (t : Term) (u : Ty) → TermHas rule Γ Δ t u → Normal Γ u u
  has_normal Γ Δ t u h =
      let o = term_finer n rule law h Γ (id_along Γ) in subst (Normal Γ u) (term_unique rule o.1 h) o.2

  have_normal : {Γ : Env} {Δ : List Ty} {ts : Terms} {us : List Ty} → TermsHave rule Γ Δ ts us → AllNormal Γ us
  have_normal none_have = none_normal
  have_normal {Γ} (more_have {Δ = Δ} {t = t} {n = u} h hs) = more_normal (has_normal Γ Δ t u h) (have_normal hs)

  -- numbers are taken where normal forms are
  abbrev Exact : (Ty → Ty) → Env → Type 0
  Exact numbers Γ = (o : Operation) (ns : List Ty) → AllNormal Γ ns → (t : Ty) → rule o (map numbers ns) ≡ gives t → (u : Ty) × (rule o ns ≡ gives u)

  -- the core
  told_err :
      (numbers : Ty → Ty) (Γ : Env) → Exact numbers Γ → (place : ℕ) (o : Operation) (ns : List Ty) (f : Fault C) → AllNormal Γ ns →
      told place (rule o ns) (rule o (map numbers ns)) ≡ Err f → No rule (of_core place o ns (map numbers ns)) f
  told_err numbers Γ x place o ns f w = go (rule o ns) refl (rule o (map numbers ns)) refl
    where
      go :
          (a : Outcome C) → rule o ns ≡ a → (b : Outcome C) → rule o (map numbers ns) ≡ b → told place a b ≡ Err f → No rule (of_core place o ns (map numbers ns)) f
      go (gives t) i b j q = cc
      go (refuses c) i (gives t) j q = let v = x o ns w t j in let k = v.1 in cc
      go (refuses c) i (refuses y) j q = let k : refused_types place y ≡ f = cc in subst (No rule (of_core place o ns (map numbers ns))) k (core_refuses c y i j)

  told_ok : (place : ℕ) (a b : Outcome C) (t : Ty) → told place a b ≡ Ok t → a ≡ gives t
  told_ok place (gives u) b t q = cc
  told_ok place (refuses c) (gives u) t q = cc
  told_ok place (refuses c) (refuses x) t q = cc

  ask_told :
      {A : Question → Type 0} (numbers : Ty → Ty) (Γ : Env) → Exact numbers Γ → (place : ℕ) (o : Operation) (ns : List Ty) (f : Fault C) → AllNormal Γ ns → A (of_core place o ns (map numbers ns)) →
      ((t : Ty) → rule o ns ≡ gives t → A (of_type place t)) → ask rule numbers place o ns ≡ Err f → Told A f
  ask_told {A} numbers Γ z place o ns f y a b q =
      next_err (told place (rule o ns) (rule o (map numbers ns))) (λ n. within (small_type n) (too_large place) n) f q (Told A f)
      (λ r. (of_core place o ns (map numbers ns), a, told_err numbers Γ z place o ns f y r))
      (λ t r s. type_size place t f (b t (told_ok place (rule o ns) (rule o (map numbers ns)) t r)) s)

  -- the types of variables have normal forms
  abbrev Listed : Env → List Ty → Type 0
  Listed Γ Δ = (k : ℕ) (t : Ty) → pick Δ k ≡ Some t → (m : Ty) × (normal_type Γ t ≡ Some m)

  listed_more : (Γ : Env) (Δ : List Ty) (t m : Ty) → normal_type Γ t ≡ Some m → Listed Γ Δ → Listed Γ (t ∷ Δ)
  listed_more Γ Δ t m i l zero u q = let j : t ≡ u = cc in (m, ap (normal_type Γ) (sym j) ∙ i)
  listed_more Γ Δ t m i l (suc k) u q = l k u q

  mutual
    term_told :
        (t : Term) (numbers : Ty → Ty) (Γ : Env) (Δ : List Ty) (f : Fault C) → SettledEnv Γ → Exact numbers Γ → Listed Γ Δ → run_term rule numbers Γ Δ t ≡ Err f →
        Told (TermAsks rule numbers Γ Δ t) f
    term_told (variable place k) numbers Γ Δ f e z l q =
        let w = must_err (no_way place) (and_then (pick Δ k) (normal_type Γ)) f q in
        (to_variable Δ place k, ask_variable, subst (No rule (to_variable Δ place k)) w.1 (no_variable (go (pick Δ k) refl w.0)))
      where
        go : (o : Option Ty) → pick Δ k ≡ o → and_then o (normal_type Γ) ≡ None → pick Δ k ≡ None
        go None i r = i
        go (Some t) i r = let v = l k t i in let j = v.1 in cc
    term_told (component place p x) numbers Γ Δ f e z l q =
        let w = must_err (no_way place) (and_then (declared p a_value x (lookup Γ p)) (normal_value Γ)) f q in (
          to_value Γ place p x,
          ask_value,
          subst (No rule (to_value Γ place p x)) w.1
              (no_value (λ t h.
              let i = then_is (declared p a_value x (lookup Γ p)) (normal_value Γ) (value t) t (has_declared h) (type_normal e (settled_has e h)) in
              let j = w.0 in
              (cc))),
        )
    term_told (integer place) numbers Γ Δ f e z l q = ask_told numbers Γ z place Literal [] f none_normal ask_literal (λ t i. literal_size t i) q
    term_told (operation place k ts) numbers Γ Δ f e z l q =
        next_err (run_terms rule numbers Γ Δ ts) (ask rule numbers place (Operator k)) f q (Told (TermAsks rule numbers Γ Δ (operation place k ts)) f)
        (λ r. map_told (λ q. in_arguments) (terms_told ts numbers Γ Δ f e z l r))
        (λ ns r s. ask_told numbers Γ z place (Operator k) ns f (have_normal (types_have rule ts Γ Δ ns e (ok_some (terms_agree rule ts numbers Γ Δ) ns r))) (ask_operator ns r) (λ t i. operator_size ns t r i) s)
    term_told (lambda place t b) numbers Γ Δ f e z l q =
        next_err (run_type Γ t) (λ a. next (run_term rule numbers Γ (type_of t ∷ Δ) b) (λ r. ask rule numbers place Function (a ∷ r ∷ []))) f q
        (Told (TermAsks rule numbers Γ Δ (lambda place t b)) f)
        (λ r. map_told (λ q. in_parameter) (type_told t Γ f e r))
        (λ a r s.
        next_err (run_term rule numbers Γ (type_of t ∷ Δ) b) (λ r. ask rule numbers place Function (a ∷ r ∷ [])) f s (Told (TermAsks rule numbers Γ Δ (lambda place t b)) f)
        (λ r'. map_told (λ q. in_body a r)
        (term_told b numbers Γ (type_of t ∷ Δ) f e z (listed_more Γ Δ (type_of t) a (ok_some (type_agrees {C = C} t Γ) a r) l) r'))
        (λ c r' s'. ask_told numbers Γ z place Function (a ∷ c ∷ []) f
        (more_normal (Rattle.rules.proofs.Finding.normal_normal (normal_type_lem Γ (type_of t) a e (ok_some (type_agrees {C = C} t Γ) a r)))
        (more_normal (has_normal Γ (type_of t ∷ Δ) b c (type_has rule b Γ (type_of t ∷ Δ) c e (ok_some (term_agrees rule b numbers Γ (type_of t ∷ Δ)) c r'))) none_normal))
        (ask_function a c r r') (λ t i. function_size a c t r r' i) s'))

    terms_told :
        (ts : Terms) (numbers : Ty → Ty) (Γ : Env) (Δ : List Ty) (f : Fault C) → SettledEnv Γ → Exact numbers Γ → Listed Γ Δ → run_terms rule numbers Γ Δ ts ≡ Err f →
        Told (TermsAsk rule numbers Γ Δ ts) f
    terms_told no_terms numbers Γ Δ f e z l q = cc
    terms_told (more_terms t ts) numbers Γ Δ f e z l q =
        next_err (run_term rule numbers Γ Δ t) (λ n. next (run_terms rule numbers Γ Δ ts) (λ ns. Ok (n ∷ ns))) f q (Told (TermsAsk rule numbers Γ Δ (more_terms t ts)) f)
        (λ r. map_told (λ q. in_first) (term_told t numbers Γ Δ f e z l r))
        (λ n r s.
        next_err (run_terms rule numbers Γ Δ ts) (λ ns. Ok (n ∷ ns)) f s (Told (TermsAsk rule numbers Γ Δ (more_terms t ts)) f)
        (λ r'. map_told (λ q. in_later n r) (terms_told ts numbers Γ Δ f e z l r'))
        (λ ns r' s'. cc))

  -- module paths
  must_ok : {A : Type 0} (x : Fault C) (o : Option A) (a : A) → must x o ≡ Ok a → o ≡ Some a
  must_ok x None a q = cc
  must_ok x (Some b) a q = cc

  path_parts : (Γ : Env) (p : ModulePath) (a : Signature) → and_then (lookup Γ p) (λ s. normalize Γ (strengthen p s)) ≡ Some a → (s : Signature) × At Γ p s × (normalize Γ (strengthen p s) ≡ Some a)
  path_parts Γ p a q =
      let w = then_some (lookup Γ p) (λ s. normalize Γ (strengthen p s)) a q in (w.0, lookup_at Γ p w.0 w.1, w.2)

  path_none : (Γ : Env) (p : ModulePath) → SettledEnv Γ → and_then (lookup Γ p) (λ s. normalize Γ (strengthen p s)) ≡ None → (s : Signature) → At Γ p s → ⊥
  path_none Γ p e q s a =
      let ps = proper_at (settled_env_proper Γ e) a in
      let w = normalize_proper (strengthen p s) Γ e (proper_strengthen Γ p s ps a) in
      let i = then_is (lookup Γ p) (λ s. normalize Γ (strengthen p s)) s w.0 (at_lookup a) w.1 in
      cc

  path_told : (Γ : Env) (place : ℕ) (p : ModulePath) (f : Fault C) → SettledEnv Γ → run_path Γ place p ≡ Err f → Told (PathAsks Γ place p) f
  path_told Γ place p f e q =
      next_err (must (no_way place) (and_then (lookup Γ p) (λ s. normalize Γ (strengthen p s)))) (λ n. within (small_signature n) (too_large place) n) f q (Told (PathAsks Γ place p) f)
      (λ r.
      let w = must_err (no_way place) (and_then (lookup Γ p) (λ s. normalize Γ (strengthen p s))) f r in
      (to_module Γ place p, ask_module, subst (No rule (to_module Γ place p)) w.1 (no_module (path_none Γ p e w.0))))
      (λ a r s.
      let w = path_parts Γ p a (must_ok (no_way place) (and_then (lookup Γ p) (λ s. normalize Γ (strengthen p s))) a r) in
      signature_size_lem place a f (module_size w.0 a w.1 w.2) s)

  -- a match that fails
  match_told :
      {A : Question → Type 0} (Γ : Env) (place : ℕ) (a b : Signature) (f : Fault C) → SettledEnv Γ → Settled Γ a → Proper Γ b →
      A (of_match Γ place a b) → (m : Mismatch) → mismatch Γ a b ≡ Some m → no_match place m ≡ f → Told A f
  match_told {A} Γ place a b f e u v k m i j = (
    of_match Γ place a b,
    k,
    subst (No rule (of_match Γ place a b)) j
        (fails_first (failure_first (extent a + extent b) Γ None a b m e u v (le_refl (extent a + extent b)) i)),
  )

  -- what a module and items are accepted as is in normal form
  module_settled : (m : Module) (from : Head → ℕ) (Γ : Env) (k : ℕ) (s : Signature) → SettledEnv Γ → run_module rule from Γ k m ≡ Ok s → Settled Γ s
  module_settled m from Γ k s e r = (check_checks n rule law m Γ s e (ok_some (module_agrees rule m from Γ k) s r)).settled

  items_settled : (is : Items) (from : Head → ℕ) (Γ : Env) (k : ℕ) (c : Components) → SettledEnv Γ → run_items rule from Γ k is ≡ Ok c → SettledEnv (extend Γ (structure c))
  items_settled is from Γ k c e r = settled_extend Γ (structure c) e (check_all_checks n rule law is Γ c e (ok_some (items_agree rule is from Γ k) c r)).settled

  apply_told :
      (from : Head → ℕ) (Γ : Env) (k place argument : ℕ) (m : Module) (p : ModulePath) (b g : Signature) (f : Fault C) → SettledEnv Γ →
      run_module rule from Γ k m ≡ Ok g → run_path {C = C} Γ argument p ≡ Ok b → run_apply Γ place argument p b g ≡ Err f →
      Told (ModuleAsks rule from Γ k (applied place m argument p)) f
  apply_told from Γ k place argument m p b (structure c) f e r r' q =
      let i : no_functor place ≡ f = cc in
      (of_functor place (structure c), ask_functor (structure c) b r r', subst (No rule (of_functor place (structure c))) i applied_structure)
  apply_told from Γ k place argument m p b (functor s t) f e r r' q =
      let ep = settled_env_proper Γ e in
      let u = module_settled m from Γ k (functor s t) e r in
      let pu = settled_proper (functor s t) Γ u in
      let w = path_parts Γ p b (path_ok Γ argument p b r') in
      let ps = proper_at ep w.1 in
      let j = normalize_is (strengthen p w.0) Γ b e w.2 in
      matched_err argument (mismatch Γ b s)
      (next (must (no_way place) (normalize Γ (on_signature (reading p) t))) (λ n. within (small_signature n) (too_large place) n)) f q
      (Told (ModuleAsks rule from Γ k (applied place m argument p)) f)
      (λ x i l. match_told Γ argument b s f e j.settled pu.0 (argument_matches s t b r r') x i l)
      (λ i q'.
      let m₁ : Fits Γ b s = match_tells Γ b s e j.settled pu.0 (sym (mismatch_is (extent b + extent s) Γ None b s) ∙ ap is_none i) in
      let g : Gives Γ p s = strengthened_gives Γ p w.0 s ps w.1 (fits_trans j.forth m₁) in
      let y = normalize_proper (on_signature (reading p) t) Γ e (proper_along t (extend Γ s) Γ (reading p) (reading_along Γ p s (knows_gives g)) pu.1) in
      next_err (must (no_way place) (normalize Γ (on_signature (reading p) t))) (λ n. within (small_signature n) (too_large place) n) f q'
      (Told (ModuleAsks rule from Γ k (applied place m argument p)) f)
      (λ z. let v = must_err (no_way place) (normalize Γ (on_signature (reading p) t)) f z in let v₀ = v.0 in let y₁ = y.1 in cc)
      (λ a z s'. signature_size_lem place a f (result_size s t a r (must_ok (no_way place) (normalize Γ (on_signature (reading p) t)) a z)) s'))
    where
      path_ok : (Γ : Env) (place : ℕ) (p : ModulePath) (b : Signature) → run_path {C = C} Γ place p ≡ Ok b → and_then (lookup Γ p) (λ s. normalize Γ (strengthen p s)) ≡ Some b
      path_ok Γ place p b = go (and_then (lookup Γ p) (λ s. normalize Γ (strengthen p s)))
        where
          go : (o : Option Signature) → next (must {E = Fault C} (no_way place) o) (λ n. within (small_signature n) (too_large place) n) ≡ Ok b → o ≡ Some b
          go None r = cc
          go (Some a) r = small (small_signature a) r
            where
              small : (z : Bool) → within {E = Fault C} z (too_large place) a ≡ Ok b → Some a ≡ Some b
              small true r = cc
              small false r = cc

  mutual
    pub module_told :
        (m : Module) (from : Head → ℕ) (Γ : Env) (k : ℕ) (f : Fault C) → SettledEnv Γ → Laid from Γ k → run_module rule from Γ k m ≡ Err f → Told (ModuleAsks rule from Γ k m) f
    module_told (module_path place p) from Γ k f e z q = map_told (λ q. of_path) (path_told Γ place p f e q)
    module_told (struct place is) from Γ k f e z q =
        next_err (run_items rule from Γ k is) (λ c. within (small_signature (structure c)) (too_large place) (structure c)) f q (Told (ModuleAsks rule from Γ k (struct place is)) f)
        (λ r. map_told (λ q. in_items) (items_told is from Γ k f e z r))
        (λ c r s. signature_size_lem place (structure c) f (struct_size c r) s)
    module_told (functor_of place t m) from Γ k f e z q =
        next_err (run_signature Γ t)
        (λ a. next (run_module rule (under (suc k) from) (extend Γ a) (suc (k + signature_size a)) m) (λ r. within (small_signature (functor a r)) (too_large place) (functor a r))) f q
        (Told (ModuleAsks rule from Γ k (functor_of place t m)) f)
        (λ r. map_told (λ q. in_parameter_signature) (signature_told t Γ f e r))
        (λ a r s.
        next_err (run_module rule (under (suc k) from) (extend Γ a) (suc (k + signature_size a)) m) (λ r. within (small_signature (functor a r)) (too_large place) (functor a r)) f s
        (Told (ModuleAsks rule from Γ k (functor_of place t m)) f)
        (λ r'. map_told (λ q. in_functor_body a r)
        (module_told m (under (suc k) from) (extend Γ a) (suc (k + signature_size a)) f (settled_extend Γ a e (signature_settled t Γ a e r).settled)
        (laid_later (under (suc k) from) (extend Γ a) (suc k + signature_size a) (suc (k + signature_size a)) (omega arith) (laid_extend from Γ k (suc k) a (omega arith) z)) r'))
        (λ b r' s'. signature_size_lem place (functor a b) f (functor_size a b r r') s'))
    module_told (applied place m argument p) from Γ k f e z q =
        next_err (run_module rule from Γ k m) (λ g. next (run_path Γ argument p) (λ b. run_apply Γ place argument p b g)) f q
        (Told (ModuleAsks rule from Γ k (applied place m argument p)) f)
        (λ r. map_told (λ q. in_applied) (module_told m from Γ k f e z r))
        (λ g r s.
        next_err (run_path Γ argument p) (λ b. run_apply Γ place argument p b g) f s (Told (ModuleAsks rule from Γ k (applied place m argument p)) f)
        (λ r'. map_told (λ q. in_argument g r) (path_told Γ argument p f e r'))
        (λ b r' s'. apply_told from Γ k place argument m p b g f e r r' s'))
    module_told (ascribed place inner m t) from Γ k f e z q =
        next_err (run_module rule from Γ k m) (λ g. next (run_signature Γ t) (λ a. matched inner (mismatch Γ g a) (Ok a))) f q
        (Told (ModuleAsks rule from Γ k (ascribed place inner m t)) f)
        (λ r. map_told (λ q. in_ascribed) (module_told m from Γ k f e z r))
        (λ g r s.
        next_err (run_signature Γ t) (λ a. matched inner (mismatch Γ g a) (Ok a)) f s (Told (ModuleAsks rule from Γ k (ascribed place inner m t)) f)
        (λ r'. map_told (λ q. in_signature g r) (signature_told t Γ f e r'))
        (λ a r' s'.
        matched_err inner (mismatch Γ g a) (Ok a) f s' (Told (ModuleAsks rule from Γ k (ascribed place inner m t)) f)
        (λ x i l. match_told Γ inner g a f e (module_settled m from Γ k g e r) (settled_proper a Γ (signature_settled t Γ a e r').settled) (module_matches g a r r') x i l)
        (λ i z. cc)))

    items_told :
        (is : Items) (from : Head → ℕ) (Γ : Env) (k : ℕ) (f : Fault C) → SettledEnv Γ → Laid from Γ k → run_items rule from Γ k is ≡ Err f → Told (ItemsAsk rule from Γ k is) f
    items_told no_items from Γ k f e z q = cc
    items_told (more_items is x i) from Γ k f e z q =
        next_err (run_items rule from Γ k is)
        (λ c. must_not (twice x) (find (item_sort i) x c) (next (run_item rule (under k from) (extend Γ (structure c)) (suc (k + components_size c)) i) (λ d. Ok (more c x d)))) f q
        (Told (ItemsAsk rule from Γ k (more_items is x i)) f)
        (λ r. map_told (λ q. item_before) (items_told is from Γ k f e z r))
        (λ c r s.
        must_not_err (twice x) (find (item_sort i) x c) (next (run_item rule (under k from) (extend Γ (structure c)) (suc (k + components_size c)) i) (λ d. Ok (more c x d))) f s
        (Told (ItemsAsk rule from Γ k (more_items is x i)) f)
        (λ d y j. (of_name (item_sort i) x c, item_new c r, subst (No rule (of_name (item_sort i) x c)) j (declared_before d y)))
        (λ s'.
        next_err (run_item rule (under k from) (extend Γ (structure c)) (suc (k + components_size c)) i) (λ d. Ok (more c x d)) f s'
        (Told (ItemsAsk rule from Γ k (more_items is x i)) f)
        (λ r'. map_told (λ q. item_last c r)
        (item_told i (under k from) (extend Γ (structure c)) (suc (k + components_size c)) f (items_settled is from Γ k c e r)
        (laid_later (under k from) (extend Γ (structure c)) (k + components_size c) (suc (k + components_size c)) (omega arith) (laid_extend from Γ k k (structure c) (omega arith) z)) r'))
        (λ d r' s''. cc)))

    item_told :
        (i : Item) (from : Head → ℕ) (Γ : Env) (k : ℕ) (f : Fault C) → SettledEnv Γ → Laid from Γ k → run_item rule from Γ k i ≡ Err f → Told (ItemAsks rule from Γ k i) f
    item_told (type_item t) from Γ k f e z q =
        next_err (run_type Γ t) (λ n. Ok (defined n)) f q (Told (ItemAsks rule from Γ k (type_item t)) f) (λ r. map_told (λ q. in_type_item) (type_told t Γ f e r)) (λ a r s. cc)
    item_told (let_item t) from Γ k f e z q =
        next_err (run_term rule (in_numbers from Γ) Γ [] t) (λ n. Ok (value n)) f q (Told (ItemAsks rule from Γ k (let_item t)) f)
        (λ r. map_told (λ q. in_let_item) (term_told t (in_numbers from Γ) Γ [] f e (numbers_give from Γ k z n rule law) (λ k t i. cc) r)) (λ a r s. cc)
    item_told (module_item m) from Γ k f e z q =
        next_err (run_module rule from Γ k m) (λ s. Ok (nested s)) f q (Told (ItemAsks rule from Γ k (module_item m)) f)
        (λ r. map_told (λ q. in_module_item) (module_told m from Γ k f e z r)) (λ a r s. cc)
