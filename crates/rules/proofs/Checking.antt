-- The checker's signatures: where it has one, the module has an own signature that matches it, and where a signature is derived, it has one
-- that matches that.
use Rattle.std.proofs.Common.{◌≡◌, ℕ, false, cond, List, [], ◌∷◌, Some, None, sym, refl, ap, ◌∙◌, subst}
use Rattle.types.specs.Types.{Name, ModulePath, Ty}
use Rattle.cores.specs.Meaning.{Outcome, gives, refuses, Stable}
use Rattle.cores.specs.declared.interface.Operation.{Operation}
use Rattle.cores.specs.declared.interface.Operation.TheVariants.{Literal, Function, Operator}
use Rattle.cores.specs.Fits.{cond_some}
use Rattle.rules.specs.Signatures.{Sort, a_type, a_value, a_module, Signature, structure, functor, Components, empty, more, Declaration, defined, value, nested, sort_of, find, on_some}
use Rattle.rules.specs.Substitution.{reading, on_signature}
use Rattle.rules.specs.Lookup.{Env, extend, Normal, unfolds}
use Rattle.rules.specs.Strengthening.{strengthen}
use Rattle.rules.specs.Syntax.{type_of, signature_of, Term, variable, component, integer, operation, lambda, Terms, no_terms, more_terms, Module, module_path, struct, functor_of, applied, ascribed, Items, no_items, more_items, Item, type_item, let_item, module_item}
use Rattle.rules.specs.Rules.{pick, item_sort, Undeclared, TermHas, of_variable, of_component, of_integer, of_operation, of_lambda, TermsHave, none_have, more_have, Derives, by_path, by_items, by_functor, by_application, by_signature, DerivesAll, no_item, type_too, let_too, module_too}
use Rattle.rules.specs.Checker.{and_then, unless, declared, lookup, normal_type, normal_value, normalize, does_match, accepted, term_type, term_types, apply, check, check_all, check_item}
use Rattle.rules.proofs.Finding.{normal_normal}
use Rattle.rules.proofs.Inner.{Gives, Fits, f_structure, f_functor, g_none}
use Rattle.rules.proofs.Along.{was_some, fits_along}
use Rattle.rules.proofs.Transitive.{Knows, knows_laws, knows_gives, fits_trans}
use Rattle.rules.proofs.Knowing.{id_along, reading_along, at_fits, fits_finer}
use Rattle.rules.proofs.Properness.{proper_at, proper_extend}
use Rattle.rules.proofs.Reflexive.{has_at}
use Rattle.rules.proofs.Strengthened.{strengthened_gives}
use Rattle.rules.proofs.Wording.{typed_leads, proper_sound, fits_matches}
use Rattle.rules.proofs.Terms.{term_finer}
use Rattle.rules.proofs.Derived.{find_none, undeclared_none, derives_all_proper}
use Rattle.rules.proofs.Principal.{longer_extend, last_has, same_finer, fits_more, fits_functor, principal}
use Rattle.rules.proofs.Settling.{Settled, SettledAll, SettledEnv, settled_proper, settled_env_proper, settled_extend, lookup_at, declared_has, has_declared, normal_type_lem, type_normal, then_some, then_is, unless_some, unless_is}
use Rattle.rules.proofs.Normalizing.{fits_along_fresh, none_before, normalize_is}
use Rattle.rules.proofs.Deciding.{normal_value_lem, match_tells}

pub accepted_is : {C : Type 0} (o : Outcome C) (t : Ty) → accepted o ≡ Some t → o ≡ gives t
accepted_is (gives u) t e = cc
accepted_is (refuses c) t e = cc

-- terms
module _ {C : Type 0} (rule : Operation → List Ty → Outcome C) where
  mutual
    pub type_has : (t : Term) (Γ : Env) (Δ : List Ty) (n : Ty) → SettledEnv Γ → term_type rule Γ Δ t ≡ Some n → TermHas rule Γ Δ t n
    type_has (variable place k) Γ Δ n e q =
        let w = then_some (pick Δ k) (normal_type Γ) n q in of_variable w.0 w.1 (normal_type_lem Γ w.0 n e w.2)
    type_has (component place p x) Γ Δ n e q =
        let w = then_some (declared p a_value x (lookup Γ p)) (normal_value Γ) n q in
        let v = normal_value_lem Γ w.0 n w.2 in
        of_component v.0 (declared_has Γ p a_value x (value v.0) (w.1 ∙ ap Some v.1)) (normal_type_lem Γ v.0 n e v.2)
    type_has (integer place) Γ Δ n e q = of_integer (accepted_is (rule Literal []) n q)
    type_has (operation place k ts) Γ Δ n e q =
        let w = then_some (term_types rule Γ Δ ts) (λ ns. accepted (rule (Operator k) ns)) n q in
        of_operation w.0 (types_have ts Γ Δ w.0 e w.1) (accepted_is (rule (Operator k) w.0) n w.2)
    type_has (lambda place t b) Γ Δ n e q =
        let w = then_some (normal_type Γ (type_of t)) (λ a. and_then (term_type rule Γ (type_of t ∷ Δ) b) (λ r. accepted (rule Function (a ∷ r ∷ [])))) n q in
        let v = then_some (term_type rule Γ (type_of t ∷ Δ) b) (λ r. accepted (rule Function (w.0 ∷ r ∷ []))) n w.2 in
        of_lambda w.0 v.0 (normal_type_lem Γ (type_of t) w.0 e w.1) (type_has b Γ (type_of t ∷ Δ) v.0 e v.1)
        (accepted_is (rule Function (w.0 ∷ v.0 ∷ [])) n v.2)

    pub types_have : (ts : Terms) (Γ : Env) (Δ : List Ty) (ns : List Ty) → SettledEnv Γ → term_types rule Γ Δ ts ≡ Some ns → TermsHave rule Γ Δ ts ns
    types_have no_terms Γ Δ ns e q = let i : [] ≡ ns = cc in subst (TermsHave rule Γ Δ no_terms) i none_have
    types_have (more_terms t ts) Γ Δ ns e q =
        let w = then_some (term_type rule Γ Δ t) (λ n. on_some (λ ns. n ∷ ns) (term_types rule Γ Δ ts)) ns q in
        let v = was_some (λ ns. w.0 ∷ ns) (term_types rule Γ Δ ts) ns w.2 in
        subst (TermsHave rule Γ Δ (more_terms t ts)) v.2 (more_have (type_has t Γ Δ w.0 e w.1) (types_have ts Γ Δ v.0 e v.1))

  mutual
    pub has_type : {Γ : Env} {Δ : List Ty} {t : Term} {n : Ty} → TermHas rule Γ Δ t n → SettledEnv Γ → term_type rule Γ Δ t ≡ Some n
    has_type {Γ} (of_variable {Δ = Δ} {k = k} {n = n} t q m) e = then_is (pick Δ k) (normal_type Γ) t n q (type_normal e m)
    has_type {Γ} (of_component {p = p} {x = x} {n = n} t h m) e =
        then_is (declared p a_value x (lookup Γ p)) (normal_value Γ) (value t) n (has_declared h) (type_normal e m)
    has_type (of_integer q) e = ap accepted q
    has_type {Γ} (of_operation {Δ = Δ} {k = k} {ts = ts} {n = n} ns hs q) e =
        then_is (term_types rule Γ Δ ts) (λ ns. accepted (rule (Operator k) ns)) ns n (have_types hs e) (ap accepted q)
    has_type {Γ} (of_lambda {Δ = Δ} {t = t} {b = b} {n = n} a r m h q) e =
        then_is (normal_type Γ (type_of t)) (λ a. and_then (term_type rule Γ (type_of t ∷ Δ) b) (λ r. accepted (rule Function (a ∷ r ∷ [])))) a n (type_normal e m)
        (then_is (term_type rule Γ (type_of t ∷ Δ) b) (λ r. accepted (rule Function (a ∷ r ∷ []))) r n (has_type h e) (ap accepted q))

    have_types : {Γ : Env} {Δ : List Ty} {ts : Terms} {ns : List Ty} → TermsHave rule Γ Δ ts ns → SettledEnv Γ → term_types rule Γ Δ ts ≡ Some ns
    have_types none_have e = refl
    have_types {Γ} (more_have {Δ = Δ} {t = t} {ts = ts} {n = n} {ns = ns} h hs) e =
        then_is (term_type rule Γ Δ t) (λ n. on_some (λ ns. n ∷ ns) (term_types rule Γ Δ ts)) n (n ∷ ns) (has_type h e) (ap (on_some (λ ns. n ∷ ns)) (have_types hs e))

  -- the sort of what an item is checked to be
  item_sort_lem : (i : Item) (Γ : Env) (d : Declaration) → check_item rule Γ i ≡ Some d → sort_of d ≡ item_sort i
  item_sort_lem (type_item t) Γ d q = let w = was_some defined (normal_type Γ (type_of t)) d q in ap sort_of (sym w.2)
  item_sort_lem (let_item t) Γ d q = let w = was_some value (term_type rule Γ [] t) d q in ap sort_of (sym w.2)
  item_sort_lem (module_item m) Γ d q = let w = was_some nested (check rule Γ m) d q in ap sort_of (sym w.2)

  -- what no item declares is not found, and the other way round
  all_parts :
      (is : Items) (x : Name) (i : Item) (Γ : Env) (c : Components) → check_all rule Γ (more_items is x i) ≡ Some c →
      (b : Components) × (d : Declaration) × (check_all rule Γ is ≡ Some b) × (find (item_sort i) x b ≡ None) × (check_item rule (extend Γ (structure b)) i ≡ Some d) × (more b x d ≡ c)
  all_parts is x i Γ c q =
      let w = then_some (check_all rule Γ is) (λ c. unless (find (item_sort i) x c) (on_some (more c x) (check_item rule (extend Γ (structure c)) i))) c q in
      let b = w.0 in
      let v = unless_some (find (item_sort i) x b) (on_some (more b x) (check_item rule (extend Γ (structure b)) i)) c w.2 in
      let y = was_some (more b x) (check_item rule (extend Γ (structure b)) i) c v.1 in
      (b, y.0, w.1, v.0, y.1, y.2)

  pub all_together :
      (is : Items) (x : Name) (i : Item) (Γ : Env) (b : Components) (d : Declaration) → check_all rule Γ is ≡ Some b → find (item_sort i) x b ≡ None →
      check_item rule (extend Γ (structure b)) i ≡ Some d → check_all rule Γ (more_items is x i) ≡ Some (more b x d)
  all_together is x i Γ b d p n q =
      then_is (check_all rule Γ is) (λ c. unless (find (item_sort i) x c) (on_some (more c x) (check_item rule (extend Γ (structure c)) i))) b (more b x d) p
      (unless_is (find (item_sort i) x b) (on_some (more b x) (check_item rule (extend Γ (structure b)) i)) (more b x d) n (ap (on_some (more b x)) q))

  pub undeclared_checked : (is : Items) (Γ : Env) (c : Components) → check_all rule Γ is ≡ Some c → (s : Sort) (x : Name) → Undeclared s x is → find s x c ≡ None
  undeclared_checked no_items Γ c q s x u = let i : empty ≡ c = cc in subst (λ z. find s x z ≡ None) i refl
  undeclared_checked (more_items is y i) Γ c q s x u =
      let w = all_parts is y i Γ c q in
      subst (λ z. find s x z ≡ None) w.5
      (find_none w.0 s x y w.1 (undeclared_checked is Γ w.0 w.2 s x u.0) (λ p r. u.1 (sym (item_sort_lem i (extend Γ (structure w.0)) w.1 w.4) ∙ p) r))

  checked_undeclared : (is : Items) (Γ : Env) (c : Components) → check_all rule Γ is ≡ Some c → (s : Sort) (x : Name) → find s x c ≡ None → Undeclared s x is
  checked_undeclared no_items Γ c q s x f = tt
  checked_undeclared (more_items is y i) Γ c q s x f =
      let w = all_parts is y i Γ c q in
      let v = none_before w.0 s x y w.1 (subst (λ z. find s x z ≡ None) (sym w.5) f) in
      (checked_undeclared is Γ w.0 w.2 s x v.0, λ p r. v.1 (item_sort_lem i (extend Γ (structure w.0)) w.1 w.4 ∙ p) r)

-- a checked signature: one that the own signature matches, and settled
pub record Checks {C : Type 0} (rule : Operation → List Ty → Outcome C) (Γ : Env) (m : Module) (s : Signature) : Type 0 where
  pub own : Signature
  pub derives : Derives rule false Γ m own
  pub matches : Fits Γ own s
  pub settled : Settled Γ s

pub record ChecksAll {C : Type 0} (rule : Operation → List Ty → Outcome C) (Γ : Env) (is : Items) (c : Components) : Type 0 where
  pub own : Components
  pub derives : DerivesAll rule false Γ is own
  pub matches : Fits Γ (structure own) (structure c)
  pub settled : SettledAll Γ c

module _ {C : Type 0} (n : ℕ) (rule : Operation → List Ty → Outcome C) (law : Stable n rule) where
  apply_checks :
      (Γ : Env) (place argument : ℕ) (m : Module) (p : ModulePath) (f t : Signature) → SettledEnv Γ → Checks rule Γ m f → apply Γ p f ≡ Some t →
      Checks rule Γ (applied place m argument p) t
  apply_checks Γ place argument m p (structure c) t e k q = cc
  apply_checks Γ place argument m p (functor s r) t e k q =
      let w = then_some (lookup Γ p) (λ a. and_then (normalize Γ (strengthen p a)) (λ b. cond (does_match Γ b s) (normalize Γ (on_signature (reading p) r)) None)) t q in
      let a = w.0 in
      let i = lookup_at Γ p a w.1 in
      let v = then_some (normalize Γ (strengthen p a)) (λ b. cond (does_match Γ b s) (normalize Γ (on_signature (reading p) r)) None) t w.2 in
      let b = v.0 in
      let j = normalize_is (strengthen p a) Γ b e v.1 in
      let y = cond_some (does_match Γ b s) (normalize Γ (on_signature (reading p) r)) t v.2 in
      let ps = settled_proper (functor s r) Γ k.settled in
      let m₁ : Fits Γ (strengthen p a) s = fits_trans j.forth (match_tells Γ b s e j.settled ps.0 y.0) in
      let z = fits_functor Γ k.own s r k.matches in
      let d : Derives rule false Γ m (functor z.0 z.1) = subst (λ o. Derives rule false Γ m o) z.2 k.derives in
      let g : Gives Γ p s = strengthened_gives Γ p a s (proper_at (settled_env_proper Γ e) i) i m₁ in
      let l = normalize_is (on_signature (reading p) r) Γ t e y.1 in
      record {
        own = on_signature (reading p) z.1;
        derives = by_application {argument = argument} z.0 z.1 a d i (fits_matches (fits_trans m₁ z.3));
        matches = fits_trans (fits_along Knows knows_laws z.4 (reading p) Γ (reading_along Γ p s (knows_gives g))) l.forth;
        settled = l.settled;
      }

  mutual
    pub check_checks : (m : Module) (Γ : Env) (s : Signature) → SettledEnv Γ → check rule Γ m ≡ Some s → Checks rule Γ m s
    check_checks (module_path place p) Γ s e q =
        let w = then_some (lookup Γ p) (λ s. normalize Γ (strengthen p s)) s q in
        let i = normalize_is (strengthen p w.0) Γ s e w.2 in
        record { own = strengthen p w.0; derives = by_path w.0 (lookup_at Γ p w.0 w.1); matches = i.forth; settled = i.settled }
    check_checks (struct place is) Γ s e q =
        let w = was_some structure (check_all rule Γ is) s q in
        let i = check_all_checks is Γ w.0 e w.1 in
        subst (Checks rule Γ (struct place is)) w.2
        (record { own = structure i.own; derives = by_items i.derives; matches = i.matches; settled = i.settled })
    check_checks (functor_of place t m) Γ s e q =
        let w = then_some (normalize Γ (signature_of t)) (λ a. on_some (functor a) (check rule (extend Γ a) m)) s q in
        let a = w.0 in
        let v = was_some (functor a) (check rule (extend Γ a) m) s w.2 in
        let p = signature_of t in
        let i = normalize_is p Γ a e w.1 in
        let e+ = settled_extend Γ a e i.settled in
        let j = check_checks m (extend Γ a) v.0 e+ v.1 in
        let ep = settled_env_proper Γ e in
        let k = fits_along_fresh Γ p a i.forth in
        let o = principal n rule law j.derives (settled_env_proper (extend Γ a) e+) (extend Γ p) (proper_extend Γ p ep i.proper) k in
        subst (Checks rule Γ (functor_of place t m)) v.2
        (record {
          own = functor p o.0;
          derives = by_functor (proper_sound p Γ i.proper) o.1;
          matches = f_functor i.back (fits_finer (fits_along_fresh Γ a p i.back) (fits_trans o.2 (fits_finer k j.matches)));
          settled = (i.settled, j.settled);
        })
    check_checks (applied place m argument p) Γ s e q =
        let w = then_some (check rule Γ m) (apply Γ p) s q in
        apply_checks Γ place argument m p w.0 s e (check_checks m Γ w.0 e w.1) w.2
    check_checks (ascribed place inner m t) Γ s e q =
        let w = then_some (check rule Γ m) (λ g. and_then (normalize Γ (signature_of t)) (λ a. cond (does_match Γ g a) (Some a) None)) s q in
        let g = w.0 in
        let v = then_some (normalize Γ (signature_of t)) (λ a. cond (does_match Γ g a) (Some a) None) s w.2 in
        let a = v.0 in
        let y = cond_some (does_match Γ g a) (Some a) s v.2 in
        let j = check_checks m Γ g e w.1 in
        let i = normalize_is (signature_of t) Γ a e v.1 in
        let f = fits_trans j.matches (fits_trans (match_tells Γ g a e j.settled (settled_proper a Γ i.settled) y.0) i.back) in
        let same : a ≡ s = some_is y.1 in
        subst (Checks rule Γ (ascribed place inner m t)) same
        (record {
          own = signature_of t;
          derives = by_signature {inner = inner} j.own j.derives (proper_sound (signature_of t) Γ i.proper) (fits_matches f);
          matches = i.forth;
          settled = i.settled;
        })
      where
        some_is : {b c : Signature} → Some b ≡ Some c → b ≡ c
        some_is e = cc

    pub check_all_checks : (is : Items) (Γ : Env) (c : Components) → SettledEnv Γ → check_all rule Γ is ≡ Some c → ChecksAll rule Γ is c
    check_all_checks no_items Γ c e q =
        let i : empty ≡ c = cc in
        subst (ChecksAll rule Γ no_items) i (record { own = empty; derives = no_item; matches = f_structure g_none; settled = tt })
    check_all_checks (more_items is x i) Γ c e q =
        let w = all_parts rule is x i Γ c q in
        let b = w.0 in
        let j = check_all_checks is Γ b e w.2 in
        let e+ = settled_extend Γ (structure b) e j.settled in
        subst (ChecksAll rule Γ (more_items is x i)) w.5
        (check_item_checks i Γ is b x w.1 e j e+ (checked_undeclared rule is Γ b w.2 (item_sort i) x w.3) w.3 w.4)

    check_item_checks :
        (i : Item) (Γ : Env) (is : Items) (b : Components) (x : Name) (d : Declaration) → SettledEnv Γ → ChecksAll rule Γ is b → SettledEnv (extend Γ (structure b)) →
        Undeclared (item_sort i) x is → find (item_sort i) x b ≡ None → check_item rule (extend Γ (structure b)) i ≡ Some d →
        ChecksAll rule Γ (more_items is x i) (more b x d)
    check_item_checks (type_item t) Γ is b x d e j e+ u f q =
        let w = was_some defined (normal_type (extend Γ (structure b)) (type_of t)) d q in
        let c = j.own in
        let m = normal_type_lem (extend Γ (structure b)) (type_of t) w.0 e+ w.1 in
        let k = fits_along_fresh Γ (structure c) (structure b) j.matches in
        let v = Rattle.rules.proofs.Knowing.normal_finer k m in
        let y = same_finer (longer_extend Γ c x (defined (type_of t))) v.1 v.2 in
        let h = last_has Γ c x (defined (type_of t)) (undeclared_none j.derives a_type x u) in
        subst (λ z. ChecksAll rule Γ (more_items is x (type_item t)) (more b x z)) w.2
        (record {
          own = more c x (defined (type_of t));
          derives = type_too j.derives u (typed_leads v.1);
          matches = fits_more Γ c b x (defined (type_of t)) (defined w.0) j.matches (y.0, unfolds (type_of t) h y.1, y.2);
          settled = (j.settled, f, normal_normal m);
        })
    check_item_checks (let_item t) Γ is b x d e j e+ u f q =
        let w = was_some value (term_type rule (extend Γ (structure b)) [] t) d q in
        let c = j.own in
        let m = type_has rule t (extend Γ (structure b)) [] w.0 e+ w.1 in
        let k = fits_along_fresh Γ (structure c) (structure b) j.matches in
        let v = term_finer n rule law m (extend Γ (structure c)) k in
        let y = same_finer (longer_extend Γ c x (value v.0)) (normal_normal v.2) v.2 in
        let h = last_has Γ c x (value v.0) (undeclared_none j.derives a_value x u) in
        let o = term_finer n rule law m (extend Γ (structure b)) (id_along (extend Γ (structure b))) in
        let same : o.0 ≡ w.0 = Rattle.rules.proofs.Terms.term_unique rule o.1 m in
        subst (λ z. ChecksAll rule Γ (more_items is x (let_item t)) (more b x z)) w.2
        (record {
          own = more c x (value v.0);
          derives = let_too j.derives u v.1;
          matches = fits_more Γ c b x (value v.0) (value w.0) j.matches (v.0, y.0, h, y.1, y.2);
          settled = (j.settled, f, subst (Normal (extend Γ (structure b)) w.0) same o.2);
        })
    check_item_checks (module_item m) Γ is b x d e j e+ u f q =
        let w = was_some nested (check rule (extend Γ (structure b)) m) d q in
        let c = j.own in
        let i = check_checks m (extend Γ (structure b)) w.0 e+ w.1 in
        let k = fits_along_fresh Γ (structure c) (structure b) j.matches in
        let ep = proper_extend Γ (structure c) (settled_env_proper Γ e) (derives_all_proper n rule law j.derives (settled_env_proper Γ e)) in
        let o = principal n rule law i.derives (settled_env_proper (extend Γ (structure b)) e+) (extend Γ (structure c)) ep k in
        let s = o.0 in
        let h = last_has Γ c x (nested s) (undeclared_none j.derives a_module x u) in
        subst (λ z. ChecksAll rule Γ (more_items is x (module_item m)) (more b x z)) w.2
        (record {
          own = more c x (nested s);
          derives = module_too j.derives u o.1;
          matches = fits_more Γ c b x (nested s) (nested w.0) j.matches
              (at_fits (has_at h) (fits_finer (longer_extend Γ c x (nested s)) (fits_trans o.2 (fits_finer k i.matches))));
          settled = (j.settled, f, i.settled);
        })
