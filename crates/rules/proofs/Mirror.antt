-- The checker with faults says what the checker without them says, but for sizes.
use Rattle.std.proofs.Common.{◌≡◌, ℕ, zero, suc, ◌+◌, Bool, true, false, cond, ◌&&◌, List, [], ◌∷◌, map, Some, None, Ok, Err, Option, Result, refl, ap, ◌∙◌, subst, ap₂}
use Rattle.std.specs.Option.{is_none}
use Rattle.types.specs.Types.{Name, Head, unit, ModulePath, at, dot, named, Ty, leaf, label0, label1, label2}
use Rattle.cores.specs.Meaning.{Outcome, gives, refuses}
use Rattle.cores.specs.declared.interface.Operation.{Operation}
use Rattle.cores.specs.declared.interface.Operation.TheVariants.{Literal, Function, Operator}
use Rattle.rules.specs.Signatures.{a_type, a_value, Signature, structure, functor, Components, empty, more, Declaration, abstract, defined, value, nested, sort_of, find, first_of, on_some, extent}
use Rattle.rules.specs.Substitution.{Substitution, under, innermost, reading, on_type, on_signature}
use Rattle.rules.specs.Lookup.{Env, extend}
use Rattle.rules.specs.Strengthening.{strengthen}
use Rattle.rules.specs.Syntax.{TypeText, path_text, label_text0, label_text1, label_text2, type_of, SignatureText, sig_text, functor_text, SpecTexts, no_specs, more_specs, SpecText, abstract_spec, defined_spec, value_spec, module_spec, signature_of, components_of, declaration_of, Term, variable, component, integer, operation, lambda, Terms, no_terms, more_terms, Module, module_path, struct, functor_of, applied, ascribed, Items, no_items, more_items, Item, type_item, let_item, module_item}
use Rattle.rules.specs.Rules.{pick, item_sort}
use Rattle.rules.specs.Environments.{with_unit}
use Rattle.rules.specs.Projects.{Units, no_units, more_units}
use Rattle.rules.specs.Checker.{and_then, given, unless, declared, lookup, normal_type, normal_value, normalize, normalize_all, normalize_one, is_structure, same_form, offered, offered_all, offered_one, matches_to, does_match, accepted, term_type, term_types, apply, check, check_all, check_item, check_units, put}
use Rattle.rules.specs.Sizes.{signature_size, components_size, small_type, small_signature, in_numbers}
use Rattle.rules.specs.Faults.{Mismatch, Fault, too_large, no_functor, twice, no_way, next, must, must_not, within, run_type, run_signature, run_specs, run_spec, if_there, if_structure, if_same, lacks, lacks_all, lacks_one, if_normal, mismatch_to, mismatch, matched, told, ask, run_term, run_terms, run_path, run_apply, run_module, run_items, run_item, Known, one_more, run_unit, UnitFault, in_unit, run_units, run_fit, is_accepted, is_size, is_unit_size}

-- an answer with faults and one without: both accept the same, or both refuse, or a size is refused
pub data Agrees {A C : Type 0} : Result A (Fault C) → Option A → Type 0 where
  taken : {a : A} → Agrees (Ok a) (Some a)
  refused : {f : Fault C} → Agrees (Err f) None
  large : {place : ℕ} {o : Option A} → Agrees (Err (too_large place)) o

a_next : {A B C : Type 0} {r : Result A (Fault C)} {o : Option A} → Agrees r o → (f : A → Result B (Fault C)) (g : A → Option B) → ((a : A) → Agrees (f a) (g a)) → Agrees (next r f) (and_then o g)
a_next (taken {a = a}) f g k = k a
a_next refused f g k = refused
a_next large f g k = large

a_map : {A B C : Type 0} {r : Result A (Fault C)} {o : Option A} → Agrees r o → (f : A → B) → Agrees (next r (λ a. Ok (f a))) (on_some f o)
a_map taken f = taken
a_map refused f = refused
a_map large f = large

a_must : {A C : Type 0} (e : Fault C) (o : Option A) → Agrees (must e o) o
a_must e (Some a) = taken
a_must e None = refused

a_within : {A C : Type 0} (b : Bool) (place : ℕ) (a : A) → Agrees {C = C} (within b (too_large place) a) (Some a)
a_within true place a = taken
a_within false place a = large

a_limit : {A B C : Type 0} {r : Result A (Fault C)} {o : Option A} → Agrees r o → (b : A → Bool) (place : ℕ) (f : A → B) → Agrees (next r (λ a. within (b a) (too_large place) (f a))) (on_some f o)
a_limit (taken {a = a}) b place f = a_within (b a) place (f a)
a_limit refused b place f = refused
a_limit large b place f = large

a_limited : {A C : Type 0} {r : Result A (Fault C)} {o : Option A} → Agrees r o → (b : A → Bool) (place : ℕ) → Agrees (next r (λ a. within (b a) (too_large place) a)) o
a_limited (taken {a = a}) b place = a_within (b a) place a
a_limited refused b place = refused
a_limited large b place = large

a_must_not : {A B C : Type 0} (e : Fault C) (o : Option A) {r : Result B (Fault C)} {p : Option B} → Agrees r p → Agrees (must_not e o r) (unless o p)
a_must_not e None k = k
a_must_not e (Some a) k = refused

a_matched : {A C : Type 0} (place : ℕ) (m : Option Mismatch) (b : Bool) {r : Result A (Fault C)} {o : Option A} → is_none m ≡ b → Agrees r o → Agrees (matched place m r) (cond b o None)
a_matched {C = C} place None b {r} {o} e k = subst (λ z. Agrees r (cond z o None)) e k
a_matched place (Some m) b {r} {o} e k = subst (λ z. Agrees (matched place (Some m) r) (cond z o None)) e refused

-- written types and signatures
pub type_agrees : {C : Type 0} (t : TypeText) (Γ : Env) → Agrees {C = C} (run_type Γ t) (normal_type Γ (type_of t))
type_agrees (path_text place p x) Γ = a_limited (a_must (no_way place) (normal_type Γ (leaf (named p x)))) small_type place
type_agrees (label_text0 place l) Γ = a_within (small_type (label0 l)) place (label0 l)
type_agrees (label_text1 place l t) Γ = a_limit (type_agrees t Γ) (λ n. small_type (label1 l n)) place (label1 l)
type_agrees (label_text2 place l t u) Γ =
    a_next (type_agrees t Γ) (λ n. next (run_type Γ u) (λ m. within (small_type (label2 l n m)) (too_large place) (label2 l n m)))
    (λ n. on_some (label2 l n) (normal_type Γ (type_of u)))
    (λ n. a_limit (type_agrees u Γ) (λ m. small_type (label2 l n m)) place (label2 l n))

mutual
  pub signature_agrees : {C : Type 0} (t : SignatureText) (Γ : Env) → Agrees {C = C} (run_signature Γ t) (normalize Γ (signature_of t))
  signature_agrees (sig_text place c) Γ = a_limit (specs_agree c Γ) (λ b. small_signature (structure b)) place structure
  signature_agrees (functor_text place s r) Γ =
      a_next (signature_agrees s Γ) (λ a. next (run_signature (extend Γ a) r) (λ b. within (small_signature (functor a b)) (too_large place) (functor a b)))
      (λ a. on_some (functor a) (normalize (extend Γ a) (signature_of r)))
      (λ a. a_limit (signature_agrees r (extend Γ a)) (λ b. small_signature (functor a b)) place (functor a))

  pub specs_agree : {C : Type 0} (c : SpecTexts) (Γ : Env) → Agrees {C = C} (run_specs Γ c) (normalize_all Γ (components_of c))
  specs_agree no_specs Γ = taken
  specs_agree (more_specs c x d) Γ =
      a_next (specs_agree c Γ)
      (λ b. must_not (twice x) (find (sort_of (declaration_of d)) x (components_of c)) (next (run_spec (extend Γ (structure b)) d) (λ e. Ok (more b x e))))
      (λ b. unless (find (sort_of (declaration_of d)) x (components_of c)) (on_some (more b x) (normalize_one (extend Γ (structure b)) (declaration_of d))))
      (λ b. a_must_not (twice x) (find (sort_of (declaration_of d)) x (components_of c)) (a_map (spec_agrees d (extend Γ (structure b))) (more b x)))

  spec_agrees : {C : Type 0} (d : SpecText) (Γ : Env) → Agrees {C = C} (run_spec Γ d) (normalize_one Γ (declaration_of d))
  spec_agrees abstract_spec Γ = taken
  spec_agrees (defined_spec t) Γ = a_map (type_agrees t Γ) defined
  spec_agrees (value_spec t) Γ = a_map (type_agrees t Γ) value
  spec_agrees (module_spec s) Γ = a_map (signature_agrees s Γ) nested

-- matching
none_first : {A : Type 0} (a b : Option A) → is_none (first_of a b) ≡ (is_none a && is_none b)
none_first None b = refl
none_first (Some x) b = refl

there_is : {A : Type 0} (w : Option Name) (o : Option A) (f : A → Option Mismatch) (g : A → Bool) → ((a : A) → is_none (f a) ≡ g a) → is_none (if_there w o f) ≡ given o g
there_is w None f g k = refl
there_is w (Some a) f g k = k a

same_as : (w : Option Name) (n : ℕ) (b : Bool) → is_none (if_same w n b) ≡ b
same_as w n true = refl
same_as w n false = refl

structure_is : (w : Option Name) (m : Option Mismatch) (b : Bool) → is_none m ≡ b → (o : Option Signature) → is_none (if_there w o (if_structure w m)) ≡ (is_structure o && b)
structure_is w m b e None = refl
structure_is w m b e (Some (structure c)) = e
structure_is w m b e (Some (functor s r)) = refl

-- without the type there is no normal form of its path
defined_is : (Γ : Env) (p : ModulePath) (x : Name) (u : Option Ty) (o : Option Declaration) → is_none (if_there (Some x) o (λ d. if_same (Some x) 3 (same_form (put p x o) u))) ≡ same_form (put p x o) u
defined_is Γ p x u None = refl
defined_is Γ p x u (Some d) = same_as (Some x) 3 (same_form (put p x (Some d)) u)

module _ (f : Env → Option Name → Signature → Signature → Option Mismatch) (g : Env → Signature → Signature → Bool)
    (k : (Γ : Env) (w : Option Name) (a b : Signature) → is_none (f Γ w a b) ≡ g Γ a b) where
  mutual
    lacks_is : (s : Signature) (Γ : Env) (p : ModulePath) (θ : Substitution) (w : Option Name) → is_none (lacks f Γ p θ w s) ≡ offered g Γ p θ s
    lacks_is (structure c) Γ p θ w = structure_is w (lacks_all f Γ p (under p θ) c) (offered_all g Γ p (under p θ) c) (lacks_all_is c Γ p (under p θ)) (lookup Γ p)
    lacks_is (functor s r) Γ p θ w =
        there_is w (lookup Γ p) (λ a. f Γ w a (on_signature θ (functor s r))) (λ a. g Γ a (on_signature θ (functor s r)))
        (λ a. k Γ w a (on_signature θ (functor s r)))

    pub lacks_all_is : (c : Components) (Γ : Env) (p : ModulePath) (θ : Substitution) → is_none (lacks_all f Γ p θ c) ≡ offered_all g Γ p θ c
    lacks_all_is empty Γ p θ = refl
    lacks_all_is (more c x d) Γ p θ =
        none_first (lacks_all f Γ p θ c) (lacks_one f Γ p θ x d) ∙ ap₂ (λ a b. a && b) (lacks_all_is c Γ p θ) (lacks_one_is d Γ p θ x)

    lacks_one_is : (d : Declaration) (Γ : Env) (p : ModulePath) (θ : Substitution) (x : Name) → is_none (lacks_one f Γ p θ x d) ≡ offered_one g Γ p θ x d
    lacks_one_is abstract Γ p θ x = there_is (Some x) (declared p a_type x (lookup Γ p)) (λ d. None) (λ d. true) (λ d. refl)
    lacks_one_is (defined t) Γ p θ x = defined_is Γ p x (normal_type Γ (on_type θ t)) (declared p a_type x (lookup Γ p))
    lacks_one_is (value t) Γ p θ x =
        there_is (Some x) (declared p a_value x (lookup Γ p)) (λ d. if_same (Some x) 2 (same_form (normal_value Γ d) (normal_type Γ (on_type θ t))))
        (λ d. same_form (normal_value Γ d) (normal_type Γ (on_type θ t))) (λ d. same_as (Some x) 2 (same_form (normal_value Γ d) (normal_type Γ (on_type θ t))))
    lacks_one_is (nested s) Γ p θ x = lacks_is s Γ (dot p x) θ (Some x)

normal_there : (w : Option Name) (o : Option Signature) (f : Signature → Option Mismatch) (g : Signature → Bool) → ((a : Signature) → is_none (f a) ≡ g a) → is_none (if_normal w o f) ≡ given o g
normal_there w None f g k = refl
normal_there w (Some a) f g k = k a

pub mismatch_is : (n : ℕ) (Γ : Env) (w : Option Name) (a b : Signature) → is_none (mismatch_to n Γ w a b) ≡ matches_to n Γ a b
mismatch_is zero Γ w a b = refl
mismatch_is (suc n) Γ w (structure g) (structure c) =
    lacks_all_is (mismatch_to n) (matches_to n) (mismatch_is n) c (extend Γ (structure g)) innermost at
mismatch_is (suc n) Γ w (structure g) (functor s r) = refl
mismatch_is (suc n) Γ w (functor s r) (structure c) = refl
mismatch_is (suc n) Γ w (functor s r) (functor u v) =
    normal_there w (normalize Γ u)
    (λ a. first_of (mismatch_to n Γ w a s) (if_normal w (normalize (extend Γ a) r) (λ b. mismatch_to n (extend Γ a) w b v)))
    (λ a. matches_to n Γ a s && given (normalize (extend Γ a) r) (λ b. matches_to n (extend Γ a) b v))
    (λ a. none_first (mismatch_to n Γ w a s) (if_normal w (normalize (extend Γ a) r) (λ b. mismatch_to n (extend Γ a) w b v))
    ∙ ap₂ (λ y z. y && z) (mismatch_is n Γ w a s)
    (normal_there w (normalize (extend Γ a) r) (λ b. mismatch_to n (extend Γ a) w b v) (λ b. matches_to n (extend Γ a) b v)
    (λ b. mismatch_is n (extend Γ a) w b v)))

-- terms and modules
module _ {C : Type 0} (rule : Operation → List Ty → Outcome C) where
  told_agrees : (place : ℕ) (o p : Outcome C) → Agrees (told place o p) (accepted o)
  told_agrees place (gives t) p = taken
  told_agrees place (refuses c) (gives t) = refused
  told_agrees place (refuses c) (refuses e) = refused

  ask_agrees : (numbers : Ty → Ty) (place : ℕ) (o : Operation) (ns : List Ty) → Agrees (ask rule numbers place o ns) (accepted (rule o ns))
  ask_agrees numbers place o ns = a_limited (told_agrees place (rule o ns) (rule o (map numbers ns))) small_type place

  mutual
    pub term_agrees : (t : Term) (numbers : Ty → Ty) (Γ : Env) (Δ : List Ty) → Agrees (run_term rule numbers Γ Δ t) (term_type rule Γ Δ t)
    term_agrees (variable place k) numbers Γ Δ = a_must (no_way place) (and_then (pick Δ k) (normal_type Γ))
    term_agrees (component place p x) numbers Γ Δ = a_must (no_way place) (and_then (declared p a_value x (lookup Γ p)) (normal_value Γ))
    term_agrees (integer place) numbers Γ Δ = ask_agrees numbers place Literal []
    term_agrees (operation place k ts) numbers Γ Δ =
        a_next (terms_agree ts numbers Γ Δ) (ask rule numbers place (Operator k)) (λ ns. accepted (rule (Operator k) ns)) (ask_agrees numbers place (Operator k))
    term_agrees (lambda place t b) numbers Γ Δ =
        a_next (type_agrees t Γ) (λ a. next (run_term rule numbers Γ (type_of t ∷ Δ) b) (λ r. ask rule numbers place Function (a ∷ r ∷ [])))
        (λ a. and_then (term_type rule Γ (type_of t ∷ Δ) b) (λ r. accepted (rule Function (a ∷ r ∷ []))))
        (λ a. a_next (term_agrees b numbers Γ (type_of t ∷ Δ)) (λ r. ask rule numbers place Function (a ∷ r ∷ [])) (λ r. accepted (rule Function (a ∷ r ∷ [])))
        (λ r. ask_agrees numbers place Function (a ∷ r ∷ [])))

    pub terms_agree : (ts : Terms) (numbers : Ty → Ty) (Γ : Env) (Δ : List Ty) → Agrees (run_terms rule numbers Γ Δ ts) (term_types rule Γ Δ ts)
    terms_agree no_terms numbers Γ Δ = taken
    terms_agree (more_terms t ts) numbers Γ Δ =
        a_next (term_agrees t numbers Γ Δ) (λ n. next (run_terms rule numbers Γ Δ ts) (λ ns. Ok (n ∷ ns))) (λ n. on_some (λ ns. n ∷ ns) (term_types rule Γ Δ ts))
        (λ n. a_map (terms_agree ts numbers Γ Δ) (λ ns. n ∷ ns))

  path_agrees : (Γ : Env) (place : ℕ) (p : ModulePath) → Agrees {C = C} (run_path Γ place p) (and_then (lookup Γ p) (λ s. normalize Γ (strengthen p s)))
  path_agrees Γ place p = a_limited (a_must (no_way place) (and_then (lookup Γ p) (λ s. normalize Γ (strengthen p s)))) small_signature place

  then_then : {A B D : Type 0} (o : Option A) (f : A → Option B) (g : B → Option D) → and_then (and_then o f) g ≡ and_then o (λ a. and_then (f a) g)
  then_then None f g = refl
  then_then (Some a) f g = refl

  no_functor_lem : {A B : Type 0} {r : Result A (Fault C)} {o : Option A} → Agrees r o → (place : ℕ) → Agrees {A = B} (next r (λ b. Err (no_functor place))) None
  no_functor_lem taken place = refused
  no_functor_lem refused place = refused
  no_functor_lem large place = large

  apply_agrees : (Γ : Env) (place argument : ℕ) (p : ModulePath) (f : Signature) → Agrees {C = C} (next (run_path Γ argument p) (λ b. run_apply Γ place argument p b f)) (apply Γ p f)
  apply_agrees Γ place argument p (structure c) = no_functor_lem (path_agrees Γ argument p) place
  apply_agrees Γ place argument p (functor s r) =
      subst (Agrees (next (run_path Γ argument p) (λ b. run_apply Γ place argument p b (functor s r))))
      (then_then (lookup Γ p) (λ a. normalize Γ (strengthen p a)) (λ b. cond (does_match Γ b s) (normalize Γ (on_signature (reading p) r)) None))
      (a_next (path_agrees Γ argument p) (λ b. run_apply Γ place argument p b (functor s r)) (λ b. cond (does_match Γ b s) (normalize Γ (on_signature (reading p) r)) None)
      (λ b. a_matched argument (mismatch Γ b s) (does_match Γ b s) (mismatch_is (extent b + extent s) Γ None b s)
      (a_limited (a_must (no_way place) (normalize Γ (on_signature (reading p) r))) small_signature place)))

  mutual
    pub module_agrees : (m : Module) (from : Head → ℕ) (Γ : Env) (k : ℕ) → Agrees (run_module rule from Γ k m) (check rule Γ m)
    module_agrees (module_path place p) from Γ k = path_agrees Γ place p
    module_agrees (struct place is) from Γ k = a_limit (items_agree is from Γ k) (λ c. small_signature (structure c)) place structure
    module_agrees (functor_of place s m) from Γ k =
        a_next (signature_agrees s Γ)
        (λ a. next (run_module rule (under (suc k) from) (extend Γ a) (suc (k + signature_size a)) m) (λ r. within (small_signature (functor a r)) (too_large place) (functor a r)))
        (λ a. on_some (functor a) (check rule (extend Γ a) m))
        (λ a. a_limit (module_agrees m (under (suc k) from) (extend Γ a) (suc (k + signature_size a))) (λ r. small_signature (functor a r)) place (functor a))
    module_agrees (applied place m argument p) from Γ k =
        a_next (module_agrees m from Γ k) (λ f. next (run_path Γ argument p) (λ b. run_apply Γ place argument p b f)) (apply Γ p)
        (apply_agrees Γ place argument p)
    module_agrees (ascribed place inner m s) from Γ k =
        a_next (module_agrees m from Γ k) (λ g. next (run_signature Γ s) (λ a. matched inner (mismatch Γ g a) (Ok a)))
        (λ g. and_then (normalize Γ (signature_of s)) (λ a. cond (does_match Γ g a) (Some a) None))
        (λ g. a_next (signature_agrees s Γ) (λ a. matched inner (mismatch Γ g a) (Ok a)) (λ a. cond (does_match Γ g a) (Some a) None)
        (λ a. a_matched inner (mismatch Γ g a) (does_match Γ g a) (mismatch_is (extent g + extent a) Γ None g a) taken))

    pub items_agree : (is : Items) (from : Head → ℕ) (Γ : Env) (k : ℕ) → Agrees (run_items rule from Γ k is) (check_all rule Γ is)
    items_agree no_items from Γ k = taken
    items_agree (more_items is x i) from Γ k =
        a_next (items_agree is from Γ k)
        (λ c. must_not (twice x) (find (item_sort i) x c) (next (run_item rule (under k from) (extend Γ (structure c)) (suc (k + components_size c)) i) (λ d. Ok (more c x d))))
        (λ c. unless (find (item_sort i) x c) (on_some (more c x) (check_item rule (extend Γ (structure c)) i)))
        (λ c. a_must_not (twice x) (find (item_sort i) x c) (a_map (item_agrees i (under k from) (extend Γ (structure c)) (suc (k + components_size c))) (more c x)))

    item_agrees : (i : Item) (from : Head → ℕ) (Γ : Env) (k : ℕ) → Agrees (run_item rule from Γ k i) (check_item rule Γ i)
    item_agrees (type_item t) from Γ k = a_map (type_agrees t Γ) defined
    item_agrees (let_item t) from Γ k = a_map (term_agrees t (in_numbers from Γ) Γ []) value
    item_agrees (module_item m) from Γ k = a_map (module_agrees m from Γ k) nested

-- units
pub data AgreesOnUnits {C : Type 0} : Result Known (UnitFault C) → Option Env → Type 0 where
  known : {w : Known} → AgreesOnUnits (Ok w) (Some w.signatures)
  unknowable : {f : UnitFault C} → AgreesOnUnits (Err f) None
  large_unit : {x : Name} {place : ℕ} {o : Option Env} → AgreesOnUnits (Err (record { name = x; fault = too_large place })) o

module _ {C : Type 0} (rule : Operation → List Ty → Outcome C) where
  one_agrees :
      (x : Name) (w : Known) {r : Result Signature (Fault C)} {o : Option Signature} → Agrees r o → (p : Option Signature) →
      AgreesOnUnits (in_unit x (must_not (twice x) p (next r (λ s. Ok (one_more x s w))))) (unless p (and_then o (λ s. Some (with_unit x s w.signatures))))
  one_agrees x w k (Some s) = unknowable
  one_agrees x w (taken {a = s}) None = known {w = one_more x s w}
  one_agrees x w refused None = unknowable
  one_agrees x w large None = large_unit

  pub units_agree : (us : Units) → AgreesOnUnits (run_units rule us) (check_units rule us)
  units_agree no_units = known
  units_agree (more_units us u) = go (units_agree us)
    where
      go :
          {r : Result Known (UnitFault C)} {o : Option Env} → AgreesOnUnits r o →
          AgreesOnUnits
          (next r (λ w. in_unit u.name (must_not (twice u.name) (w.signatures (unit u.name)) (next (run_unit rule w u) (λ s. Ok (one_more u.name s w))))))
          (and_then o (λ Γ. unless (Γ (unit u.name)) (and_then (check rule Γ u.body) (λ s. Some (with_unit u.name s Γ)))))
      go (known {w = w}) = one_agrees u.name w (module_agrees rule u.body w.stand w.signatures w.length) (w.signatures (unit u.name))
      go unknowable = unknowable
      go large_unit = large_unit

-- what follows where no size is refused
pub accepts_some : {A C : Type 0} {r : Result A (Fault C)} {o : Option A} → Agrees r o → is_accepted r ≡ true → (a : A) × (o ≡ Some a)
accepts_some (taken {a = a}) e = (a, refl)
accepts_some refused e = cc
accepts_some large e = cc

pub some_accepts : {A C : Type 0} {r : Result A (Fault C)} {o : Option A} → Agrees r o → is_size r ≡ false → (a : A) → o ≡ Some a → is_accepted r ≡ true
some_accepts taken q a e = refl
some_accepts refused q a e = cc
some_accepts large q a e = cc

pub ok_some : {A C : Type 0} {r : Result A (Fault C)} {o : Option A} → Agrees r o → (a : A) → r ≡ Ok a → o ≡ Some a
ok_some (taken {a = b}) a e = let i : b ≡ a = cc in ap Some i
ok_some refused a e = cc
ok_some large a e = cc

pub units_accepted : {C : Type 0} {r : Result Known (UnitFault C)} {o : Option Env} → AgreesOnUnits r o → is_accepted r ≡ true → (Γ : Env) × (o ≡ Some Γ)
units_accepted (known {w = w}) e = (w.signatures, refl)
units_accepted unknowable e = cc
units_accepted large_unit e = cc

pub accepted_units : {C : Type 0} {r : Result Known (UnitFault C)} {o : Option Env} → AgreesOnUnits r o → is_unit_size r ≡ false → (Γ : Env) → o ≡ Some Γ → is_accepted r ≡ true
accepted_units known q Γ e = refl
accepted_units unknowable q Γ e = cc
accepted_units large_unit q Γ e = cc

pub units_known : {C : Type 0} {r : Result Known (UnitFault C)} {o : Option Env} → AgreesOnUnits r o → (w : Known) → r ≡ Ok w → o ≡ Some w.signatures
units_known (known {w = v}) w e = let i : v ≡ w = cc in ap (λ z. Some z.signatures) i
units_known unknowable w e = cc
units_known large_unit w e = cc

pub fit_agrees :
    {C : Type 0} (w : Known) (g : Signature) (t : SignatureText) →
    Agrees {C = C} (run_fit w g t) (and_then (normalize w.signatures (signature_of t)) (λ a. cond (does_match w.signatures g a) (Some a) None))
fit_agrees w g t =
    let Γ = w.signatures in
    a_next (signature_agrees t Γ) (λ a. matched 0 (mismatch Γ g a) (Ok a)) (λ a. cond (does_match Γ g a) (Some a) None)
    (λ a. a_matched 0 (mismatch Γ g a) (does_match Γ g a) (mismatch_is (extent g + extent a) Γ None g a) taken)

-- a test of an answer is an answer that passes it
pub given_some : (o : Option Signature) (b : Signature → Bool) → given o b ≡ true → (a : Signature) × (and_then o (λ a. cond (b a) (Some a) None) ≡ Some a)
given_some None b e = cc
given_some (Some a) b e = (a, ap (λ z. cond z (Some a) None) e)

pub some_given : (o : Option Signature) (b : Signature → Bool) (a : Signature) → and_then o (λ a. cond (b a) (Some a) None) ≡ Some a → given o b ≡ true
some_given None b a e = cc
some_given (Some c) b a e = go (b c) e
  where
    go : (z : Bool) → cond z (Some c) None ≡ Some a → z ≡ true
    go true q = refl
    go false q = cc
