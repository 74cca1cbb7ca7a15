-- The rules: what a term has for its type, and a module for its signature.
use Rattle.std.specs.Prelude.{◌≡◌, ℕ, zero, suc, Bool, true, List, [], ◌∷◌, Some, None, Option, ◌≢◌}
use Rattle.types.specs.Types.{Name, ModulePath, Ty}
use Rattle.cores.specs.Meaning.{Outcome, gives}
use Rattle.cores.specs.declared.interface.Operation.{Operation}
use Rattle.cores.specs.declared.interface.Operation.TheVariants.{Literal, Function, Operator}
use Rattle.rules.specs.Signatures.{Sort, a_type, a_value, a_module, Signature, structure, functor, Components, empty, more, defined, value, nested}
use Rattle.rules.specs.Substitution.{reading, on_signature}
use Rattle.rules.specs.Lookup.{Env, extend, At, Has, Normal}
use Rattle.rules.specs.Soundness.{Leads, Sound}
use Rattle.rules.specs.Matching.{Matches}
use Rattle.rules.specs.Strengthening.{strengthen}
use Rattle.rules.specs.Syntax.{TypeText, type_of, SignatureText, signature_of, Term, variable, component, integer, operation, lambda, Terms, no_terms, more_terms, Module, module_path, struct, functor_of, applied, ascribed, Items, no_items, more_items, Item, type_item, let_item, module_item}

-- the type of a variable, counted outward
abbrev pub pick : List Ty → ℕ → Option Ty
pick [] k = None
pick (t ∷ ts) zero = Some t
pick (t ∷ ts) (suc k) = pick ts k

-- the sort that an item declares
abbrev pub item_sort : Item → Sort
item_sort (type_item t) = a_type
item_sort (let_item t) = a_value
item_sort (module_item m) = a_module

-- no item declares this sort and name
abbrev pub Undeclared : Sort → Name → Items → Type 0
Undeclared s x no_items = Unit {0}
Undeclared s x (more_items is y i) = Undeclared s x is × (item_sort i ≡ s → y ≢ x)

mutual
  -- a term has a type, given in normal form: a variable its own, a value path its component's,
  -- the literal, an operator and a function what the core's rule gives for the normal forms of the arguments
  pub data TermHas {C : Type 0} (rule : Operation → List Ty → Outcome C) (Γ : Env) : List Ty → Term → Ty → Type 0 where
    of_variable :
        {Δ : List Ty} {place k : ℕ} {n : Ty} (t : Ty) →
        pick Δ k ≡ Some t → Normal Γ t n → TermHas rule Γ Δ (variable place k) n
    of_component :
        {Δ : List Ty} {place : ℕ} {p : ModulePath} {x : Name} {n : Ty} (t : Ty) →
        Has Γ p a_value x (value t) → Normal Γ t n → TermHas rule Γ Δ (component place p x) n
    of_integer : {Δ : List Ty} {place : ℕ} {n : Ty} → rule Literal [] ≡ gives n → TermHas rule Γ Δ (integer place) n
    of_operation :
        {Δ : List Ty} {place k : ℕ} {ts : Terms} {n : Ty} (ns : List Ty) →
        TermsHave rule Γ Δ ts ns → rule (Operator k) ns ≡ gives n → TermHas rule Γ Δ (operation place k ts) n
    of_lambda :
        {Δ : List Ty} {place : ℕ} {t : TypeText} {b : Term} {n : Ty} (a r : Ty) →
        Normal Γ (type_of t) a → TermHas rule Γ (type_of t ∷ Δ) b r → rule Function (a ∷ r ∷ []) ≡ gives n →
        TermHas rule Γ Δ (lambda place t b) n

  -- each argument has its type
  pub data TermsHave {C : Type 0} (rule : Operation → List Ty → Outcome C) (Γ : Env) : List Ty → Terms → List Ty → Type 0 where
    none_have : {Δ : List Ty} → TermsHave rule Γ Δ no_terms []
    more_have :
        {Δ : List Ty} {t : Term} {ts : Terms} {n : Ty} {ns : List Ty} →
        TermHas rule Γ Δ t n → TermsHave rule Γ Δ ts ns → TermsHave rule Γ Δ (more_terms t ts) (n ∷ ns)

mutual
  -- a module has a signature; the sixth rule may be used only where `free` says so
  pub data Derives {C : Type 0} (rule : Operation → List Ty → Outcome C) (free : Bool) : Env → Module → Signature → Type 0 where
    -- 1. a path has what it leads to, its abstract types defined as the path's
    by_path :
        {Γ : Env} {place : ℕ} {p : ModulePath} (s : Signature) →
        At Γ p s → Derives rule free Γ (module_path place p) (strengthen p s)
    -- 2. a structure has one component an item
    by_items :
        {Γ : Env} {place : ℕ} {is : Items} {c : Components} →
        DerivesAll rule free Γ is c → Derives rule free Γ (struct place is) (structure c)
    -- 3. a functor's written parameter is sound, and its body has the result with the parameter known
    by_functor :
        {Γ : Env} {place : ℕ} {s : SignatureText} {m : Module} {r : Signature} →
        Sound Γ (signature_of s) → Derives rule free (extend Γ (signature_of s)) m r →
        Derives rule free Γ (functor_of place s m) (functor (signature_of s) r)
    -- 4. an application: what the path has by the first rule matches the parameter, and the path is put for it in the result
    by_application :
        {Γ : Env} {place argument : ℕ} {m : Module} {p : ModulePath} (s r a : Signature) →
        Derives rule free Γ m (functor s r) → At Γ p a → Matches Γ (strengthen p a) s →
        Derives rule free Γ (applied place m argument p) (on_signature (reading p) r)
    -- 5. a module with a written signature: it is sound, and the module's signature matches it
    by_signature :
        {Γ : Env} {place inner : ℕ} {m : Module} {s : SignatureText} (g : Signature) →
        Derives rule free Γ m g → Sound Γ (signature_of s) → Matches Γ g (signature_of s) →
        Derives rule free Γ (ascribed place inner m s) (signature_of s)
    -- 6. the free rule: every sound signature that a signature of the module matches
    by_matching :
        {Γ : Env} {m : Module} {s : Signature} (g : Signature) →
        free ≡ true → Derives rule free Γ m g → Sound Γ s → Matches Γ g s → Derives rule free Γ m s

  -- the items of a structure, each with those before it known, each sort and name once
  pub data DerivesAll {C : Type 0} (rule : Operation → List Ty → Outcome C) (free : Bool) : Env → Items → Components → Type 0 where
    no_item : {Γ : Env} → DerivesAll rule free Γ no_items empty
    type_too :
        {Γ : Env} {is : Items} {c : Components} {x : Name} {t : TypeText} →
        DerivesAll rule free Γ is c → Undeclared a_type x is → Leads (extend Γ (structure c)) (type_of t) →
        DerivesAll rule free Γ (more_items is x (type_item t)) (more c x (defined (type_of t)))
    let_too :
        {Γ : Env} {is : Items} {c : Components} {x : Name} {t : Term} {n : Ty} →
        DerivesAll rule free Γ is c → Undeclared a_value x is → TermHas rule (extend Γ (structure c)) [] t n →
        DerivesAll rule free Γ (more_items is x (let_item t)) (more c x (value n))
    module_too :
        {Γ : Env} {is : Items} {c : Components} {x : Name} {m : Module} {s : Signature} →
        DerivesAll rule free Γ is c → Undeclared a_module x is → Derives rule free (extend Γ (structure c)) m s →
        DerivesAll rule free Γ (more_items is x (module_item m)) (more c x (nested s))
