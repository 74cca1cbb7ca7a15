-- What a match and a refused match mean, without a bound: all components of the wanted signature have partners, or there is a first one that fails.
use Rattle.std.specs.Prelude.{◌≡◌, ℕ, Some, None, Option, ◌≢◌}
use Rattle.types.specs.Types.{Name, Ty}
use Rattle.rules.specs.Signatures.{a_type, a_value, a_module}
use Rattle.checker.specs.Numbered.{Sig, sig, functor_sig, Parts, no_parts, more_parts, Part, abstract_part, defined_part, value_part, module_part, sort_of_part, find_part}
use Rattle.checker.specs.Meanings.{Meaning, itself, bind, meant}
use Rattle.checker.specs.Scope.{type_of_part}
use Rattle.checker.specs.Faults.{Mismatch, missing, other_value, other_type, other_kind}
use Rattle.checker.specs.Comparing.{Verdict, matched, differs, match_sigs}

mutual
  -- a given signature with its meaning meets a wanted one with its own, whose numbers then mean what is last:
  -- structures component by component; functors when the wanted parameter meets the given one, and then the given result the wanted one
  pub data Meets : Meaning → Sig → Meaning → Sig → Meaning → Type 0 where
    structures_meet : {σ τ υ : Meaning} {g c : Parts} → MeetsAll σ g τ c υ → Meets σ (sig g) τ (sig c) υ
    functors_meet :
        {σ τ : Meaning} {s r s' r' : Sig} (υ φ : Meaning) →
        Meets τ s' σ s υ → Meets υ r τ r' φ → Meets σ (functor_sig s r) τ (functor_sig s' r') τ

  -- each wanted component has a partner of its sort and name that meets it
  pub data MeetsAll : Meaning → Parts → Meaning → Parts → Meaning → Type 0 where
    none_wanted : {σ τ : Meaning} {g : Parts} → MeetsAll σ g τ no_parts τ
    one_more :
        {σ τ φ : Meaning} {g c : Parts} {x : Name} {e : Part} (υ : Meaning) (d : Part) →
        MeetsAll σ g τ c υ → find_part (sort_of_part e) x g ≡ Some d → MeetsOne σ d υ e φ → MeetsAll σ g τ (more_parts c x e) φ

  -- an abstract type asks no more and means from then on what its partner means; a defined type or a value has the same type;
  -- a module's signature meets the wanted one
  pub data MeetsOne : Meaning → Part → Meaning → Part → Meaning → Type 0 where
    any_type : {σ τ : Meaning} {d : Part} {n : ℕ} (t : Ty) → type_of_part (Some d) ≡ Some t → MeetsOne σ d τ (abstract_part n) (bind n (meant σ t) τ)
    same_type : {σ τ : Meaning} {d : Part} {u : Ty} (t : Ty) → type_of_part (Some d) ≡ Some t → meant σ t ≡ meant τ u → MeetsOne σ d τ (defined_part u) τ
    same_value : {σ τ : Meaning} {t u : Ty} → meant σ t ≡ meant τ u → MeetsOne σ (value_part t) τ (value_part u) τ
    sub_module : {σ τ υ : Meaning} {s w : Sig} → Meets σ s τ w υ → MeetsOne σ (module_part s) τ (module_part w) υ

mutual
  -- the match fails, inside the component around it, first at the component told and for this cause: a functor against a structure;
  -- in the components; in the functors' parameters; or in their results, where the parameters meet
  pub data Fails : Meaning → Sig → Meaning → Sig → Option Name → Option Name → Mismatch → Type 0 where
    no_functor_given : {σ τ : Meaning} {g : Parts} {s r : Sig} {x : Option Name} → Fails σ (sig g) τ (functor_sig s r) x x other_kind
    no_structure_given : {σ τ : Meaning} {c : Parts} {s r : Sig} {x : Option Name} → Fails σ (functor_sig s r) τ (sig c) x x other_kind
    in_components : {σ τ : Meaning} {g c : Parts} {x y : Option Name} {m : Mismatch} → FailsAll σ g τ c y m → Fails σ (sig g) τ (sig c) x y m
    in_parameters :
        {σ τ : Meaning} {s r s' r' : Sig} {x y : Option Name} {m : Mismatch} →
        Fails τ s' σ s x y m → Fails σ (functor_sig s r) τ (functor_sig s' r') x y m
    in_results :
        {σ τ : Meaning} {s r s' r' : Sig} {x y : Option Name} {m : Mismatch} (υ : Meaning) →
        Meets τ s' σ s υ → Fails υ r τ r' x y m → Fails σ (functor_sig s r) τ (functor_sig s' r') x y m

  -- it fails before the last component, or there and those before it meet
  pub data FailsAll : Meaning → Parts → Meaning → Parts → Option Name → Mismatch → Type 0 where
    earlier :
        {σ τ : Meaning} {g c : Parts} {x : Name} {e : Part} {y : Option Name} {m : Mismatch} →
        FailsAll σ g τ c y m → FailsAll σ g τ (more_parts c x e) y m
    here :
        {σ τ : Meaning} {g c : Parts} {x : Name} {e : Part} {y : Option Name} {m : Mismatch} (υ : Meaning) →
        MeetsAll σ g τ c υ → FailsOne σ g υ x e y m → FailsAll σ g τ (more_parts c x e) y m

  -- no component has its sort and name; the value, or the type, is another; or its module fails inside
  pub data FailsOne : Meaning → Parts → Meaning → Name → Part → Option Name → Mismatch → Type 0 where
    is_missing : {σ τ : Meaning} {g : Parts} {x : Name} {e : Part} → find_part (sort_of_part e) x g ≡ None → FailsOne σ g τ x e (Some x) missing
    another_value :
        {σ τ : Meaning} {g : Parts} {x : Name} {u : Ty} (t : Ty) →
        find_part a_value x g ≡ Some (value_part t) → (meant σ t ≢ meant τ u) → FailsOne σ g τ x (value_part u) (Some x) other_value
    another_type :
        {σ τ : Meaning} {g : Parts} {x : Name} {u : Ty} (d : Part) (t : Ty) →
        find_part a_type x g ≡ Some d → type_of_part (Some d) ≡ Some t → (meant σ t ≢ meant τ u) → FailsOne σ g τ x (defined_part u) (Some x) other_type
    in_module :
        {σ τ : Meaning} {g : Parts} {x : Name} {w : Sig} {y : Option Name} {m : Mismatch} (s : Sig) →
        find_part a_module x g ≡ Some (module_part s) → Fails σ s τ w (Some x) y m → FailsOne σ g τ x (module_part w) y m

-- what a verdict says
abbrev pub Settles : Meaning → Sig → Meaning → Sig → Option Name → Verdict → Type 0
Settles σ g τ w x (matched υ) = Meets σ g τ w υ
Settles σ g τ w x (differs y m) = Fails σ g τ w x y m

-- a match says that the signatures meet; a refusal tells the first component that fails, in the wanted order, and its cause
abbrev pub FirstFailure : Type 0
FirstFailure = (g w : Sig) → Settles itself g itself w None (match_sigs g w)

-- each sort and name is declared once
abbrev mutual
  pub Once : Sig → Type 0
  Once (sig c) = OnceAll c
  Once (functor_sig s r) = Once s × Once r

  pub OnceAll : Parts → Type 0
  OnceAll no_parts = Unit {0}
  OnceAll (more_parts c x d) = OnceAll c × (find_part (sort_of_part d) x c ≡ None) × OnceIn d

  pub OnceIn : Part → Type 0
  OnceIn (abstract_part n) = Unit {0}
  OnceIn (defined_part t) = Unit {0}
  OnceIn (value_part t) = Unit {0}
  OnceIn (module_part s) = Once s

-- a signature matches itself, and its numbers mean themselves then
abbrev pub MatchesItself : Type 0
MatchesItself = (s : Sig) → Once s → match_sigs s s ≡ matched itself
