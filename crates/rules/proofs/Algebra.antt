-- The algebra of substitutions, and what they leave alone.
use Rattle.std.proofs.Common.{◌≡◌, zero, suc, ◌+◌, Bool, true, false, cond, ◌&&◌, Some, None, Option, sym, refl, ap, ◌∙◌, ap₂}
use Rattle.std.proofs.Math.Path.{fun_ext}
use Rattle.std.specs.Str.{bytes_eq}
use Rattle.types.specs.Types.{Name, Head, unit, binder, ModulePath, at, dot, named, numbered, Ty, leaf, label0, label1, label2}
use Rattle.rules.specs.Signatures.{Sort, Signature, structure, functor, Components, empty, more, Declaration, abstract, defined, value, nested, sort_of, same_sort, first_of, on_some, find, extent, extent_all, extent_one}
use Rattle.rules.specs.Substitution.{Substitution, under, outward, innermost, on_path, out, lift, reading, on_type, on_signature, on_components, on_declaration}

-- one substitution after another
abbrev pub after : Substitution → Substitution → Substitution
after σ θ h = on_path σ (θ h)

pub path_comp : (σ θ : Substitution) (p : ModulePath) → on_path σ (on_path θ p) ≡ on_path (after σ θ) p
path_comp σ θ (at h) = refl
path_comp σ θ (dot p x) = ap (λ q. dot q x) (path_comp σ θ p)

pub path_id : (p : ModulePath) → on_path at p ≡ p
path_id (at h) = refl
path_id (dot p x) = ap (λ q. dot q x) (path_id p)

pub lift_outward : (σ : Substitution) (h : Head) → lift σ (outward h) ≡ on_path out (σ h)
lift_outward σ (unit u) = refl
lift_outward σ (binder n) = refl

pub under_outward : {A : Type 0} (a : A) (f : Head → A) (h : Head) → under a f (outward h) ≡ f h
under_outward a f (unit u) = refl
under_outward a f (binder n) = refl

pub lift_after_out : (σ : Substitution) → after (lift σ) out ≡ after out σ
lift_after_out σ = fun_ext (lift_outward σ)

pub under_after_out : (q : ModulePath) (θ : Substitution) → after (under q θ) out ≡ θ
under_after_out q θ = fun_ext (under_outward q θ)

pub path_under_out : (q : ModulePath) (θ : Substitution) (p : ModulePath) → on_path (under q θ) (on_path out p) ≡ on_path θ p
path_under_out q θ p = path_comp (under q θ) out p ∙ ap (λ f. on_path f p) (under_after_out q θ)

pub path_lift_out : (σ : Substitution) (p : ModulePath) → on_path (lift σ) (on_path out p) ≡ on_path out (on_path σ p)
path_lift_out σ p = path_comp (lift σ) out p ∙ (ap (λ f. on_path f p) (lift_after_out σ) ∙ sym (path_comp out σ p))

-- reading a path under a binder that is read as q
pub after_under : (σ : Substitution) (q : ModulePath) (θ : Substitution) → after σ (under q θ) ≡ under (on_path σ q) (after σ θ)
after_under σ q θ = fun_ext go
  where
    go : (h : Head) → after σ (under q θ) h ≡ under (on_path σ q) (after σ θ) h
    go (unit u) = refl
    go (binder zero) = refl
    go (binder (suc n)) = refl

pub under_after_lift : (q : ModulePath) (σ θ : Substitution) → after (under q σ) (lift θ) ≡ under q (after σ θ)
under_after_lift q σ θ = fun_ext go
  where
    go : (h : Head) → after (under q σ) (lift θ) h ≡ under q (after σ θ) h
    go (unit u) = path_under_out q σ (θ (unit u))
    go (binder zero) = refl
    go (binder (suc n)) = path_under_out q σ (θ (binder n))

pub lift_after : (σ θ : Substitution) → after (lift σ) (lift θ) ≡ lift (after σ θ)
lift_after σ θ = fun_ext go
  where
    go : (h : Head) → after (lift σ) (lift θ) h ≡ lift (after σ θ) h
    go (unit u) = path_lift_out σ (θ (unit u))
    go (binder zero) = refl
    go (binder (suc n)) = path_lift_out σ (θ (binder n))

pub lift_id : lift at ≡ at
lift_id = fun_ext go
  where
    go : (h : Head) → lift at h ≡ at h
    go (unit u) = refl
    go (binder zero) = refl
    go (binder (suc n)) = refl

pub after_id : (θ : Substitution) → after at θ ≡ θ
after_id θ = fun_ext (λ h. path_id (θ h))

-- composition at types and signatures
pub type_comp : (σ θ : Substitution) (t : Ty) → on_type σ (on_type θ t) ≡ on_type (after σ θ) t
type_comp σ θ (leaf (named p x)) = ap (λ q. leaf (named q x)) (path_comp σ θ p)
type_comp σ θ (leaf (numbered n)) = refl
type_comp σ θ (label0 l) = refl
type_comp σ θ (label1 l t) = ap (label1 l) (type_comp σ θ t)
type_comp σ θ (label2 l t u) = ap₂ (label2 l) (type_comp σ θ t) (type_comp σ θ u)

pub type_id : (t : Ty) → on_type at t ≡ t
type_id (leaf (named p x)) = ap (λ q. leaf (named q x)) (path_id p)
type_id (leaf (numbered n)) = refl
type_id (label0 l) = refl
type_id (label1 l t) = ap (label1 l) (type_id t)
type_id (label2 l t u) = ap₂ (label2 l) (type_id t) (type_id u)

mutual
  pub signature_comp : (σ θ : Substitution) (s : Signature) → on_signature σ (on_signature θ s) ≡ on_signature (after σ θ) s
  signature_comp σ θ (structure c) =
      ap structure (components_comp (lift σ) (lift θ) c ∙ ap (λ f. on_components f c) (lift_after σ θ))
  signature_comp σ θ (functor s r) =
      ap₂ functor (signature_comp σ θ s) (signature_comp (lift σ) (lift θ) r ∙ ap (λ f. on_signature f r) (lift_after σ θ))

  pub components_comp : (σ θ : Substitution) (c : Components) → on_components σ (on_components θ c) ≡ on_components (after σ θ) c
  components_comp σ θ empty = refl
  components_comp σ θ (more c x d) = ap₂ (λ a b. more a x b) (components_comp σ θ c) (declaration_comp σ θ d)

  pub declaration_comp : (σ θ : Substitution) (d : Declaration) → on_declaration σ (on_declaration θ d) ≡ on_declaration (after σ θ) d
  declaration_comp σ θ abstract = refl
  declaration_comp σ θ (defined t) = ap defined (type_comp σ θ t)
  declaration_comp σ θ (value t) = ap value (type_comp σ θ t)
  declaration_comp σ θ (nested s) = ap nested (signature_comp σ θ s)

mutual
  pub signature_id : (s : Signature) → on_signature at s ≡ s
  signature_id (structure c) = ap structure (ap (λ f. on_components f c) lift_id ∙ components_id c)
  signature_id (functor s r) = ap₂ functor (signature_id s) (ap (λ f. on_signature f r) lift_id ∙ signature_id r)

  pub components_id : (c : Components) → on_components at c ≡ c
  components_id empty = refl
  components_id (more c x d) = ap₂ (λ a b. more a x b) (components_id c) (declaration_id d)

  pub declaration_id : (d : Declaration) → on_declaration at d ≡ d
  declaration_id abstract = refl
  declaration_id (defined t) = ap defined (type_id t)
  declaration_id (value t) = ap value (type_id t)
  declaration_id (nested s) = ap nested (signature_id s)

-- reading own components as p's, then replacing, is replacing, then reading them as the replaced p's
pub reading_after : (θ : Substitution) (p : ModulePath) → after θ (reading p) ≡ after (reading (on_path θ p)) (lift θ)
reading_after θ p = after_under θ p at ∙ (sym (ap (under (on_path θ p)) (after_id θ)) ∙ sym (under_after_lift (on_path θ p) at θ))

-- reading under θ is replacing under θ with the path for the binder
pub reading_lift : (q : ModulePath) (θ : Substitution) → after (reading q) (lift θ) ≡ under q θ
reading_lift q θ = under_after_lift q at θ ∙ ap (under q) (after_id θ)

pub reading_out : (q : ModulePath) → after (reading q) out ≡ at
reading_out q = under_after_out q at

-- a fresh binder read as itself
pub reading_fresh : after (reading innermost) (lift out) ≡ at
reading_fresh = fun_ext go
  where
    go : (h : Head) → after (reading innermost) (lift out) h ≡ at h
    go (unit u) = refl
    go (binder zero) = refl
    go (binder (suc n)) = refl

-- two replacements after each other are two others, where these make one and the same
square :
    {X : Type 0} (on : Substitution → X → X) → ((σ θ : Substitution) (x : X) → on σ (on θ x) ≡ on (after σ θ) x) →
    (σ θ σ' θ' : Substitution) → after σ θ ≡ after σ' θ' → (x : X) → on σ (on θ x) ≡ on σ' (on θ' x)
square on comp σ θ σ' θ' e x = comp σ θ x ∙ (ap (λ f. on f x) e ∙ sym (comp σ' θ' x))

-- these laws for types
pub type_reading_on : (θ : Substitution) (p : ModulePath) (t : Ty) → on_type θ (on_type (reading p) t) ≡ on_type (reading (on_path θ p)) (on_type (lift θ) t)
type_reading_on θ p = square on_type type_comp θ (reading p) (reading (on_path θ p)) (lift θ) (reading_after θ p)

pub type_lift_out : (θ : Substitution) (t : Ty) → on_type (lift θ) (on_type out t) ≡ on_type out (on_type θ t)
type_lift_out θ = square on_type type_comp (lift θ) out out θ (lift_after_out θ)

pub type_under_out : (q : ModulePath) (θ : Substitution) (t : Ty) → on_type (under q θ) (on_type out t) ≡ on_type θ t
type_under_out q θ t = type_comp (under q θ) out t ∙ ap (λ f. on_type f t) (under_after_out q θ)

pub type_reading_lift : (q : ModulePath) (θ : Substitution) (t : Ty) → on_type (reading q) (on_type (lift θ) t) ≡ on_type (under q θ) t
type_reading_lift q θ t = type_comp (reading q) (lift θ) t ∙ ap (λ f. on_type f t) (reading_lift q θ)

pub type_reading_out : (q : ModulePath) (t : Ty) → on_type (reading q) (on_type out t) ≡ t
type_reading_out q t = type_comp (reading q) out t ∙ (ap (λ f. on_type f t) (reading_out q) ∙ type_id t)

pub type_fresh : (t : Ty) → on_type (reading innermost) (on_type (lift out) t) ≡ t
type_fresh t = type_comp (reading innermost) (lift out) t ∙ (ap (λ f. on_type f t) reading_fresh ∙ type_id t)

-- these laws for signatures
pub signature_reading_on : (θ : Substitution) (p : ModulePath) (s : Signature) → on_signature θ (on_signature (reading p) s) ≡ on_signature (reading (on_path θ p)) (on_signature (lift θ) s)
signature_reading_on θ p = square on_signature signature_comp θ (reading p) (reading (on_path θ p)) (lift θ) (reading_after θ p)

pub signature_lift_out : (θ : Substitution) (s : Signature) → on_signature (lift θ) (on_signature out s) ≡ on_signature out (on_signature θ s)
signature_lift_out θ = square on_signature signature_comp (lift θ) out out θ (lift_after_out θ)

pub signature_under_out : (q : ModulePath) (θ : Substitution) (s : Signature) → on_signature (under q θ) (on_signature out s) ≡ on_signature θ s
signature_under_out q θ s = signature_comp (under q θ) out s ∙ ap (λ f. on_signature f s) (under_after_out q θ)

pub signature_reading_lift : (q : ModulePath) (θ : Substitution) (s : Signature) → on_signature (reading q) (on_signature (lift θ) s) ≡ on_signature (under q θ) s
signature_reading_lift q θ s = signature_comp (reading q) (lift θ) s ∙ ap (λ f. on_signature f s) (reading_lift q θ)

pub signature_reading_out : (q : ModulePath) (s : Signature) → on_signature (reading q) (on_signature out s) ≡ s
signature_reading_out q s = signature_comp (reading q) out s ∙ (ap (λ f. on_signature f s) (reading_out q) ∙ signature_id s)

pub signature_fresh : (s : Signature) → on_signature (reading innermost) (on_signature (lift out) s) ≡ s
signature_fresh s = signature_comp (reading innermost) (lift out) s ∙ (ap (λ f. on_signature f s) reading_fresh ∙ signature_id s)

-- these laws for components
pub components_reading_on : (θ : Substitution) (p : ModulePath) (c : Components) → on_components θ (on_components (reading p) c) ≡ on_components (reading (on_path θ p)) (on_components (lift θ) c)
components_reading_on θ p = square on_components components_comp θ (reading p) (reading (on_path θ p)) (lift θ) (reading_after θ p)

pub components_lift_out : (θ : Substitution) (c : Components) → on_components (lift θ) (on_components out c) ≡ on_components out (on_components θ c)
components_lift_out θ = square on_components components_comp (lift θ) out out θ (lift_after_out θ)

pub components_under_out : (q : ModulePath) (θ : Substitution) (c : Components) → on_components (under q θ) (on_components out c) ≡ on_components θ c
components_under_out q θ c = components_comp (under q θ) out c ∙ ap (λ f. on_components f c) (under_after_out q θ)

pub components_reading_lift : (q : ModulePath) (θ : Substitution) (c : Components) → on_components (reading q) (on_components (lift θ) c) ≡ on_components (under q θ) c
components_reading_lift q θ c = components_comp (reading q) (lift θ) c ∙ ap (λ f. on_components f c) (reading_lift q θ)

pub components_reading_out : (q : ModulePath) (c : Components) → on_components (reading q) (on_components out c) ≡ c
components_reading_out q c = components_comp (reading q) out c ∙ (ap (λ f. on_components f c) (reading_out q) ∙ components_id c)

pub components_fresh : (c : Components) → on_components (reading innermost) (on_components (lift out) c) ≡ c
components_fresh c = components_comp (reading innermost) (lift out) c ∙ (ap (λ f. on_components f c) reading_fresh ∙ components_id c)

-- these laws for declarations
pub declaration_reading_on : (θ : Substitution) (p : ModulePath) (d : Declaration) → on_declaration θ (on_declaration (reading p) d) ≡ on_declaration (reading (on_path θ p)) (on_declaration (lift θ) d)
declaration_reading_on θ p = square on_declaration declaration_comp θ (reading p) (reading (on_path θ p)) (lift θ) (reading_after θ p)

pub declaration_lift_out : (θ : Substitution) (d : Declaration) → on_declaration (lift θ) (on_declaration out d) ≡ on_declaration out (on_declaration θ d)
declaration_lift_out θ = square on_declaration declaration_comp (lift θ) out out θ (lift_after_out θ)

pub declaration_under_out : (q : ModulePath) (θ : Substitution) (d : Declaration) → on_declaration (under q θ) (on_declaration out d) ≡ on_declaration θ d
declaration_under_out q θ d = declaration_comp (under q θ) out d ∙ ap (λ f. on_declaration f d) (under_after_out q θ)

pub declaration_reading_lift : (q : ModulePath) (θ : Substitution) (d : Declaration) → on_declaration (reading q) (on_declaration (lift θ) d) ≡ on_declaration (under q θ) d
declaration_reading_lift q θ d = declaration_comp (reading q) (lift θ) d ∙ ap (λ f. on_declaration f d) (reading_lift q θ)

pub declaration_fresh : (d : Declaration) → on_declaration (reading innermost) (on_declaration (lift out) d) ≡ d
declaration_fresh d = declaration_comp (reading innermost) (lift out) d ∙ (ap (λ f. on_declaration f d) reading_fresh ∙ declaration_id d)

pub declaration_reading_out : (q : ModulePath) (d : Declaration) → on_declaration (reading q) (on_declaration out d) ≡ d
declaration_reading_out q d = declaration_comp (reading q) out d ∙ (ap (λ f. on_declaration f d) (reading_out q) ∙ declaration_id d)

-- a substitution keeps sorts, and so what is found
pub sort_on : (θ : Substitution) (d : Declaration) → sort_of (on_declaration θ d) ≡ sort_of d
sort_on θ abstract = refl
sort_on θ (defined t) = refl
sort_on θ (value t) = refl
sort_on θ (nested s) = refl

first_on : {A B : Type 0} (f : A → B) (o : Option A) (b : Bool) (a : A) → first_of (on_some f o) (cond b (Some (f a)) None) ≡ on_some f (first_of o (cond b (Some a) None))
first_on f (Some x) b a = refl
first_on f None true a = refl
first_on f None false a = refl

pub find_on : (θ : Substitution) (s : Sort) (x : Name) (c : Components) → find s x (on_components θ c) ≡ on_some (on_declaration θ) (find s x c)
find_on θ s x empty = refl
find_on θ s x (more c y d) =
    ap₂ (λ o z. first_of o (cond (same_sort s z && bytes_eq x y) (Some (on_declaration θ d)) None)) (find_on θ s x c) (sort_on θ d)
    ∙ first_on (on_declaration θ) (find s x c) (same_sort s (sort_of d) && bytes_eq x y) d

-- a substitution keeps the extent
mutual
  pub extent_on : (θ : Substitution) (s : Signature) → extent (on_signature θ s) ≡ extent s
  extent_on θ (structure c) = ap suc (extent_all_on (lift θ) c)
  extent_on θ (functor s r) = ap₂ (λ a b. suc (a + b)) (extent_on θ s) (extent_on (lift θ) r)

  pub extent_all_on : (θ : Substitution) (c : Components) → extent_all (on_components θ c) ≡ extent_all c
  extent_all_on θ empty = refl
  extent_all_on θ (more c x d) = ap₂ (λ a b. a + b) (extent_all_on θ c) (extent_one_on θ d)

  pub extent_one_on : (θ : Substitution) (d : Declaration) → extent_one (on_declaration θ d) ≡ extent_one d
  extent_one_on θ abstract = refl
  extent_one_on θ (defined t) = refl
  extent_one_on θ (value t) = refl
  extent_one_on θ (nested s) = extent_on θ s
