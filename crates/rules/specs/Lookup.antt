-- What an environment knows: where a path leads, and the normal form of a type.
use Rattle.std.specs.Prelude.{◌≡◌, Some, Option}
use Rattle.types.specs.Types.{Name, Head, ModulePath, at, dot, named, Ty, leaf, label0, label1, label2}
use Rattle.rules.specs.Signatures.{Sort, a_type, a_module, Signature, structure, Components, Declaration, abstract, defined, nested, find, on_some}
use Rattle.rules.specs.Substitution.{under, out, reading, on_signature, on_declaration}

-- the signature of each head that is known: units, functor parameters, and each structure around with its components so far
abbrev pub Env : Type 0
Env = Head → Option Signature

-- one more binder, of this signature
abbrev pub extend : Env → Signature → Env
extend Γ s = under (Some (on_signature out s)) (λ h. on_some (on_signature out) (Γ h))

-- a path leads to a module of a signature: a known head does, and a module in a structure does, read as the path's
pub data At (Γ : Env) : ModulePath → Signature → Type 0 where
  head : {h : Head} {s : Signature} → Γ h ≡ Some s → At Γ (at h) s
  inside :
      {p : ModulePath} {x : Name} {s : Signature} (c : Components) (d : Signature) →
      At Γ p (structure c) → find a_module x c ≡ Some (nested d) → on_signature (reading p) d ≡ s → At Γ (dot p x) s

-- the structure at a path has a component of this sort and name; what is said of it is read as the path's
pub record Has (Γ : Env) (p : ModulePath) (s : Sort) (x : Name) (d : Declaration) : Type 0 where
  pub components : Components
  pub declared : Declaration
  pub leads : At Γ p (structure components)
  pub found : find s x components ≡ Some declared
  pub reads : on_declaration (reading p) declared ≡ d

-- a type has a normal form: labels part by part, an abstract type is its own, a defined type has its definition's
pub data Normal (Γ : Env) : Ty → Ty → Type 0 where
  opaque : {p : ModulePath} {x : Name} → Has Γ p a_type x abstract → Normal Γ (leaf (named p x)) (leaf (named p x))
  unfolds :
      {p : ModulePath} {x : Name} {n : Ty} (t : Ty) →
      Has Γ p a_type x (defined t) → Normal Γ t n → Normal Γ (leaf (named p x)) n
  bare : {l : _} → Normal Γ (label0 l) (label0 l)
  part : {l : _} {t n : Ty} → Normal Γ t n → Normal Γ (label1 l t) (label1 l n)
  parts :
      {l : _} {t u n m : Ty} → Normal Γ t n → Normal Γ u m → Normal Γ (label2 l t u) (label2 l n m)

-- two types are the same when their normal forms are
pub record Same (Γ : Env) (t u : Ty) : Type 0 where
  pub form : Ty
  pub left : Normal Γ t form
  pub right : Normal Γ u form
