-- Sound signatures: every path leads to the sort wanted, and each sort and name is declared once.
use Rattle.std.specs.Prelude.{◌≡◌, None}
use Rattle.types.specs.Types.{named, numbered, Ty, leaf, label0, label1, label2}
use Rattle.rules.specs.Signatures.{a_type, sort_of, Signature, structure, functor, Components, empty, more, Declaration, abstract, defined, value, nested, find}
use Rattle.rules.specs.Lookup.{Env, extend, Has}

-- every path in a type leads to a type; a number is no path
abbrev pub Leads : Env → Ty → Type 0
Leads Γ (leaf (named p x)) = (d : Declaration) × Has Γ p a_type x d
Leads Γ (leaf (numbered n)) = ⊥
Leads Γ (label0 l) = Unit {0}
Leads Γ (label1 l t) = Leads Γ t
Leads Γ (label2 l t u) = Leads Γ t × Leads Γ u

-- components are taken in order, each with those before it known; a functor's result with its parameter known
abbrev mutual
  pub Sound : Env → Signature → Type 0
  Sound Γ (structure c) = SoundAll Γ c
  Sound Γ (functor s r) = Sound Γ s × Sound (extend Γ s) r

  pub SoundAll : Env → Components → Type 0
  SoundAll Γ empty = Unit {0}
  SoundAll Γ (more c x d) =
      SoundAll Γ c × (find (sort_of d) x c ≡ None) × SoundOne (extend Γ (structure c)) d

  pub SoundOne : Env → Declaration → Type 0
  SoundOne Γ abstract = Unit {0}
  SoundOne Γ (defined t) = Leads Γ t
  SoundOne Γ (value t) = Leads Γ t
  SoundOne Γ (nested s) = Sound Γ s
