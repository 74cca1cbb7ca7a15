-- Environments that are built up from nothing.
use Rattle.std.specs.Prelude.{◌≡◌, cond, Some, None}
use Rattle.std.specs.Str.{bytes_eq}
use Rattle.types.specs.Types.{Name, unit, binder}
use Rattle.rules.specs.Signatures.{Signature}
use Rattle.rules.specs.Lookup.{Env, extend}
use Rattle.rules.specs.Soundness.{Sound}

-- nothing is known
abbrev pub unknown : Env
unknown h = None

-- one more unit is known
abbrev pub with_unit : Name → Signature → Env → Env
with_unit x s Γ (unit y) = cond (bytes_eq x y) (Some s) (Γ (unit y))
with_unit x s Γ (binder n) = Γ (binder n)

-- units and binders are added one by one, each unit once, each signature sound with those before it known
pub data Built : Env → Type 0 where
  nothing_yet : Built unknown
  a_unit : {Γ : Env} (x : Name) (s : Signature) → Built Γ → Γ (unit x) ≡ None → Sound Γ s → Built (with_unit x s Γ)
  a_binder : {Γ : Env} (s : Signature) → Built Γ → Sound Γ s → Built (extend Γ s)
