-- Copies of numbered signatures, and strengthening.
use Rattle.std.specs.Prelude.{ℕ, suc, ◌+◌}
use Rattle.checker.specs.Numbered.{Sig, sig, functor_sig, Parts, no_parts, more_parts, Part, abstract_part, defined_part, value_part, module_part, size_of, size_of_parts}
use Rattle.checker.specs.Meanings.{Meaning, numbered_type, itself, bind, meant}

-- a copy whose words begin at a place: each own abstract type gets its new place for its number, other numbers get their meaning;
-- beside the copy, what the numbers mean after it (those inside functors are not known outside)
abbrev mutual
  pub copy_sig : ℕ → Meaning → Sig → Sig × Meaning
  copy_sig q σ (sig c) = let r = copy_parts q σ c in (sig r.0, r.1)
  copy_sig q σ (functor_sig s r) =
      let p = copy_sig (suc q) σ s in
      let b = copy_sig (suc (q + size_of p.0)) p.1 r in
      (functor_sig p.0 b.0, σ)

  pub copy_parts : ℕ → Meaning → Parts → Parts × Meaning
  copy_parts q σ no_parts = (no_parts, σ)
  copy_parts q σ (more_parts c x d) =
      let b = copy_parts q σ c in
      let e = copy_part (q + size_of_parts b.0) b.1 d in
      (more_parts b.0 x e.0, e.1)

  pub copy_part : ℕ → Meaning → Part → Part × Meaning
  copy_part q σ (abstract_part n) = (abstract_part q, bind n (numbered_type q) σ)
  copy_part q σ (defined_part t) = (defined_part (meant σ t), σ)
  copy_part q σ (value_part t) = (value_part (meant σ t), σ)
  copy_part q σ (module_part s) = let r = copy_sig (suc q) σ s in (module_part r.0, r.1)

-- the copy alone
abbrev pub copied : ℕ → Meaning → Sig → Sig
copied q σ s = (copy_sig q σ s).0

-- the signature of a path, its words from a place on: each abstract type, in nested structures too but not inside functors,
-- is defined as its own number
abbrev mutual
  pub strengthened : ℕ → Sig → Sig
  strengthened q (sig c) = sig (strengthened_parts q c)
  strengthened q (functor_sig s r) = copied q itself (functor_sig s r)

  pub strengthened_parts : ℕ → Parts → Parts
  strengthened_parts q no_parts = no_parts
  strengthened_parts q (more_parts c x d) =
      let b = strengthened_parts q c in more_parts b x (strengthened_part (q + size_of_parts b) d)

  pub strengthened_part : ℕ → Part → Part
  strengthened_part q (abstract_part n) = defined_part (numbered_type n)
  strengthened_part q (defined_part t) = defined_part t
  strengthened_part q (value_part t) = value_part t
  strengthened_part q (module_part s) = module_part (strengthened (suc q) s)
