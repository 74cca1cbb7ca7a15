-- The samples by running the checker.
use Rattle.std.proofs.Common.{◌≡◌, Bool, true, false, [], ◌∷◌, length, refl}
use Rattle.cores.specs.MiniMl.{ml_rule}
use Rattle.rules.specs.Signatures.{Signature}
use Rattle.rules.specs.Syntax.{CompilationUnit}
use Rattle.rules.specs.Projects.{Units, DerivedFor}
use Rattle.rules.specs.Checker.{given, check_units, fits}
use Rattle.rules.specs.Statements.{CheckDecides, FitDecides}
use Rattle.rules.specs.Samples.{Derivable, Samples}
use Rattle.types.specs.Types.{leaf, numbered, label0, label2}
use Rattle.cores.specs.Meaning.{Outcome, gives, refuses, Stable}
use Rattle.cores.specs.MiniMl.{ml_words}
use Rattle.cores.specs.declared.interface.Operation.TheVariants.{Function}
use Rattle.cores.specs.declared.lines.Position.{Position}
use Rattle.rules.specs.Errors.{first_order_rule, ErrorsCaught}
use Rattle.rules.proofs.Settling.{given_true, given_is}

abbrev accepts : Units → Bool
accepts us = given (check_units ml_rule us) (λ Γ. true)

derivable : CheckDecides ml_rule → (us : Units) → accepts us ≡ true → Derivable us
derivable d us q = let w = given_true (check_units ml_rule us) (λ Γ. true) q in (d us).1 (w.0, w.1)

refused : CheckDecides ml_rule → (us : Units) → accepts us ≡ false → Derivable us → ⊥
refused d us q l =
    let w = (d us).0 l in
    let e : accepts us ≡ true = given_is (check_units ml_rule us) (λ Γ. true) w.0 w.1 refl in
    cc

unfit : FitDecides ml_rule → (us : Units) (u : CompilationUnit) (s : Signature) → fits ml_rule us u s ≡ false → DerivedFor ml_rule us u s → ⊥
unfit d us u s q l =
    let e = (d us u s).0 l in
    cc

pub samples : CheckDecides ml_rule → FitDecides ml_rule → Samples
samples c f = record {
  empty_project = derivable c _ refl;
  fits_nothing = (f _ _ _).1 refl;
  fits_int = (f _ _ _).1 refl;
  not_bool = unfit f _ _ _ refl;
  sealed = refused c _ refl;
  unsealed = derivable c _ refl;
  alias = derivable c _ refl;
  generative = refused c _ refl;
  applications = derivable c _ refl;
  wrong_argument = refused c _ refl;
  behind = derivable c _ refl;
  behind_too = derivable c _ refl;
  before = refused c _ refl;
  missing = refused c _ refl;
}

-- a function of an abstract type is accepted, and no more once that type is a function's
first_order_lem : Stable (length ml_words) first_order_rule → ⊥
first_order_lem law =
    let a = leaf (numbered 0) in
    let f = label2 2 (label0 0) (label0 0) in
    let e : first_order_rule Function (f ∷ f ∷ []) ≡ gives (label2 2 f f) = law (λ t. f) Function (a ∷ a ∷ []) (label2 2 a a) refl in
    let q : ◌≡◌ {A = Outcome Position} (refuses (record { number = 2 })) (gives (label2 2 f f)) = e in
    cc

pub errors_caught : CheckDecides ml_rule → ErrorsCaught
errors_caught c = record {
  first_order = first_order_lem;
  asks_less = derivable c _ refl;
  asks_more = refused c _ refl;
  nested = derivable c _ refl;
}
