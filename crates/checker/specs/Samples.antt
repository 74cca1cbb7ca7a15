-- What the checker answers on the samples, over mini-ML.
use Rattle.std.specs.Prelude.{◌≡◌, ℕ, ◌+◌, Some, None, codes, Option}
use Rattle.types.specs.Types.{Name}
use Rattle.rules.specs.Syntax.{SignatureText, CompilationUnit}
use Rattle.rules.specs.Projects.{Units, no_units, more_units}
use Rattle.cores.specs.MiniMl.{ml_rule}
use Rattle.cores.specs.declared.lines.Position.{Position}
use Rattle.checker.specs.Numbered.{size_of}
use Rattle.checker.specs.Faults.{Fault, number_of, place_of, component_of, Cause, no_cause, matching, of_core, cause_in, Answer, ok, fault, and_then}
use Rattle.checker.specs.Modules.{check_module}
use Rattle.checker.specs.Units.{CheckAnswer, accepted, refused, check_units, fit}
use Rattle.checker.specs.SampleTexts.{unit1, unit2, unit3, unit4, unit5, unit6, unit7, unit8, unit9, unit10, unit11, unit12, unit13, unit14, unit15, unit16, unit17, unit18, unit19, unit20, unit21, unit22, unit23, unit24, unit25, unit26, unit27, unit28, unit29, unit30, unit31, text1, text2, text3, text4, text5, text6, text7, text8, text9, text10, text11, text12, text13, text14, text15, text16, text17, text18, text19, text20, text21, text22, text23, text24, text25, text26}

-- the position of an argument
abbrev pub position : ℕ → Position
position n = record { number = n }

-- an answer as it is told: no fault, or a fault's unit, number, place, component and cause
pub data Told : Type 0 where
  fine : Told
  says : Name → ℕ → ℕ → Option Name → Cause Position → Told

abbrev pub tell : Name → Fault Position → Told
tell x e = says x (number_of e) (place_of e) (component_of e) (cause_in e)

abbrev pub check_told : CheckAnswer Position → Told
check_told (accepted k) = fine
check_told (refused x e) = tell x e

abbrev pub fit_told : Name → Answer Position (Unit {0}) → Told
fit_told x (ok u) = fine
fit_told x (fault e) = tell x e

-- the units are answered so
abbrev pub Checks : Units → Told → Type 0
Checks us a = check_told (check_units ml_rule us) ≡ a

-- the signature is fitted to the last of the units, its words behind them
abbrev pub fit_behind : CheckAnswer Position → CompilationUnit → SignatureText → Told
fit_behind (accepted k) u s =
    fit_told u.name (and_then (check_module ml_rule k.scope k.next u.body) (λ g. fit k.scope (k.next + size_of g) g s))
fit_behind (refused x e) u s = tell x e

-- the signature is answered so for a unit behind others
abbrev pub Fits : Units → CompilationUnit → SignatureText → Told → Type 0
Fits us u s a = fit_behind (check_units ml_rule us) u s ≡ a

-- each fault and each cause of a check
abbrev pub CheckSamples : Type 0
CheckSamples =
    Checks no_units fine
    × Checks (more_units no_units unit1) fine
    × Checks (more_units no_units unit2) (says (codes "U") 13 100 None (of_core (position 1)))
    × Checks (more_units no_units unit3) fine
    × Checks (more_units no_units unit4) fine
    × Checks (more_units no_units unit5) (says (codes "U") 13 179 None (of_core (position 3)))
    × Checks (more_units no_units unit6) fine
    × Checks (more_units no_units unit7) (says (codes "U") 15 30 (Some (codes "y")) (matching 2))
    × Checks (more_units no_units unit8) fine
    × Checks (more_units no_units unit9) (says (codes "U") 15 117 (Some (codes "t")) (matching 1))
    × Checks (more_units no_units unit10) fine
    × Checks (more_units no_units unit11) fine
    × Checks (more_units no_units unit12) fine
    × Checks (more_units no_units unit13) (says (codes "U") 12 58 None no_cause)
    × Checks (more_units no_units unit14) (says (codes "U") 12 61 None no_cause)
    × Checks (more_units no_units unit15) (says (codes "U") 12 83 None no_cause)
    × Checks (more_units no_units unit16) (says (codes "U") 14 51 None no_cause)
    × Checks (more_units no_units unit17) (says (codes "U") 12 53 None no_cause)
    × Checks (more_units no_units unit18) fine
    × Checks (more_units no_units unit19) (says (codes "U") 14 76 None no_cause)
    × Checks (more_units no_units unit20) fine
    × Checks (more_units no_units unit21) fine
    × Checks (more_units (more_units (more_units no_units unit22) unit23) unit24) fine
    × Checks (more_units (more_units (more_units no_units unit25) unit24) unit22) fine
    × Checks (more_units (more_units (more_units (more_units no_units unit26) unit27) unit28) unit29) fine
    × Checks (more_units (more_units no_units unit30) unit31) fine

-- each fault and each cause of a fit
abbrev pub FitSamples : Type 0
FitSamples =
    Fits no_units unit1 text1 fine
    × Fits no_units unit1 text2 fine
    × Fits no_units unit1 text3 (says (codes "U") 15 0 (Some (codes "x")) (matching 2))
    × Fits no_units unit8 text4 fine
    × Fits no_units unit10 text5 (says (codes "U") 15 0 (Some (codes "x")) (matching 1))
    × Fits no_units unit10 text6 (says (codes "U") 15 0 (Some (codes "y")) (matching 1))
    × Fits no_units unit10 text3 (says (codes "U") 15 0 (Some (codes "x")) (matching 2))
    × Fits no_units unit10 text7 (says (codes "U") 15 0 (Some (codes "t")) (matching 3))
    × Fits no_units unit10 text8 fine
    × Fits no_units unit10 text9 (says (codes "U") 15 0 (Some (codes "w")) (matching 1))
    × Fits no_units unit10 text10 (says (codes "U") 15 0 (Some (codes "v")) (matching 2))
    × Fits no_units unit10 text11 (says (codes "U") 15 0 (Some (codes "N")) (matching 4))
    × Fits no_units unit10 text12 (says (codes "U") 15 0 (Some (codes "F")) (matching 4))
    × Fits no_units unit10 text13 (says (codes "U") 15 0 None (matching 4))
    × Fits no_units unit11 text14 fine
    × Fits no_units unit11 text15 fine
    × Fits no_units unit11 text16 (says (codes "U") 15 0 (Some (codes "a")) (matching 1))
    × Fits no_units unit11 text17 (says (codes "U") 15 0 (Some (codes "a")) (matching 2))
    × Fits no_units unit11 text18 (says (codes "U") 15 0 (Some (codes "b")) (matching 2))
    × Fits no_units unit11 text19 (says (codes "U") 15 0 (Some (codes "F")) (matching 4))
    × Fits no_units unit12 text20 fine
    × Fits no_units unit12 text21 (says (codes "U") 15 0 (Some (codes "u")) (matching 3))
    × Fits (more_units no_units unit30) unit31 text22 fine
    × Fits (more_units no_units unit30) unit31 text23 (says (codes "B") 12 12 None no_cause)
    × Fits (more_units no_units unit30) unit31 text24 (says (codes "B") 10 12 None no_cause)
    × Fits no_units unit30 text25 (says (codes "A") 10 12 None no_cause)
    × Fits no_units unit30 text26 (says (codes "A") 10 12 None no_cause)
