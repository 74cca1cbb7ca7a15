-- What the check and fit answer on sample projects, over mini-ML.
use Rattle.std.specs.Prelude.{◌≡◌, ℕ, List, [], ◌∷◌, Some, None, codes, Option}
use Rattle.types.specs.Types.{Name, unit, at}
use Rattle.rules.specs.Syntax.{SignatureText, CompilationUnit, component, struct, no_items, more_items, let_item}
use Rattle.cores.specs.MiniMl.{ml_rule}
use Rattle.cores.specs.declared.lines.Position.{Position}
use Rattle.checker.specs.Faults.{number_of, place_of}
use Rattle.checker.specs.SampleTexts.{unit2, unit22, unit23, unit24, unit30, unit31, text1, text2, text3, text22, text23, text24, text25, text26}
use Rattle.project_rules.specs.Project.{ProjectUnit, order_of}
use Rattle.project_rules.specs.Check.{ProjectAnswer, right, lacking, circular, wrong, check_project}
use Rattle.project_rules.specs.Fit.{FitAnswer, fits, not_there, not_before, unfit, fit_from}

-- a unit at a rank
abbrev pub ranked : ℕ → CompilationUnit → ProjectUnit
ranked r u = record { rank = r; text = u }

-- an answer as it is told: yes, or the number, with the unit and the place where it has them
pub data Told : Type 0 where
  fine : Told
  says : ℕ → Option Name → Option ℕ → Told

-- what a check tells
abbrev pub check_told : ProjectAnswer Position → Told
check_told (right k) = fine
check_told (lacking x place) = says 10 (Some x) (Some place)
check_told (circular x) = says 11 (Some x) None
check_told (wrong x e) = says (number_of e) (Some x) (Some (place_of e))

-- what a fit tells
abbrev pub fit_told : FitAnswer Position → Told
fit_told fits = fine
fit_told not_there = says 8 None None
fit_told (not_before place) = says 10 None (Some place)
fit_told (unfit e) = says (number_of e) None (Some (place_of e))

-- fit where the check accepts, else what the check tells
abbrev pub fits_told : List ProjectUnit → ProjectAnswer Position → Name → SignatureText → Told
fits_told us (right k) x s = fit_told (fit_from ml_rule us k.next x s)
fits_told us (lacking y place) x s = check_told (lacking y place)
fits_told us (circular y) x s = check_told (circular y)
fits_told us (wrong y e) x s = check_told (wrong y e)

-- a project is answered so
abbrev pub Checks : List ProjectUnit → Told → Type 0
Checks us a = check_told (check_project ml_rule us) ≡ a

-- a signature is answered so for the unit of a name
abbrev pub Fits : List ProjectUnit → Name → SignatureText → Told → Type 0
Fits us x s a = fits_told us (check_project ml_rule us) x s ≡ a

-- module NAME = struct let x = OTHER.x end, with a name of one letter
abbrev pub naming : Name → Name → CompilationUnit
naming x y = record { name = x; body = struct 11 (more_items no_items (codes "x") (let_item (component 26 (at (unit y)) (codes "x")))) }

-- module B = struct let x = A.x let y = Y.x let z = Z.x end
abbrev pub naming_two : CompilationUnit
naming_two =
    record {
      name = codes "B";
      body = struct 11
          (more_items (more_items (more_items no_items (codes "x") (let_item (component 26 (at (unit (codes "A"))) (codes "x"))))
          (codes "y") (let_item (component 38 (at (unit (codes "Y"))) (codes "x"))))
          (codes "z") (let_item (component 50 (at (unit (codes "Z"))) (codes "x"))));
    }

-- A names C; B; C, in the order of the list
abbrev pub three_units : ℕ → List ProjectUnit
three_units r = ranked 100 unit24 ∷ ranked 100 unit22 ∷ ranked r unit23 ∷ []

-- a unit without items
abbrev pub bare : Name → ProjectUnit
bare x = ranked 100 (record { name = x; body = struct 11 no_items })

-- the load orders: B, C, A with equal ranks; C, A, B where C has rank 50; the same of another list of the same units; A before B that names it,
-- whatever their ranks; names byte by byte
abbrev pub OrderSamples : Type 0
OrderSamples =
    (order_of [] ≡ [])
    × (order_of (three_units 100) ≡ 1 ∷ 2 ∷ 0 ∷ [])
    × (order_of (three_units 50) ≡ 2 ∷ 0 ∷ 1 ∷ [])
    × (order_of (ranked 50 unit23 ∷ ranked 100 unit22 ∷ ranked 100 unit24 ∷ []) ≡ 0 ∷ 2 ∷ 1 ∷ [])
    × (order_of (ranked 7 unit31 ∷ ranked 200 unit30 ∷ []) ≡ 1 ∷ 0 ∷ [])
    × (order_of (bare (codes "B") ∷ bare (codes "A_") ∷ bare (codes "AB") ∷ bare (codes "AA") ∷ bare (codes "A0") ∷ bare (codes "A") ∷ [])
    ≡ 5 ∷ 4 ∷ 3 ∷ 2 ∷ 1 ∷ 0 ∷ [])

-- accepted projects, a unit that is not there, circles, and a fault of the checker
abbrev pub CheckSamples : Type 0
CheckSamples =
    Checks [] fine
    × Checks (three_units 100) fine
    × Checks (three_units 50) fine
    × Checks (ranked 100 unit31 ∷ []) (says 10 (Some (codes "B")) (Some 26))
    × Checks (ranked 7 unit31 ∷ ranked 200 unit30 ∷ []) fine
    × Checks (ranked 100 (naming (codes "A") (codes "C")) ∷ ranked 100 (naming (codes "C") (codes "B")) ∷ ranked 100 (naming (codes "B") (codes "C")) ∷ [])
    (says 11 (Some (codes "B")) None)
    × Checks (ranked 100 (naming (codes "A") (codes "A")) ∷ []) (says 11 (Some (codes "A")) None)
    × Checks (ranked 100 (naming (codes "A") (codes "A")) ∷ ranked 100 (naming (codes "B") (codes "Z")) ∷ []) (says 10 (Some (codes "B")) (Some 26))
    × Checks (ranked 100 (naming (codes "C") (codes "Z")) ∷ ranked 100 (naming (codes "B") (codes "Z")) ∷ []) (says 10 (Some (codes "B")) (Some 26))
    × Checks (ranked 100 unit30 ∷ ranked 100 naming_two ∷ []) (says 10 (Some (codes "B")) (Some 38))
    × Checks (ranked 100 unit2 ∷ []) (says 13 (Some (codes "U")) (Some 100))
    × Checks (ranked 100 (naming (codes "B") (codes "A")) ∷ ranked 100 unit24 ∷ ranked 100 unit23 ∷ []) (says 12 (Some (codes "B")) (Some 26))

-- A, and B that names it
abbrev pub two_units : List ProjectUnit
two_units = ranked 100 unit31 ∷ ranked 100 unit30 ∷ []

-- for B a text that names A, a component that A has not, and B; for A a text that names B, a unit that is not there, and a value rightly
-- and wrongly; for a unit that is not there
abbrev pub FitSamples : Type 0
FitSamples =
    Fits two_units (codes "B") text22 fine
    × Fits two_units (codes "B") text23 (says 12 None (Some 12))
    × Fits two_units (codes "B") text24 (says 10 None (Some 12))
    × Fits two_units (codes "A") text25 (says 10 None (Some 12))
    × Fits two_units (codes "A") text26 (says 10 None (Some 12))
    × Fits two_units (codes "A") text2 fine
    × Fits two_units (codes "A") text3 (says 15 None (Some 0))
    × Fits two_units (codes "C") text1 (says 8 None None)
    × Fits two_units (codes "C") text26 (says 8 None None)
