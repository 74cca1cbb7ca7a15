-- Fit says yes exactly of the signatures that are derived for the unit.
use Rattle.std.proofs.Common.{◌≡◌, ℕ, zero, suc, ◌<◌, ◌≤◌, Bool, true, false, cond, ◌||◌, eqb, ◌⊎◌, List, [], ◌∷◌, ◌++◌, length, Some, None, Option, sym, refl, ap, ◌∙◌, subst, inl, inr, arith}
use Rattle.std.specs.Str.{bytes_eq}
use Rattle.std.proofs.lemmas.Slice.Eq.{bytes_eq-Decides}
use Rattle.std.proofs.lemmas.Bool.{both_ways, not-true, not-false, eqb-true}
use Rattle.types.specs.Types.{Name, Ty}
use Rattle.cores.specs.Meaning.{Outcome, Stable}
use Rattle.cores.specs.declared.interface.Operation.{Operation}
use Rattle.order.specs.Picking.{has}
use Rattle.order.specs.Law.{LoadOrder}
use Rattle.rules.specs.Signatures.{on_some}
use Rattle.rules.specs.Syntax.{SignatureText, signature_of}
use Rattle.rules.specs.Naming.{signature_names}
use Rattle.rules.specs.Projects.{Units, no_units, more_units, DerivedFor}
use Rattle.checker.specs.Faults.{unknown_unit, Answer, ok, fault, and_then}
use Rattle.checker.specs.Texts.{check_sig}
use Rattle.checker.specs.Comparing.{match_sigs}
use Rattle.checker.specs.Modules.{matches}
use Rattle.checker.specs.Units.{Known, accepted, check_units, all_known, unknown_in_sig, fit}
use Rattle.checker.specs.Statements.{OnceUnits, FitDecided}
use Rattle.checker.specs.Written.{OnceSig}
use Rattle.checker.proofs.Fitted.{fit_law}
use Rattle.project_rules.specs.Project.{ProjectUnit, first_where, unit_at, name_at, seen, order_of, behind, units_at}
use Rattle.project_rules.specs.Check.{right, check_project}
use Rattle.project_rules.specs.Fit.{FitAnswer, FitNotSize, SaysYes, place_of, up_to, before, one_named, not_before_it, of_fit, fit_known, unless_head, fit_at, unless_absent}
use Rattle.project_rules.specs.Statements.{DistinctNames, OnceProject, Present, BehindWords, FitAnywhere, PresentAt, Stands, FitMeans, FitAnswersMean, FitLaw as ProjectFitLaw}
use Rattle.project_rules.proofs.Lists.{some_told, some_from, none_told, IsFirst, first_is, has_among, among_has}
use Rattle.project_rules.proofs.Answering.{right_means}
use Rattle.project_rules.proofs.Turns.{behind_append}
use Rattle.project_rules.proofs.Accepting.{once_units}
use Rattle.project_rules.proofs.Heads.{spot, in_sig, UnitAccepted, unit_accepted, front_accepted, scope_before}
use Rattle.project_rules.proofs.Numbers.{Only, only_fit}

-- the unit of a name
abbrev pub IsPlace : Name → List ProjectUnit → Option ℕ → Type 0
IsPlace x us None = Present us x → ⊥
IsPlace x us (Some i) = (i < length us) × (name_at us i ≡ x)

pub place_is : (x : Name) (us : List ProjectUnit) → IsPlace x us (place_of x us)
place_is x [] = λ p. let h = p.1 in omega arith
place_is x (u ∷ us) = go (bytes_eq u.text.name x) refl (place_of x us) (place_is x us)
  where
    go : (b : Bool) → bytes_eq u.text.name x ≡ b → (o : Option ℕ) → IsPlace x us o → IsPlace x (u ∷ us) (cond b (Some 0) (on_some suc o))
    go true e o h = (omega arith, (bytes_eq-Decides u.text.name x).0 e)
    go false e (Some i) h = (omega (arith, h.0), h.1)
    go false e None h = λ p. none p.0 p.1 p.2
      where
        none : (j : ℕ) → j < length (u ∷ us) → name_at (u ∷ us) j ≡ x → ⊥
        none zero l n = both_ways (bytes_eq u.text.name x) e ((bytes_eq-Decides u.text.name x).1 n)
        none (suc j) l n = h (j, omega arith, n)

pub place_of_lem : (us : List ProjectUnit) → DistinctNames us → (i : ℕ) → i < length us → place_of (name_at us i) us ≡ Some i
place_of_lem us d i l = go (place_of (name_at us i) us) (place_is (name_at us i) us)
  where
    go : (o : Option ℕ) → IsPlace (name_at us i) us o → o ≡ Some i
    go None h = absurd (h (i, l, refl))
    go (Some j) h = ap Some (d j i h.0 l h.1)

-- what stands before a place
pub up_to_splits : (i : ℕ) (l : List ℕ) → has l i ≡ true → (rest : List ℕ) × (l ≡ up_to i l ++ i ∷ rest)
up_to_splits i [] h = cc
up_to_splits i (j ∷ l) h = go (eqb j i) refl h (up_to_splits i l)
  where
    go : (b : Bool) → eqb j i ≡ b → (b || has l i) ≡ true → (has l i ≡ true → (rest : List ℕ) × (l ≡ up_to i l ++ i ∷ rest)) →
        (rest : List ℕ) × (j ∷ l ≡ cond b [] (j ∷ up_to i l) ++ i ∷ rest)
    go true e t ih = (l, ap (λ z. z ∷ l) (eqb-true j i e))
    go false e t ih = let r = ih t in (r.0, ap (λ z. j ∷ z) r.1)

pub stands : (us : List ProjectUnit) → LoadOrder (seen us) (order_of us) → (x : Name) (i : ℕ) → i < length us → name_at us i ≡ x → Stands us x i
stands us o x i l n =
    let s = up_to_splits i (order_of us) (o.every i l) in
    record { there = l; name = n; behind = s.0; order = s.1 }

once_prefix : (us : List ProjectUnit) (b : Units) (is : List ℕ) → OnceUnits (behind us b is) → OnceUnits b
once_prefix us b [] h = h
once_prefix us b (i ∷ is) h = (once_prefix us (more_units b (unit_at us i)) is h).0

module _ {C : Type 0} (rule : Operation → List Ty → Outcome C) where
  -- a unit of a checked project: it was accepted behind those before it
  pub record Checked (us : List ProjectUnit) (k : Known) (i : ℕ) : Type 0 where
    pub stand : Stands us (name_at us i) i
    pub through : Known
    pub answer : check_units rule (more_units (units_at us (before us i)) (unit_at us i)) ≡ accepted through
    pub unit_is : UnitAccepted rule (units_at us (before us i)) (unit_at us i) through
    pub fewer : through.next ≤ k.next

  pub units_split : (us : List ProjectUnit) (i : ℕ) (rest : List ℕ) → order_of us ≡ before us i ++ i ∷ rest →
      units_at us (order_of us) ≡ behind us (more_units (units_at us (before us i)) (unit_at us i)) rest
  units_split us i rest e = ap (units_at us) e ∙ behind_append us no_units (before us i) (i ∷ rest)

  pub checked : (us : List ProjectUnit) (k : Known) → check_project rule us ≡ right k → (i : ℕ) → i < length us → Checked us k i
  checked us k e i l =
      let m = right_means rule us k e in
      let s = stands us m.0 (name_at us i) i l refl in
      let f = front_accepted rule us (more_units (units_at us (before us i)) (unit_at us i)) s.behind k
      (sym (ap (check_units rule) (units_split us i s.behind s.order)) ∙ m.1) in
      record { stand = s; through = f.0; answer = f.1; unit_is = unit_accepted rule (units_at us (before us i)) (unit_at us i) f.0 f.1; fewer = f.2 }

  -- the checker's question about the text of a unit of a checked project
  abbrev pub asked : (us : List ProjectUnit) (k : Known) (i : ℕ) → Checked us k i → ℕ → SignatureText → Answer C (Unit {0})
  asked us k i c q s = fit c.unit_is.earlier.scope q c.unit_is.own s

  pub known_fit : (us : List ProjectUnit) (k : Known) (i : ℕ) (c : Checked us k i) (q : ℕ) (s : SignatureText) →
      fit_at rule us q s i ≡ unless_head (first_where (not_before_it us i) (signature_names s)) (of_fit (asked us k i c q s))
  known_fit us k i c q s =
      let a = c.unit_is in
      ap (unless_head (first_where (not_before_it us i) (signature_names s)))
      (ap (λ z. fit_known rule z q (unit_at us i) s) a.others ∙ ap (λ z. of_fit (and_then z (λ g. fit a.earlier.scope q g s))) a.module_is)

  pub known_heads : (us : List ProjectUnit) (k : Known) (i : ℕ) (c : Checked us k i) (s : SignatureText) →
      unknown_in_sig c.unit_is.earlier.scope s ≡ on_some spot (first_where (not_before_it us i) (signature_names s))
  known_heads us k i c s =
      let a = c.unit_is in
      in_sig a.earlier.scope (one_named us (before us i)) (scope_before rule us (before us i) a.earlier a.others) s

module _ {C : Type 0} (v : ℕ) (rule : Operation → List Ty → Outcome C) (law : Stable v rule) where
  -- yes exactly of what is derived for the unit at a place
  abbrev Exactly : List ProjectUnit → ℕ → SignatureText → FitAnswer C → Type 0
  Exactly us i s a =
      FitNotSize a → (SaysYes a → DerivedFor rule (units_at us (before us i)) (unit_at us i) (signature_of s))
      × (DerivedFor rule (units_at us (before us i)) (unit_at us i) (signature_of s) → SaysYes a)

  fit_exactly : (us : List ProjectUnit) (k : Known) → OnceProject us → check_project rule us ≡ right k → (i : ℕ) → i < length us →
      (s : SignatureText) → OnceSig s → (q : ℕ) → BehindWords rule us i q → Exactly us i s (fit_at rule us q s i)
  fit_exactly us k o e i l s os q w =
      subst (Exactly us i s) (sym (known_fit rule us k i c q s))
      (go (first_where (not_before_it us i) (signature_names s)) (known_heads rule us k i c s) (asked rule us k i c q s) refl decides)
    where
      c : Checked rule us k i
      c = checked rule us k e i l

      once : OnceUnits (more_units (units_at us (before us i)) (unit_at us i))
      once =
          once_prefix us (more_units (units_at us (before us i)) (unit_at us i)) c.stand.behind
          (subst OnceUnits (units_split rule us i c.stand.behind c.stand.order) (once_units us o (order_of us) (right_means rule us k e).0))

      decides : FitDecided rule (units_at us (before us i)) (unit_at us i) s (asked rule us k i c q s)
      decides =
          let a = c.unit_is in
          fit_law v rule law (units_at us (before us i)) (unit_at us i) a.earlier a.own q s once os a.others a.module_is
          (omega (arith, w c.through c.answer, ap (λ z. z.next) a.known))

      go : (h : Option (Name × ℕ)) → unknown_in_sig c.unit_is.earlier.scope s ≡ on_some spot h →
          (a : Answer C (Unit {0})) → asked rule us k i c q s ≡ a → FitDecided rule (units_at us (before us i)) (unit_at us i) s a →
          Exactly us i s (unless_head h (of_fit a))
      go None u (ok y) f d n = ((λ z. d), λ z. tt)
      go None u (fault x) f d n = ((λ z. absurd z), λ z. absurd (d (λ t. n (ap Some t)) z))
      go (Some h) u a f d n =
          let b : asked rule us k i c q s ≡ fault (unknown_unit h.1) =
          ap (λ r. and_then (all_known r) (λ t.
          and_then (check_sig c.unit_is.earlier.scope q s) (λ y. and_then (matches 0 (match_sigs c.unit_is.own y)) (λ σ. ok (tt {0}))))) u in (
            (λ z. absurd z),
            λ z. absurd (subst (FitDecided rule (units_at us (before us i)) (unit_at us i) s) (sym f ∙ b) d (λ t. let y : ⊥ = omega arith in y) z),
          )

  pub fit_anywhere : FitAnywhere rule
  fit_anywhere us k o e i l s os q w =
      subst (Exactly us i s) (sym (ap (λ p. unless_absent p (fit_at rule us q s)) (place_of_lem us o.distinct i l))) (fit_exactly us k o e i l s os q w)

  pub fit_project : ProjectFitLaw rule
  fit_project us k o e i l s os =
      fit_anywhere us k o e i l s os k.next
      (λ j f.
      let c = checked rule us k e i l in
      let same = sym f ∙ c.answer in
      let is : j ≡ c.through = cc in
      omega (arith, c.fewer, ap (λ z. z.next) is))

-- what an answer of fit says
some_present : (us : List ProjectUnit) (is : List ℕ) (x : Name) → one_named us is x ≡ true → PresentAt us is x
some_present us is x e =
    let r = some_told (λ j. bytes_eq (name_at us j) x) is e in
    (r.0, among_has is r.0 r.1, (bytes_eq-Decides (name_at us r.0) x).0 r.2)

present_some : (us : List ProjectUnit) (is : List ℕ) (x : Name) → PresentAt us is x → one_named us is x ≡ true
present_some us is x p =
    some_from (λ j. bytes_eq (name_at us j) x) is p.0 (has_among is p.0 p.1) ((bytes_eq-Decides (name_at us p.0) x).1 p.2)

-- the checker's numbers for a text
abbrev OfFit : ℕ → Type 0
OfFit n = (n ≡ 12) ⊎ ((n ≡ 15) ⊎ (n ≡ 16))

module _ {C : Type 0} (rule : Operation → List Ty → Outcome C) where
  pub fit_answers_mean : FitAnswersMean rule
  fit_answers_mean us k e q x s = outer (place_of x us) (place_is x us)
    where
      inner : (i : ℕ) → (c : Checked rule us k i) → Stands us x i → (h : Option (Name × ℕ)) → IsFirst (not_before_it us i) (signature_names s) h →
          unknown_in_sig c.unit_is.earlier.scope s ≡ on_some spot h →
          (a : Answer C (Unit {0})) → (unknown_in_sig c.unit_is.earlier.scope s ≡ None → Only OfFit a) → FitMeans us x s (unless_head h (of_fit a))
      inner i c t (Some h) f u a n = (
        i,
        t,
        record {
          front = f.0;
          name = h.0;
          rest = f.1;
          heads = f.2;
          fails = λ p. both_ways (one_named us (before us i) h.0) (not-true (one_named us (before us i) h.0) f.3) (present_some us (before us i) h.0 p);
          earlier = λ g m. some_present us (before us i) g.0 (not-false (one_named us (before us i) g.0) (f.4 g m));
        },
      )
      inner i c t None f u (ok y) n =
          (i, t, λ g m. some_present us (before us i) g.0 (not-false (one_named us (before us i) g.0) (none_told (not_before_it us i) (signature_names s) f g m)))
      inner i c t None f u (fault b) n =
          (i, t, (λ g m. some_present us (before us i) g.0 (not-false (one_named us (before us i) g.0) (none_told (not_before_it us i) (signature_names s) f g m))), n u)

      outer : (o : Option ℕ) → IsPlace x us o → FitMeans us x s (unless_absent o (fit_at rule us q s))
      outer None h = h
      outer (Some i) h =
          let c = checked rule us k e i h.0 in
          subst (FitMeans us x s) (sym (known_fit rule us k i c q s))
          (inner i c (stands us (right_means rule us k e).0 x i h.0 h.1) (first_where (not_before_it us i) (signature_names s))
          (first_is (not_before_it us i) (signature_names s)) (known_heads rule us k i c s) (asked rule us k i c q s)
          (only_fit C OfFit (inl refl) (inr (inl refl)) (inr (inr refl)) c.unit_is.earlier.scope q c.unit_is.own s))
