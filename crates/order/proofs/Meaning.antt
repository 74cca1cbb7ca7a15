-- What arranging answers means what is promised.
use Rattle.std.proofs.Common.{◌≡◌, ℕ, Bool, true, false, cond, ltb, get_or, Some, None, Ok, Err, Option, Result, sym, refl, subst, inl, inr, ⊎_elim, arith}
use Rattle.std.proofs.lemmas.Bool.{cases_Bool, both_ways, ltb-true}
use Rattle.order.specs.declared.Order.{Order}
use Rattle.order.specs.declared.Fault.{Fault}
use Rattle.order.specs.declared.Fault.TheVariants.{TooMany, Missing, Cycle}
use Rattle.order.specs.Units.{Units}
use Rattle.order.specs.Compare.{by_name}
use Rattle.order.specs.Picking.{load_order}
use Rattle.order.specs.Reaching.{Reaches, cyclic, missing, cycle}
use Rattle.order.specs.Law.{Complete, Acyclic, LeastNamed, ExistsExactly}
use Rattle.order.specs.Answer.{unless, arranged, Fits, Means}
use Rattle.order.proofs.LeastOf.{IsBest, best_is}
use Rattle.order.proofs.Precedence.{by_name_strict, by_name_told}
use Rattle.order.proofs.Closure.{reach_sound, reach_complete, reached_below}
use Rattle.order.proofs.Runs.{has_at, order_complete, order_acyclic}
use Rattle.order.proofs.Existence.{load_order_is, load_order_long}
use Rattle.order.proofs.Leastness.{load_order_least}

-- ---- the least-named unit with a property

pub least_named : (u : Units) (mark : ℕ → Bool) (P : ℕ → Type 0) → ((j : ℕ) → mark j ≡ true → P j) → ((j : ℕ) → P j → mark j ≡ true)
    → (i : ℕ) → IsBest mark (by_name u) u.count (Some i) → LeastNamed u P i
least_named u mark P told from i b = record {
  unit = b.0;
  told = told i b.1;
  least = λ j l p. ⊎_elim inl (λ h. inr (by_name_told u i j h)) (b.2 j l (from j p));
}

-- ---- the answer, question by question

pub exists_exactly : ExistsExactly
exists_exactly u = (
  (λ o. (order_complete u o.0 o.1, order_acyclic u o.0 o.1)),
  (λ h. (load_order u, load_order_is u h.0 h.1)),
)

module _ (u : Units) where
  ok_means : Complete u → Acyclic u → Means u (Ok (load_order u))
  ok_means complete acyclic =
      (complete, acyclic, load_order_is u complete acyclic, load_order_least u complete acyclic)

  cycle_asked : Complete u → (o : Option ℕ) → IsBest (cyclic u) (by_name u) u.count o
      → Means u (unless o Cycle (Ok (load_order u)))
  cycle_asked complete None b =
      ok_means complete (λ i r. b i (reached_below u r) (reach_complete u r))
  cycle_asked complete (Some i) b =
      let told = least_named u (cyclic u) (λ j. Reaches u j j) (λ j. reach_sound u u.count j j) (λ j. reach_complete u) i b in
      (complete, told, λ ps o. order_acyclic u ps o i told.told)

  missing_asked : (o : Option ℕ) → IsBest u.lacks (by_name u) u.count o
      → Means u (unless o Missing (unless (cycle u) Cycle (Ok (load_order u))))
  missing_asked None b =
      cycle_asked
      (λ i l. ⊎_elim (λ h. absurd (b i l h)) (λ h. h) (cases_Bool (u.lacks i)))
      (cycle u) (best_is (cyclic u) (by_name u) (by_name_strict u) u.count)
  missing_asked (Some i) b =
      let told = least_named u u.lacks (λ j. u.lacks j ≡ true) (λ j h. h) (λ j h. h) i b in
      (told, λ ps o. both_ways (u.lacks i) (order_complete u ps o i told.unit) told.told)

  many_asked : (b : Bool) → ltb 16 u.count ≡ b
      → Means u (cond b (Err TooMany) (unless (missing u) Missing (unless (cycle u) Cycle (Ok (load_order u)))))
  many_asked true e = ltb-true 16 u.count e
  many_asked false e = missing_asked (missing u) (best_is u.lacks (by_name u) (by_name_strict u) u.count)

  ok_fits : Complete u → Acyclic u → Fits u.count (Ok (load_order u))
  ok_fits complete acyclic =
      let long = load_order_long u complete acyclic in
      (long, λ k l. (load_order_is u complete acyclic).units (get_or (load_order u) k 0) (has_at (load_order u) k (omega (arith, long))))

  fits_from : (r : Result Order Fault) → r ≡ arranged u → Means u r → Fits u.count r
  fits_from (Err f) e m = tt
  fits_from (Ok o) e m = ok_only (ltb 16 u.count) (missing u) (cycle u) e
    where
      ok_only : (b : Bool) (p q : Option ℕ) → Ok o ≡ cond b (Err TooMany) (unless p Missing (unless q Cycle (Ok (load_order u))))
          → Fits u.count (Ok o)
      ok_only true p q e = cc
      ok_only false (Some i) q e = cc
      ok_only false None (Some i) e = cc
      ok_only false None None e = subst (Fits u.count) (sym e) (ok_fits m.0 m.1)

  pub means : Means u (arranged u)
  means = many_asked (ltb 16 u.count) refl

-- all that is promised of an answer follows from its equation
pub answers : (u : Units) (r : Result Order Fault) → r ≡ arranged u → record { answer : r ≡ arranged u; law : Means u r; exists : ExistsExactly; fits : Fits u.count r }
answers u r e =
    let law : Means u r = subst (Means u) (sym e) (means u) in
    record { answer = e; law = law; exists = exists_exactly; fits = fits_from u r e law }
