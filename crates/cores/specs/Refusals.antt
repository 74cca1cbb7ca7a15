-- The position that is refused is the first one with which no accepted list begins.
use Rattle.std.specs.Prelude.{◌≡◌, ℕ, suc, ◌+◌, ◌<◌, ◌≤◌, List, [], ◌∷◌, ◌++◌, map, length, take, Some, None, Ok, Err, Option, refl}
use Rattle.std.proofs.Common.{sym, ap, ◌∙◌, arith}
use Rattle.types.specs.Types.{Ty}
use Rattle.cores.specs.Lines.{Pattern, fill, Known, onward, fit, meets, value}
use Rattle.cores.specs.Fits.{agrees_values, meets_fill, err_ok}

-- arguments with which an accepted list begins
abbrev pub Leads : ℕ → ℕ → List Pattern → List Ty → Known → Type 0
Leads b n ps ts k = (rest : List Ty) × (k' : Known) × (meets b n ps (ts ++ rest) k ≡ Ok k')

pub record Wrong (b n : ℕ) (ps : List Pattern) (ts : List Ty) (k : Known) (m : ℕ) : Type 0 where
  pub fine : ℕ
  pub next : m ≡ n + fine
  pub within : fine ≤ length ts
  pub before : Leads b n ps (take fine ts) k
  pub at : fine < length ts → Leads b n ps (take (suc fine) ts) k → ⊥

-- whatever is known, a line can be met
leads_empty : (b n : ℕ) (ps : List Pattern) (k : Known) → Leads b n ps [] k
leads_empty b n ps k =
    let g = meets_fill b n ps (value k.tau) (value k.rho) k (agrees_values k) in
    (map (fill b (value k.tau) (value k.rho)) ps, g.0, g.1)

leads_cons : (b n : ℕ) (p : Pattern) (ps : List Pattern) (u : Ty) (us : List Ty) (k k' : Known) → fit b p u k ≡ Some k' →
    Leads b (suc n) ps us k' → Leads b n (p ∷ ps) (u ∷ us) k
leads_cons b n p ps u us k k' e (rest, j, q) =
    (rest, j, ap (λ (o : Option Known). onward n o (λ k'. meets b (suc n) ps (us ++ rest) k')) e ∙ q)

leads_tail : (b n : ℕ) (p : Pattern) (ps : List Pattern) (u : Ty) (us : List Ty) (k k' : Known) → fit b p u k ≡ Some k' →
    Leads b n (p ∷ ps) (u ∷ us) k → Leads b (suc n) ps us k'
leads_tail b n p ps u us k k' e (rest, j, q) =
    (rest, j, sym (ap (λ (o : Option Known). onward n o (λ k'. meets b (suc n) ps (us ++ rest) k')) e) ∙ q)

leads_none : (b n : ℕ) (p : Pattern) (ps : List Pattern) (u : Ty) (us : List Ty) (k : Known) → fit b p u k ≡ None →
    Leads b n (p ∷ ps) (u ∷ us) k → ⊥
leads_none b n p ps u us k e (rest, j, q) =
    err_ok j n (sym (ap (λ (o : Option Known). onward n o (λ k'. meets b (suc n) ps (us ++ rest) k')) e) ∙ q)

pub meets_wrong : (b n : ℕ) (ps : List Pattern) (ts : List Ty) (k : Known) (m : ℕ) → meets b n ps ts k ≡ Err m → Wrong b n ps ts k m
meets_wrong b n [] [] k m e = err_ok k m (sym e)
meets_wrong b n [] (u ∷ us) k m e =
    let h : n ≡ m = cc in
    record { fine = 0; next = omega arith; within = omega arith; before = ([], k, refl); at = λ _ l. err_ok l.1 n l.2 }
meets_wrong b n (p ∷ ps) [] k m e =
    let h : n ≡ m = cc in
    record { fine = 0; next = omega arith; within = omega arith; before = leads_empty b n (p ∷ ps) k; at = λ l _. omega arith }
meets_wrong b n (p ∷ ps) (u ∷ us) k m e = go (fit b p u k) refl e (λ k' q. meets_wrong b (suc n) ps us k' m q)
  where
    go : (o : Option Known) → fit b p u k ≡ o → onward n o (λ k'. meets b (suc n) ps us k') ≡ Err m →
        ((k' : Known) → meets b (suc n) ps us k' ≡ Err m → Wrong b (suc n) ps us k' m) → Wrong b n (p ∷ ps) (u ∷ us) k m
    go None f q again =
        let h : n ≡ m = cc in
        record { fine = 0; next = omega arith; within = omega arith; before = leads_empty b n (p ∷ ps) k; at = λ _ l. leads_none b n p ps u [] k f l }
    go (Some k') f q again =
        let w = again k' q in
        let h = w.next in
        let i = w.within in
        record {
          fine = suc w.fine;
          next = omega arith;
          within = omega arith;
          before = leads_cons b n p ps u (take w.fine us) k k' f w.before;
          at = λ l d. w.at (omega arith) (leads_tail b n p ps u (take (suc w.fine) us) k k' f d);
        }
