-- A row of scopes that grows by an entry.
use Rattle.std.proofs.Common.{◌≡◌, ℕ, zero, suc, ◌+◌, ◌-◌, ◌*◌, ◌<◌, ◌≤◌, Bool, cond, leb, ◌≢◌, List, ◌∷◌, length, get_or, set, Some, refl, ap, ◌∙◌, arith, length-set, get_or-set_other, get_or-set_same, le-leb}
use Rattle.reader.specs.declared.scope.Sort.{Sort}
use Rattle.reader.specs.declared.scope.Binder.{Binder}
use Rattle.reader.specs.Scopes.{Binding, Scope}
use Rattle.reader.specs.Rows.{binder_number, binder_at, part_of, entry_at, parent_at, scope_from, scope_of}
use Rattle.reader.specs.Frames.{four_at}
use Rattle.reader.specs.Firsts.{EnteredRow}
use Rattle.reader.proofs.Outward.{scope_step, parent_below}

binder_back : (b : Binder) → binder_at (binder_number b) ≡ b
binder_back Binder.Itself = refl
binder_back (Binder.Component Sort.«Type») = refl
binder_back (Binder.Component Sort.Value) = refl
binder_back (Binder.Component Sort.Module) = refl
binder_back Binder.Parameter = refl
binder_back Binder.Variable = refl

other : (w : List ℕ) (i j v : ℕ) → j ≢ i → get_or (set w i v) j 0 ≡ get_or w j 0
other w i j v ne = get_or-set_other w i j v 0 ne

module _ (w : List ℕ) (i a b c d : ℕ) where
  four_below : (j : ℕ) → j < 4 * i → get_or (four_at w i a b c d) j 0 ≡ get_or w j 0
  four_below j h =
      other (set (set (set w (4 * i) a) (4 * i + 1) b) (4 * i + 2) c) (4 * i + 3) j d (omega arith)
      ∙ other (set (set w (4 * i) a) (4 * i + 1) b) (4 * i + 2) j c (omega arith)
      ∙ other (set w (4 * i) a) (4 * i + 1) j b (omega arith)
      ∙ other w (4 * i) j a (omega arith)

  entry_below : (text : List ℕ) (j : ℕ) → j < i → entry_at (four_at w i a b c d) text j ≡ entry_at w text j
  entry_below text j h =
      λ k. record {
        binder = binder_at (four_below (4 * j) (omega arith) k);
        name = part_of text (four_below (4 * j + 2) (omega arith) k) (four_below (4 * j + 3) (omega arith) k);
      }

  parent_same : (j : ℕ) → j < i → parent_at (four_at w i a b c d) j ≡ parent_at w j
  parent_same j h = ap (λ (x : ℕ). cond (leb x j) x 0) (four_below (4 * j + 1) (omega arith))

  scope_below : (n : ℕ) (text : List ℕ) (j : ℕ) → j ≤ i → scope_from n (four_at w i a b c d) text j ≡ scope_from n w text j
  scope_below zero text j h = refl
  scope_below (suc n) text zero h = refl
  scope_below (suc n) text (suc j) h =
      let p = parent_below w j in
      ap (λ (x : Binding). x ∷ scope_from n (four_at w i a b c d) text (parent_at (four_at w i a b c d) j)) (entry_below text j (omega arith))
      ∙ ap (λ (x : ℕ). entry_at w text j ∷ scope_from n (four_at w i a b c d) text x) (parent_same j (omega arith))
      ∙ ap (λ (x : Scope). entry_at w text j ∷ x) (scope_below n text (parent_at w j) (omega arith))

  module _ (room : 4 * i + 4 ≤ length w) where
    four_0 : get_or (four_at w i a b c d) (4 * i) 0 ≡ a
    four_0 =
        other (set (set (set w (4 * i) a) (4 * i + 1) b) (4 * i + 2) c) (4 * i + 3) (4 * i) d (omega arith)
        ∙ other (set (set w (4 * i) a) (4 * i + 1) b) (4 * i + 2) (4 * i) c (omega arith)
        ∙ other (set w (4 * i) a) (4 * i + 1) (4 * i) b (omega arith)
        ∙ get_or-set_same w (4 * i) a 0 (omega arith)

    four_1 : get_or (four_at w i a b c d) (4 * i + 1) 0 ≡ b
    four_1 =
        other (set (set (set w (4 * i) a) (4 * i + 1) b) (4 * i + 2) c) (4 * i + 3) (4 * i + 1) d (omega arith)
        ∙ other (set (set w (4 * i) a) (4 * i + 1) b) (4 * i + 2) (4 * i + 1) c (omega arith)
        ∙ get_or-set_same (set w (4 * i) a) (4 * i + 1) b 0 (simp length-set (omega arith))

    four_2 : get_or (four_at w i a b c d) (4 * i + 2) 0 ≡ c
    four_2 =
        other (set (set (set w (4 * i) a) (4 * i + 1) b) (4 * i + 2) c) (4 * i + 3) (4 * i + 2) d (omega arith)
        ∙ get_or-set_same (set (set w (4 * i) a) (4 * i + 1) b) (4 * i + 2) c 0 (simp length-set (omega arith))

    four_3 : get_or (four_at w i a b c d) (4 * i + 3) 0 ≡ d
    four_3 = get_or-set_same (set (set (set w (4 * i) a) (4 * i + 1) b) (4 * i + 2) c) (4 * i + 3) d 0 (simp length-set (omega arith))

    entry_new : (text : List ℕ) → entry_at (four_at w i a b c d) text i ≡ record { binder = binder_at a; name = part_of text c d }
    entry_new text = λ k. record { binder = binder_at (four_0 k); name = part_of text (four_2 k) (four_3 k) }

    parent_new : b ≤ i → parent_at (four_at w i a b c d) i ≡ b
    parent_new h = ap (λ (x : ℕ). cond (leb x i) x 0) four_1 ∙ ap (λ (t : Bool). cond t b 0) (le-leb b i h)

-- an entry that is appended
pub appended : (w w' : List ℕ) (count : ℕ) (b : Binder) (parent from end number : ℕ) → 4 * count + 4 ≤ length w → parent ≤ count →
    number ≡ count + 1 → w' ≡ four_at w count (binder_number b) parent from end →
    EnteredRow w w' count (Some b) parent from end number number
appended w w' count b parent from end number room low n e =
    record {
      kept = λ text i h. ap (λ (x : List ℕ). scope_of x text i) e ∙ scope_below w count (binder_number b) parent from end i text i h;
      behind = λ text.
          let pos : 0 < count + 1 = omega arith in
          let back : count + 1 - 1 ≡ count = omega arith in
          let row : List ℕ = four_at w count (binder_number b) parent from end in
          ap (λ (x : List ℕ). scope_of x text number) e ∙ ap (scope_of row text) n ∙ scope_step row text (count + 1) pos
          ∙ ap (λ (j : ℕ). entry_at row text j ∷ scope_of row text (parent_at row j)) back
          ∙ ap (λ (x : Binding). x ∷ scope_of row text (parent_at row count)) (entry_new w count (binder_number b) parent from end room text)
          ∙ ap (λ (x : Binder). record { binder = x; name = part_of text from end } ∷ scope_of row text (parent_at row count)) (binder_back b)
          ∙ ap (λ (j : ℕ). record { binder = b; name = part_of text from end } ∷ scope_of row text j) (parent_new w count (binder_number b) parent from end room low)
          ∙ ap (λ (x : Scope). record { binder = b; name = part_of text from end } ∷ x) (scope_below w count (binder_number b) parent from end parent text parent low);
      within = omega arith;
      grown = omega arith;
      few = omega arith;
    }
