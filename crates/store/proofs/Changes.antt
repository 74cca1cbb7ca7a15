-- The records of a directory after a change.
use Rattle.std.proofs.Common.{◌≡◌, ℕ, suc, ◌∷◌, ◌++◌, true, drop, replicate, sym, ◌+◌, ◌-◌, ◌<◌, ◌≤◌, max, List, length, get_or, take, set, ap, ◌∙◌, arith}
use Rattle.std.proofs.lemmas.List.{length-take-le, length-set, length-append, length-drop, length-replicate, drop_at, drop-drop, drop-replicate, drop-set, drop-set-lt}
use Rattle.store.specs.declared.entry.Entry.{Entry}
use Rattle.store.specs.Entries.{blank, lawful, seat, entered, vacated}
use Rattle.store.specs.Directories.{IsDirectory}
use Rattle.store.proofs.Seats.{seat_le, take_entered, take_vacated}

pub records_with : (n i m : ℕ) (e : Entry) (es : List Entry) → length es ≡ 16 → n ≤ 16 → i ≡ seat e.name (take n es) → m ≡ max n (i + 1) → i < 16 → take m (set es i e) ≡ entered (seat e.name (take n es)) e (take n es)
records_with n i m e es long few at end room =
    let le : i ≤ n = omega (arith, seat_le e.name (take n es), length-take-le n es (omega arith)) in
    ap (λ k. take k (set es i e)) end ∙ take_entered n i e es le (omega arith) (omega arith) ∙ ap (λ k. entered k e (take n es)) at

pub records_without : (n i name : ℕ) (es : List Entry) → length es ≡ 16 → n ≤ 16 → i ≡ seat name (take n es) → i < n → take (n - 1) (set es i (get_or es (n - 1) blank)) ≡ vacated (seat name (take n es)) blank (take n es)
records_without n i name es long few at room =
    take_vacated n i blank es (omega arith) (omega arith) ∙ ap (λ k. vacated k blank (take n es)) at

-- the places behind the entries stay blank
blank_behind : (n k : ℕ) (es : List Entry) → n ≤ k → drop n es ≡ replicate (16 - n) blank → drop k es ≡ replicate (16 - k) blank
blank_behind n k es h rest =
    let sum : n + (k - n) ≡ k = omega arith in
    let less : 16 - n - (k - n) ≡ 16 - k = omega arith in
    ap (λ m. drop m es) (sym sum) ∙ sym (drop-drop (k - n) n es) ∙ ap (drop (k - n)) rest ∙ drop-replicate (k - n) (16 - n) blank ∙ ap (λ m. replicate m blank) less

pub rest_with : (n i m : ℕ) (e : Entry) (es : List Entry) → m ≡ max n (i + 1) → drop n es ≡ replicate (16 - n) blank → drop m (set es i e) ≡ replicate (16 - m) blank
rest_with n i m e es end rest = drop-set-lt m es i e (omega arith) ∙ blank_behind n m es (omega arith) rest

pub rest_without : (n i : ℕ) (e : Entry) (es : List Entry) → length es ≡ 16 → n ≤ 16 → i < n → drop n es ≡ replicate (16 - n) blank → drop (n - 1) (set (set es i e) (n - 1) blank) ≡ replicate (16 - (n - 1)) blank
rest_without n i e es long few room rest =
    let next : n - 1 + 1 ≡ n = omega arith in
    let more : suc (16 - n) ≡ 16 - (n - 1) = omega arith in
    drop-set (set es i e) (n - 1) blank (omega (arith, length-set es i e))
    ∙ ap (λ k. blank ∷ drop k (set es i e)) next
    ∙ ap (λ t. blank ∷ t) (drop-set-lt n es i e room ∙ rest)
    ∙ ap (λ k. replicate k blank) more

-- the first places filled, and the others still blank
pub filled : (n : ℕ) (es : List Entry) → length es ≡ n → n ≤ 16 → lawful (take n (es ++ drop n (replicate 16 blank))) ≡ true → IsDirectory (record { count = n; entries = es ++ drop n (replicate 16 blank) })
filled n es long few ok =
    let rest = drop n (replicate 16 blank) in record {
      long = length-append es rest ∙ omega (arith, length-drop n (replicate 16 blank), length-replicate 16 blank);
      few = few;
      ok = ok;
      rest = drop_at es rest n long ∙ drop-replicate n 16 blank;
    }
