-- The loops over the items of a line.
use Rattle.std.proofs.Common.{◌≡◌, ℕ, ◌+◌, ◌<◌, ◌≤◌, List, [], ◌++◌, length, get_or, drop, Ok, Err, Result, sym, ap, ◌∙◌}
use Rattle.std.proofs.lemmas.List.{drop_more, drop_all}
use Rattle.cores.specs.Steps.{Reached, step, proceed, run, item_words, result_words}
use Rattle.cores.specs.declared.lines.Item.{Item}
use Rattle.cores.specs.declared.lines.Item.TheVariants.{Arg}

run_at : (b : ℕ) (is : List Item) (i : ℕ) (s : Reached) → i < length is →
    run b (drop i is) s ≡ proceed (step b (get_or is i (Arg 0)) s) (λ s'. run b (drop (i + 1) is) s')
run_at b is i s h = ap (λ (js : List Item). run b js s) (drop_more is i (Arg 0) h)

pub run_more : (b : ℕ) (is : List Item) (i : ℕ) (s s' : Reached) (target : Result Reached ℕ) → run b (drop i is) s ≡ target → i < length is →
    Ok s' ≡ step b (get_or is i (Arg 0)) s → run b (drop (i + 1) is) s' ≡ target
run_more b is i s s' target e h f =
    ap (λ (r : Result Reached ℕ). proceed r (λ s'. run b (drop (i + 1) is) s')) f ∙ sym (run_at b is i s h) ∙ e

pub run_break : (b : ℕ) (is : List Item) (i : ℕ) (s : Reached) (n : ℕ) (target : Result Reached ℕ) → run b (drop i is) s ≡ target → i < length is →
    Err n ≡ step b (get_or is i (Arg 0)) s → Err n ≡ target
run_break b is i s n target e h f =
    ap (λ (r : Result Reached ℕ). proceed r (λ s'. run b (drop (i + 1) is) s')) f ∙ sym (run_at b is i s h) ∙ e

pub run_end : (b : ℕ) (is : List Item) (i : ℕ) (s : Reached) (target : Result Reached ℕ) → run b (drop i is) s ≡ target → length is ≤ i → Ok s ≡ target
run_end b is i s target e h = sym (ap (λ (js : List Item). run b js s) (drop_all i is h)) ∙ e

-- the words of the items from i on: the item's, then the others'
pub words_more : (b : ℕ) (s : Reached) (is : List Item) (i : ℕ) → i < length is →
    result_words b s (drop i is) ≡ item_words b s (get_or is i (Arg 0)) ++ result_words b s (drop (i + 1) is)
words_more b s is i h = ap (result_words b s) (drop_more is i (Arg 0) h)

pub words_end : (b : ℕ) (s : Reached) (is : List Item) (i : ℕ) → length is ≤ i → result_words b s (drop i is) ≡ []
words_end b s is i h = ap (result_words b s) (drop_all i is h)
