-- The answer of a line, once the arguments are compared with it.
use Rattle.std.proofs.Common.{◌≡◌, ℕ, ◌+◌, ◌<◌, ◌≤◌, Bool, true, false, cond, leb, List, length, Some, Ok, Err, Option, sym, refl, ap, ◌∙◌, subst, arith}
use Rattle.std.proofs.lemmas.Bool.Decides.{nat_tests}
use Rattle.std.specs.Option.{ok_or}
use Rattle.types.specs.Words.{whole, copied, copied_end}
use Rattle.cores.specs.Steps.{Items, Reached, start, run, proceed, result_words, worked, line_verdict, line_put, line_reply, line_leaves}
use Rattle.cores.specs.declared.interface.Refusal.TheVariants.{Size, Arguments, Short}

pub worked_met : (b : ℕ) (o : Option Items) (l : Items) (args : List ℕ) (s : Reached) → o ≡ Some l → Ok s ≡ run b l.arguments (start args) →
    worked b o args ≡ Ok (result_words b s l.result)
worked_met b o l args s e f =
    ap (λ (p : Option Items). worked b p args) e ∙ ap (λ r. proceed r (λ s. Ok (result_words b s l.result))) (sym f)

module _ (b : ℕ) (o : Option Items) (args : List ℕ) (ws : List ℕ) (w : whole args ≡ true) (e : worked b o args ≡ Ok ws) where
  reply_is : (room : ℕ) → line_reply b o args room ≡ line_verdict (Ok ws) room
  reply_is room =
      ap (λ (c : Bool). cond c (line_verdict (worked b o args) room) (Err Arguments)) w ∙ ap (λ r. line_verdict r room) e

  leaves_is : (out : List ℕ) → line_leaves b o args out ≡ line_put (Ok ws) out
  leaves_is out = ap (λ (c : Bool). cond c (line_put (worked b o args) out) out) w ∙ ap (λ r. line_put r out) e

  pub over : (out : List ℕ) → 32 < length ws →
      (Err Size ≡ line_reply b o args (length out)) × (out ≡ line_leaves b o args out)
  over out h =
      let t : leb (length ws) 32 ≡ false = grind (arith, nat_tests) in
      let r = reply_is (length out) in
      let l = leaves_is out in
      ((cc), (cc))

  -- what is kept within 32 words is copied, where there is room for it
  pub written : (out kept : List ℕ) → kept ≡ ws → length kept ≤ 32 →
      (ok_or (copied_end kept 0 (length out)) Short ≡ line_reply b o args (length out)) × (copied kept 0 out ≡ line_leaves b o args out)
  written out kept k h =
      let j = ap (λ (xs : List ℕ). length xs) k in
      let i : length ws ≤ 32 = omega arith in
      let t : leb (length ws) 32 ≡ true = grind (arith, nat_tests) in
      let r = reply_is (length out) in
      let l = leaves_is out in
      let z : 0 + length ws ≡ length ws = omega arith in
      subst (λ (xs : List ℕ). (ok_or (copied_end xs 0 (length out)) Short ≡ line_reply b o args (length out)) × (copied xs 0 out ≡ line_leaves b o args out)) (sym k) (go z (leb (length ws) (length out)) refl t r l)
    where
      go : (0 + length ws ≡ length ws) → (c : Bool) → leb (length ws) (length out) ≡ c → leb (length ws) 32 ≡ true →
          line_reply b o args (length out) ≡ line_verdict (Ok ws) (length out) → line_leaves b o args out ≡ line_put (Ok ws) out →
          (ok_or (copied_end ws 0 (length out)) Short ≡ line_reply b o args (length out)) × (copied ws 0 out ≡ line_leaves b o args out)
      go z true u t r l = ((cc), (cc))
      go z false u t r l = ((cc), (cc))
