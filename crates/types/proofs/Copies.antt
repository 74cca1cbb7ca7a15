-- What a copy leaves, and how a result is put together item by item.
use Rattle.std.proofs.Common.{◌≡◌, ℕ, ◌+◌, ◌≤◌, Bool, true, cond, leb, List, ◌++◌, length, take, drop, Some, None, sym, ap, ◌∙◌, arith, length-append}
use borrow.Rule.Slice.PartMut.{put_mid}
use Rattle.std.proofs.lemmas.List.{drop-drop, take_at, drop_at, length-take-le, append_assoc}
use Rattle.std.proofs.lemmas.Bool.Decides.{nat_tests}
use Rattle.types.specs.Words.{pasted, copied, copied_end}

pub copied_where : (ws : List ℕ) (n : ℕ) (out : List ℕ) → n + length ws ≤ length out → copied ws n out ≡ pasted ws n out
copied_where ws n out h = let e : leb (n + length ws) (length out) ≡ true = grind (arith, nat_tests) in ap (λ (c : Bool). cond c (pasted ws n out) out) e

pub copied_end_where : (ws : List ℕ) (n room : ℕ) → n + length ws ≤ room → copied_end ws n room ≡ Some (n + length ws)
copied_end_where ws n room h = let e : leb (n + length ws) room ≡ true = grind (arith, nat_tests) in ap (λ (c : Bool). cond c (Some (n + length ws)) None) e

pub put_mid_pasted : (ws ys : List ℕ) (n k : ℕ) (out : List ℕ) → ys ≡ ws → k ≡ length ws → put_mid n k out ys ≡ pasted ws n out
put_mid_pasted ws ys n k out e f =
    let d = drop-drop k n out in
    ap (λ (zs : List ℕ). take n out ++ (zs ++ drop k (drop n out))) e
    ∙ ap (λ (zs : List ℕ). take n out ++ (ws ++ zs)) (d ∙ ap (λ (m : ℕ). drop (n + m) out) f)

pub take_pasted : (ws : List ℕ) (n : ℕ) (out : List ℕ) → n + length ws ≤ length out → take (n + length ws) (pasted ws n out) ≡ take n out ++ ws
take_pasted ws n out h =
    let l = length-take-le n out (omega arith) in
    let m = length-append (take n out) ws in
    ap (take (n + length ws)) (sym (append_assoc (take n out) ws (drop (n + length ws) out))) ∙ take_at (take n out ++ ws) (drop (n + length ws) out) (n + length ws) (omega arith)

pub drop_pasted : (ws : List ℕ) (n : ℕ) (out : List ℕ) → n + length ws ≤ length out → drop (n + length ws) (pasted ws n out) ≡ drop (n + length ws) out
drop_pasted ws n out h =
    let l = length-take-le n out (omega arith) in
    let m = length-append (take n out) ws in
    ap (drop (n + length ws)) (sym (append_assoc (take n out) ws (drop (n + length ws) out))) ∙ drop_at (take n out ++ ws) (drop (n + length ws) out) (n + length ws) (omega arith)
